use Rattle.std.proofs.Common.{sym, arith}
use Rattle.calendar.proofs.Days.{is-date-valid, day-within}
use Rattle.calendar.proofs.day_of.Goals as goal

pub overflow_add-result-2 : goal.overflow_add-result-2
overflow_add-result-2 c =
    let v = is-date-valid c.args.date (sym c.if-not-is_date.ensures) in
    omega (arith, day-within c.args.date v, c.year_start.ensures, c.month_start.ensures)
