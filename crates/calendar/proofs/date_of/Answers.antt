use Rattle.std.proofs.Common.{◌≡◌, suc, ◌+◌, ◌-◌, ltb, sym, ap, ◌∙◌, arith}
use Rattle.std.proofs.lemmas.Bool.{lt-ltb}
use Rattle.calendar.specs.Dates.{days_to, day_in, date_on, year_days}
use Rattle.calendar.specs.declared.Date.{Date}
use Rattle.calendar.proofs.Years.{days_to-next, day_of_month}
use Rattle.calendar.proofs.Days.{Valid, day-date, answers}
use Rattle.calendar.proofs.date_of.Goals as goal

pub month_of-month-requires : goal.month_of-month-requires
month_of-month-requires c =
    let y = c.year_of-year.result in
    let k = y - 1950 in
    let i : k + 1 ≡ suc k = omega arith in
    let j : 1950 + k ≡ y = omega (arith, c.year_of-year.ensures) in
    omega (arith, days_to-next k, ap days_to i, ap year_days j, c.year_of-year.ensures)

pub returns-clause-date : goal.returns-clause-date
returns-clause-date c =
    let y = c.year_of-year.ensures in
    let m = c.month_of-month.ensures in
    let r : Date =
    record { year = c.year_of-year.result; month = c.month_of-month.result; day = c.args.day - c.year_start.result - c.month_start.result + 1 } in
    let d = day_of_month r.year r.month (c.args.day - c.year_start.result) m.2 m.3 in
    let valid : Valid r =
    record {
      year-from = y.0;
      year-to = y.1;
      month-from = m.0;
      month-to = m.1;
      day-from = omega arith;
      day-to = omega (arith, c.month_start.ensures);
    } in
    let e : day_in r ≡ c.args.day = omega (arith, y, m) in
    sym (answers (ltb c.args.day 2940202) (date_on c.args.day) r (lt-ltb _ _ (omega arith))
    (ap date_on (sym e) ∙ day-date r valid))
