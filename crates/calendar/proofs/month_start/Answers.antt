use Rattle.std.proofs.Common.{◌≡◌, ◌+◌, arith}
use Rattle.std.proofs.lemmas.Bool.Decides.{nat_tests}
use Rattle.calendar.specs.Dates.{month_start}
use Rattle.calendar.proofs.Years.{month-starts, month-start-short}
use Rattle.calendar.proofs.month_start.Goals as goal
use Rattle.calendar.proofs.month_start.Goals.{then-month-gt2, else-month-gt2}

pub returns : goal.returns
returns c =
    let y = c.args.year in
    let m = c.args.month in
    let short = month-start-short y m (omega arith) in
    let table = month-starts y m c.requires.0 c.requires.1 in
    elim c.if-month-gt2.branch [
      | then-month-gt2 w ↦ let e : c.from-2.result + c.from-3.result ≡ month_start y m = grind (arith, nat_tests) in (e, omega arith)
      | else-month-gt2 w ↦ let e : c.from-2.result + c.from-3.result ≡ month_start y m = grind (arith, nat_tests) in (e, omega arith)
    ]
