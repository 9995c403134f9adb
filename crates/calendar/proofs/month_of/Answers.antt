use Rattle.std.proofs.Common.{rules, tests, ◌+◌, ◌≤◌, ◌<◌, arith}
use Rattle.std.proofs.lemmas.Iterator.{first_from_Range}
use Rattle.calendar.specs.Dates.{month_start}
use Rattle.calendar.proofs.Lasts.{first_holds}
use Rattle.calendar.proofs.Years.{no-months, all-months}
use Rattle.calendar.proofs.month_of.Goals as goal

pub returns : goal.returns
returns c =
    let d = c.args.day in
    let y = c.args.year in
    let f =
    first_holds (month_start y) d 1 12 (omega arith) (omega (arith, no-months y)) (omega (arith, all-months y)) c.find.result
    (first_from_Range _ _ _ _ (λ m. d < month_start y (m + 1)) (λ m. month_start y (m + 1) ≤ d) c.find.ensures.ran
    (λ x q k. search (rules, tests)) (λ x q k. search (rules, tests))) in
    search (rules, f)
