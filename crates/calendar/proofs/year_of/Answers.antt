use Rattle.std.proofs.Common.{rules, tests, ◌≡◌, ◌+◌, ◌-◌, ◌/◌, ◌≤◌, ◌<◌, ap, arith}
use Rattle.std.proofs.lemmas.Iterator.{first_from_Range}
use Rattle.calendar.specs.Dates.{days_to}
use Rattle.calendar.proofs.Lasts.{first_holds}
use Rattle.calendar.proofs.Years.{years-slow, year-within, all-years}
use Rattle.calendar.proofs.year_of.Goals as goal

pub returns : goal.returns
returns c =
    let d = c.args.day in
    let k = d / 366 in
    let e : 1950 + k - 1950 ≡ k = omega arith in
    let b : days_to (1950 + k - 1950) ≤ d = omega (arith, years-slow k, ap days_to e) in
    let w = year-within (1950 + k - 1950) d b c.requires in
    let f =
    first_holds (λ y. days_to (y - 1950)) d (1950 + k) 9999 (omega arith) b (omega (arith, all-years)) c.find.result
    (first_from_Range _ _ _ _ (λ y. d < days_to (y + 1 - 1950)) (λ y. days_to (y + 1 - 1950) ≤ d) c.find.ensures.ran
    (λ x q k. search (rules, tests)) (λ x q k. search (rules, tests))) in
    let r = c.unwrap_or.result in
    let i : r + 1 - 1950 ≡ r - 1950 + 1 = omega (arith, f.0) in
    let n = ap days_to i in
    search (rules, f)
