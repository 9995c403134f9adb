use Rattle.std.proofs.Common.{rules, tests, cond, None, ◌∙◌}
use Rattle.std.specs.Str.{bytes_eq}
use Rattle.std.proofs.lemmas.Iterator.{YieldsList-from_slice}
use Rattle.ruling.specs.Cases.{entry_of, serial_of, found_of}
use Rattle.ruling.specs.Rule.{earlier_of}
use Rattle.ruling.proofs.Scans.{folded_by, earliest_folded}
use Rattle.ruling.proofs.listing.earliest.Goals as goal

pub returns : goal.returns
returns c =
    let s = c.args.serial.now in
    let es = c.args.entries.now in
    folded_by found_of (λ t e. cond (bytes_eq (serial_of e) s) (earlier_of t (entry_of e)) t) _ _ c.fold.result c.fold.ensures.ran
    (YieldsList-from_slice es (cc)) (λ a x b q k. search (rules, tests))
    ∙ earliest_folded s es None
