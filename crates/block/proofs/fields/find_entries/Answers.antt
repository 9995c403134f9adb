use Rattle.std.proofs.Common.{◌≡◌, map, length, Ok, Err, sym, ◌∙◌, rules}
use lib.ListN.{length-map}
use Rattle.refusals.specs.Refusals.{flaw_of}
use Rattle.der.specs.Reads.{part_left}
use Rattle.elements.specs.Names.{plain_of}
use Rattle.elements.specs.Runs.{run_of}
use Rattle.elements.proofs.Walks.{walk-ok, walk-err}
use Rattle.entry.specs.Entries.{line_of, entry_step}
use Rattle.block.specs.Blocks.{entries_at}
use Rattle.block.proofs.fields.find_entries.Goals as goal

pub returns-in_err-count-clause-read : goal.returns-in_err-count-clause-read
unfolding entries_at
returns-in_err-count-clause-read c =
    let e : run_of entry_step tt (part_left c.in_ok-inner.inner) ≡ Err (flaw_of c.in_err-count.field-0.0) = walk-err line_of plain_of entry_step _ _ _ _ _ _ _ c.in_err-count.ensures.walked in
    search rules

pub returns-clause-read : goal.returns-clause-read
unfolding entries_at
returns-clause-read c =
    let w = walk-ok line_of plain_of entry_step _ _ _ _ _ _ _ c.in_ok-count.ensures.walked in
    let e : run_of entry_step tt (part_left c.in_ok-inner.inner) ≡ Ok (record { one = map line_of w.0; two = tt }) = w.2 in
    let n : c.in_ok-count.count ≡ length (map line_of w.0) = w.1 ∙ sym (length-map w.0 line_of) in
    search rules
