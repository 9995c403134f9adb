use Rattle.std.proofs.Common.{[], ◌++◌, sym, refl, ap, ◌∙◌, append_assoc, append-nil}
use Rattle.std.proofs.Output.{writes_in_calls_nil, has_written_append, has_written_of_eq}
use Rattle.items.specs.Parts.{piece_of}
use Rattle.der.specs.Reads.{mapped}
use Rattle.entry.specs.Entries.{line_of}
use Rattle.report.specs.Said.{line_text}
use Rattle.report.proofs.EntryTexts.{lines_text, entries-lines, lines-none, lines-more}
use Rattle.report.proofs.lists.EntryLinesDisplay.fmt.Goals as goal

pub loop-entry-init : goal.loop-entry-init
loop-entry-init g c =
    λ plain.
    ([], record { wrote = writes_in_calls_nil g.W.Write.write_str_gives _; plain = plain }, ap lines_text (c.into_iter-entry-iterator.ensures.into_iter_gives ∙ c.each_entry-entry-items.ensures.listed) ∙ sym (entries-lines (mapped piece_of c.args.self.now.0.run) c.args.self.now.0.count))

pub loop-entry-preserved : goal.loop-entry-preserved
loop-entry-preserved g c =
    λ plain.
    let b = c.loop-entry.invariant plain in
    let w = c.in_ok-write.ensures.writes in
    let l = line_of c.in-Some.entry in
    let e = ap lines_text c.in-Some.ensures.steps ∙ lines-more l _ in
    (b.0 ++ line_text l, has_written_append g.W.Write.write_str_gives _ _ _ _ _ b.1 (w b.1.plain refl), append_assoc b.0 (line_text l) _ ∙ ap (λ z. b.0 ++ z) (sym e) ∙ b.2)

pub returns-clause-writes : goal.returns-clause-writes
returns-clause-writes g c =
    λ plain ok.
    let b = c.loop-entry.invariant plain in
    let e = ap lines_text c.in-None.ensures.steps.0 ∙ lines-none in
    has_written_of_eq g.W.Write.write_str_gives _ _ _ _ (sym (append-nil b.0) ∙ ap (λ z. b.0 ++ z) (sym e) ∙ b.2) b.1
