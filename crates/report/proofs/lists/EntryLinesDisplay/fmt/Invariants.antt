use Rattle.std.proofs.Common.{◌≡◌, ℕ, List, ◌++◌}
use Rattle.std.specs.Fmt.{IsPlainFormatter, HasWritten}
use Rattle.der.specs.Reads.{mapped}
use Rattle.items.specs.Parts.{piece_of}
use Rattle.report.specs.Said.{entries_text}
use Rattle.report.proofs.EntryTexts.{lines_text}
use Rattle.report.proofs.lists.EntryLinesDisplay.fmt.Given as goal

-- what is written, and the text of the entries to come, make the whole text
abbrev pub invariant-loop-entry : goal.invariant-loop-entry
invariant-loop-entry g l =
    IsPlainFormatter l.initial.f → (bs : List ℕ) × HasWritten g.W.Write.write_str_gives l.initial.f bs l.f × (bs ++ lines_text l.entry-iterator ≡ entries_text (mapped piece_of l.self.0.run) l.self.0.count)
