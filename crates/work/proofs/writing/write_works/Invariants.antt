use Rattle.std.proofs.Common.{take}
use Rattle.std.specs.Io.KnownBytes.{Appends}
use Rattle.work.specs.Answers.{works_text}
use Rattle.work.proofs.writing.write_works.Given as goal

abbrev pub invariant-loop-work : goal.invariant-loop-work
invariant-loop-work g l = Appends (g.W.Write.contents l.initial.out) (g.W.Write.contents l.out) (works_text (take l.work-index l.works))
