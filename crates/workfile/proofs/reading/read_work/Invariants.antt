use Rattle.std.proofs.Common.{◌+◌, vec_items}
use Rattle.std.specs.Iterator.Adapters.{enumerate_source, enumerate_count}
use Rattle.tokens.specs.Lines.{lines}
use Rattle.workfile.proofs.Steps.{Carries}
use Rattle.workfile.proofs.reading.read_work.Given as goal

abbrev pub invariant-loop-above : goal.invariant-loop-above
invariant-loop-above g l = Carries (lines l.text) (enumerate_count l.above-iterator + 1) (enumerate_source l.above-iterator) (vec_items l.work.commands) (vec_items l.work.flaws)
