use Rattle.std.proofs.Common.{◌≤◌, length, vec_items}
use Rattle.work.proofs.running.look_at_all.Given as goal

abbrev pub invariant-loop-path : goal.invariant-loop-path
invariant-loop-path l = length (vec_items l.works) ≤ l.path-index
