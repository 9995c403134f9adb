use Rattle.std.proofs.Common.{take}
use Rattle.std.specs.List.{flat_map}
use Rattle.compression.specs.Windows.{Leads}
use Rattle.compression.proofs.block.compress.Given as goal

abbrev pub invariant-loop-k : goal.invariant-loop-k
invariant-loop-k l = Leads l.initial.s l.s (flat_map (λ x. x) (take l.k-index l.sixteens))
