use Rattle.std.proofs.Common.{◌≡◌, drop, vec_items}
use Rattle.tokens.proofs.Digits.{paired, then}
use Rattle.tokens.proofs.hex.unhex.Given as goal

abbrev pub invariant-loop-high : goal.invariant-loop-high
invariant-loop-high l = then (vec_items l.octets) (paired (drop l.high-index l.pairs)) ≡ paired l.pairs
