-- Sizes that a list can hold. Assumes nothing.
use Rattle.std.specs.Prelude.{ℕ, cond, Some, None, Option, nat_le}

-- a size up to 65,535
abbrev pub sized : ℕ → Option ℕ
sized n = cond (nat_le n 65535) (Some n) None
