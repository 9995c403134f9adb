-- The last step that begins by x.
use Rattle.std.specs.Prelude.{ℕ, zero, suc, cond, nat_le}

-- the last k up to n with S k at most x (0 if there is none)
unfoldable pub last_within : (ℕ → ℕ) → ℕ → ℕ → ℕ
last_within S zero x = 0
last_within S (suc n) x = cond (nat_le (S (suc n)) x) (suc n) (last_within S n x)
