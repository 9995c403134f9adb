-- What octets a word of hex digits writes.
use Rattle.std.specs.Prelude.{ℕ, ◌+◌, ◌-◌, ◌*◌, cond, ◌&&◌, List, [], ◌∷◌, Some, None, Option, nat_le}

-- The value of a digit: 0 to 9, A to F or a to f.
abbrev pub digit_value : ℕ → Option ℕ
digit_value b = cond (nat_le 48 b && nat_le b 57) (Some (b - 48)) (cond (nat_le 65 b && nat_le b 70) (Some (b - 55)) (cond (nat_le 97 b && nat_le b 102) (Some (b - 87)) None))

-- The octet of two digits, where both are.
abbrev pub octet : Option ℕ → Option ℕ → Option ℕ
octet None low = None
octet (Some h) None = None
octet (Some h) (Some l) = Some (16 * h + l)

-- One octet before the others, where all are.
abbrev pub before : Option ℕ → Option (List ℕ) → Option (List ℕ)
before None xs = None
before (Some x) None = None
before (Some x) (Some xs) = Some (x ∷ xs)

-- Two digits to an octet; none where a character is no digit, or one digit is left over.
unfoldable pub unhexed : List ℕ → Option (List ℕ)
unhexed [] = Some []
unhexed (a ∷ []) = None
unhexed (a ∷ b ∷ cs) = before (octet (digit_value a) (digit_value b)) (unhexed cs)
