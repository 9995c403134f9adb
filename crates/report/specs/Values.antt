-- The texts of the values that answers are made of.
use Rattle.std.specs.Prelude.{ℕ, ◌+◌, ◌/◌, ◌%◌, cond, List, [], ◌∷◌, Some, None, decimal, Option, nat_lt}
use Rattle.moment.specs.Texts.{rfc3339_text}

-- The lower case hex digit of a value below 16.
abbrev pub hex_digit : ℕ → ℕ
hex_digit v = cond (nat_lt v 10) (48 + v) (87 + v)

-- Octets in hex, two digits to an octet.
unfoldable pub hexed : List ℕ → List ℕ
hexed [] = []
hexed (b ∷ bs) = hex_digit (b / 16) ∷ hex_digit (b % 16) ∷ hexed bs

-- A moment's text, or its seconds where it has none.
abbrev pub moment_text : ℕ → List ℕ
moment_text m = elim (rfc3339_text m) [ Some text ↦ text | None ↦ decimal m ]

abbrev pub moment_or_dash : Option ℕ → List ℕ
moment_or_dash None = 45 ∷ []
moment_or_dash (Some m) = moment_text m

-- What is shown of a value, or a dash where there is none.
abbrev pub or_dash : {X : Type 0} → (X → Option (List ℕ)) → Option X → Option (List ℕ)
or_dash f None = Some (45 ∷ [])
or_dash f (Some x) = f x
