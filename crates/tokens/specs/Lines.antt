-- What the lines of a text are.
use Rattle.std.specs.Prelude.{ℕ, Bool, cond, not, List, [], ◌∷◌, ◌==◌}

-- Octet 10 breaks lines, and every other octet stands in one.
abbrev pub in_line : ℕ → Bool
in_line b = not (b == 10)

-- One octet more at the front of the first line.
abbrev pub onto : ℕ → List (List ℕ) → List (List ℕ)
onto b [] = (b ∷ []) ∷ []
onto b (l ∷ ls) = (b ∷ l) ∷ ls

-- A break ends a line, and so does the end of a text that does not end with one.
unfoldable pub lines : List ℕ → List (List ℕ)
lines [] = []
lines (b ∷ bs) = cond (in_line b) (onto b (lines bs)) ([] ∷ lines bs)
