-- What the words of a line are.
use Rattle.std.specs.Prelude.{ℕ, Bool, cond, not, ◌||◌, List, [], ◌∷◌, ◌==◌}
use Rattle.tokens.specs.Lines.{onto}

-- A space or a tab.
abbrev pub is_blank : ℕ → Bool
is_blank b = b == 32 || b == 9

abbrev pub in_word : ℕ → Bool
in_word b = not (is_blank b)

-- An octet that is no blank begins a word where a blank or nothing follows it, else it is the next word's first octet.
unfoldable pub words : List ℕ → List (List ℕ)
words [] = []
words (b ∷ []) = cond (in_word b) ((b ∷ []) ∷ []) []
words (b ∷ c ∷ cs) = cond (in_word b) (cond (in_word c) (onto b (words (c ∷ cs))) ((b ∷ []) ∷ words (c ∷ cs))) (words (c ∷ cs))
