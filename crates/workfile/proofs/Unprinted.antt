-- Which word of a line is no text.
use Rattle.std.proofs.Common.{◌≡◌, ℕ, List, [], ◌∷◌, IsUtf8, ap, ◌∙◌}
use Rattle.workfile.specs.Lines.{Unprintable}

pub first-unprintable : (ws : List (List ℕ)) (word : List ℕ) (more : List (List ℕ)) → ws ≡ word ∷ more → (IsUtf8 word → ⊥) → Unprintable ws
first-unprintable ws word more e bad = ([], word, more, e, bad)

pub second-unprintable : (ws : List (List ℕ)) (first word : List ℕ) (more after : List (List ℕ)) → ws ≡ first ∷ more → more ≡ word ∷ after → (IsUtf8 word → ⊥) → Unprintable ws
second-unprintable ws first word more after e f bad = (first ∷ [], word, after, e ∙ ap (λ (l : List (List ℕ)). first ∷ l) f, bad)
