-- A hex word, pair by pair.
use Rattle.std.proofs.Common.{◌≡◌, ℕ, zero, suc, ◌*◌, ◌/◌, ◌%◌, List, [], ◌∷◌, ◌++◌, length, get_or, Some, None, Option, sym, refl, ap, ◌∙◌, append_assoc, arith}
use Rattle.std.specs.Simd.{first_chunks}
use Rattle.tokens.specs.Hex.{digit_value, octet, before, unhexed}

-- What pairs of digits write.
abbrev pub paired : List (List ℕ) → Option (List ℕ)
paired [] = Some []
paired (p ∷ ps) = before (octet (digit_value (get_or p 0 0)) (digit_value (get_or p 1 0))) (paired ps)

-- What is known of the octets, before what the rest writes.
abbrev pub then : List ℕ → Option (List ℕ) → Option (List ℕ)
then xs None = None
then xs (Some ys) = Some (xs ++ ys)

pub then-before : (xs : List ℕ) (x : ℕ) (o : Option (List ℕ)) → then xs (before (Some x) o) ≡ then (xs ++ x ∷ []) o
then-before xs x None = refl
then-before xs x (Some ys) = ap (λ (l : List ℕ). Some l) (sym (append_assoc xs (x ∷ []) ys))

before-none : (o : Option ℕ) → before o None ≡ None
before-none None = refl
before-none (Some x) = refl

pub odd : (ds : List ℕ) → length ds % 2 ≡ 1 → unhexed ds ≡ None
unfolding unhexed
odd [] h = absurd (omega arith)
odd (a ∷ []) h = refl
odd (a ∷ b ∷ cs) h = rw (odd cs (omega arith)) (before-none _)

pub paired-chunks : (k : ℕ) (ds : List ℕ) → length ds ≡ k * 2 → paired (first_chunks 2 k ds) ≡ unhexed ds
unfolding unhexed
paired-chunks zero [] h = refl
paired-chunks zero (a ∷ ds) h = absurd (omega arith)
paired-chunks (suc k) [] h = absurd (omega arith)
paired-chunks (suc k) (a ∷ []) h = absurd (omega arith)
paired-chunks (suc k) (a ∷ b ∷ cs) h = ap (before (octet (digit_value a) (digit_value b))) (paired-chunks k cs (omega arith))

pub even : (ds : List ℕ) (ps : List (List ℕ)) → ps ≡ first_chunks 2 (length ds / 2) ds → length ds % 2 ≡ 0 → paired ps ≡ unhexed ds
even ds ps e h = ap paired e ∙ paired-chunks (length ds / 2) ds (omega arith)
