-- How long the longest run at the front of a list is.
use Rattle.std.proofs.Common.{◌≡◌, ℕ, suc, ◌+◌, ◌≤◌, Bool, true, false, cond, List, [], ◌∷◌, length, drop, Some, None, unwrap_or, refl, ap, arith, subst}
use lib.Dec.{ltb}
use Rattle.std.specs.List.{prefix_len}
use Rattle.std.proofs.lemmas.Bool.Decides.{nat_tests}
use Rattle.std.proofs.lemmas.List.Sums.{prefix_len-le-length}
use Rattle.tokens.specs.Runs.{run}

-- A run ends where an octet that fails the test is found, or else with the list.
pub run-prefix_len : (p q : ℕ → Bool) → ((b : ℕ) → q b ≡ p b) → (xs : List ℕ) → prefix_len q xs ≡ run p xs
unfolding run
run-prefix_len p q e [] = refl
run-prefix_len p q e (b ∷ bs) =
    let more : 1 + run p bs ≡ suc (run p bs) = omega arith in
    rw (e b, run-prefix_len p q e bs) (ap (λ n. cond (p b) n 0) more)

pub found-or-len : (k n : ℕ) → k ≤ n → unwrap_or (cond (ltb k n) (Some k) None) n ≡ k
found-or-len k n h = grind (arith, nat_tests)

pub run-within : (p : ℕ → Bool) (xs : List ℕ) → run p xs ≤ length xs
run-within p xs = subst (λ (n : ℕ). n ≤ length xs) (run-prefix_len p p (λ b. refl) xs) (prefix_len-le-length p xs)

behind : (p : ℕ → Bool) (b : ℕ) (bs : List ℕ) (v : Bool) → p b ≡ v → run p (drop (run p bs) bs) ≡ 0 → run p (drop (cond v (suc (run p bs)) 0) (b ∷ bs)) ≡ 0
unfolding run
behind p b bs true e h = h
behind p b bs false e h = ap (λ v. cond v (suc (run p bs)) 0) e

-- Behind the longest run none begins.
pub run-behind : (p : ℕ → Bool) (xs : List ℕ) → run p (drop (run p xs) xs) ≡ 0
unfolding run
run-behind p [] = refl
run-behind p (b ∷ bs) = behind p b bs (p b) refl (run-behind p bs)
