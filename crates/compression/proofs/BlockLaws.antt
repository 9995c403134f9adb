-- The message schedule and the rounds, a step at a time and in parts.
use Rattle.std.proofs.Common.{◌≡◌, ℕ, zero, suc, ◌+◌, ◌-◌, ◌≤◌, List, [], ◌∷◌, ◌++◌, length, get_or, sym, refl, ap, ◌∙◌, append_assoc, suc-add, zero-add, arith, length-append}
use Rattle.std.proofs.lemmas.List.{get_or-append_right}
use lib.Lanes.{zip2}
use Rattle.std.specs.List.{fold}
use Rattle.compression.specs.Words.{plus, ch, Σ1}
use Rattle.compression.specs.Block.{next_word, schedule, round, rounds}

-- a round takes the sum of its constant and its word alone
one-sum : (x k w : ℕ) → plus (plus x k) w ≡ plus (plus x 0) (plus k w)
one-sum x k w = omega arith

round-sum : (k w : ℕ) (v : List ℕ) → round k w v ≡ round 0 (plus k w) v
unfolding round
round-sum k w v =
    let e = one-sum (plus (plus (get_or v 7 0) (Σ1 (get_or v 4 0))) (ch (get_or v 4 0) (get_or v 5 0) (get_or v 6 0))) k w in cc

pub rounds-fold : (ks ws v : List ℕ) → rounds ks ws v ≡ fold (λ (u : List ℕ) (x : ℕ). round 0 x u) v (zip2 plus ks ws)
unfolding rounds
rounds-fold [] ws v = refl
rounds-fold (k ∷ ks) [] v = refl
rounds-fold (k ∷ ks) (w ∷ ws) v = rounds-fold ks ws (round k w v) ∙ ap (λ (u : List ℕ). fold (λ (s : List ℕ) (x : ℕ). round 0 x s) u (zip2 plus ks ws)) (round-sum k w v)

pub rounds-append : (ks js ws xs v : List ℕ) → length ks ≡ length ws → rounds (ks ++ js) (ws ++ xs) v ≡ rounds js xs (rounds ks ws v)
unfolding rounds
rounds-append [] js [] xs v e = refl
rounds-append [] js (w ∷ ws) xs v e = absurd (omega arith)
rounds-append (k ∷ ks) js [] xs v e = absurd (omega arith)
rounds-append (k ∷ ks) js (w ∷ ws) xs v e = rounds-append ks js ws xs (round k w v) (omega arith)

pub schedule-none : (ws : List ℕ) → schedule 0 ws ≡ ws
unfolding schedule
schedule-none ws = refl

pub schedule-step : (n : ℕ) (ws r : List ℕ) (x : ℕ) → x ≡ next_word ws → schedule n (ws ++ x ∷ []) ≡ r → schedule (suc n) ws ≡ r
unfolding schedule
schedule-step n ws r x e f = ap (λ (y : ℕ). schedule n (ws ++ y ∷ [])) (sym e) ∙ f

pub schedule-add : (m n : ℕ) (ws : List ℕ) → schedule (m + n) ws ≡ schedule n (schedule m ws)
unfolding schedule
schedule-add zero n ws = simp zero-add
schedule-add (suc m) n ws = simp suc-add (schedule-add m n (ws ++ next_word ws ∷ []))

-- a word depends on the sixteen before it alone
next_word-append : (p q : List ℕ) → 16 ≤ length q → next_word (p ++ q) ≡ next_word q
next_word-append p q h =
    let at : (i : ℕ) → 1 ≤ i → i ≤ 16 → get_or (p ++ q) (length (p ++ q) - i) 0 ≡ get_or q (length q - i) 0 =
    λ i lo hi.
    let e : length (p ++ q) ≡ length p + length q = length-append p q in
    let far : length p ≤ length (p ++ q) - i = omega arith in
    let same : length (p ++ q) - i - length p ≡ length q - i = omega arith in
    get_or-append_right p q (length p) (length (p ++ q) - i) 0 refl far ∙ ap (λ (j : ℕ). get_or q j 0) same in
    let a = at 2 (omega arith) (omega arith) in
    let b = at 7 (omega arith) (omega arith) in
    let c = at 15 (omega arith) (omega arith) in
    let d = at 16 (omega arith) (omega arith) in
    cc

pub schedule-append : (n : ℕ) (p q : List ℕ) → 16 ≤ length q → schedule n (p ++ q) ≡ p ++ schedule n q
unfolding schedule
schedule-append zero p q h = refl
schedule-append (suc n) p q h =
    ap (λ (y : ℕ). schedule n ((p ++ q) ++ y ∷ [])) (next_word-append p q h) ∙ ap (schedule n) (append_assoc p q (next_word q ∷ []))
    ∙ schedule-append n p (q ++ next_word q ∷ []) (omega (arith, length-append q (next_word q ∷ [])))
