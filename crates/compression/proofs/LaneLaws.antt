-- Vectors of four words, lane by lane: the small sigmas, a sum, and the next four words of the schedule.
use Rattle.std.proofs.Common.{◌≡◌, ℕ, ◌-◌, ◌*◌, ◌/◌, ◌%◌, ◌^◌, List, [], ◌∷◌, ◌++◌, map, length, get_or, sym, refl, ap, ◌∙◌, subst, ap₂, arith}
use lib.Bits.{bit_or, bit_xor}
use lib.Lanes.{zip2}
use Rattle.compression.specs.Words.{plus, rotr, shr, σ0, σ1}
use Rattle.compression.specs.Block.{next_of, schedule}
use Rattle.compression.proofs.BlockLaws.{schedule-none, schedule-step}
use Rattle.std.proofs.lemmas.List.FromFn.{fill_by_all}

-- four lanes, written out
abbrev spell4 : List ℕ → List ℕ
spell4 xs = get_or xs 0 0 ∷ get_or xs 1 0 ∷ get_or xs 2 0 ∷ get_or xs 3 0 ∷ []

spelled4 : (xs : List ℕ) → length xs ≡ 4 → xs ≡ spell4 xs
spelled4 xs e = fill_by_all (λ k. get_or xs k 0) xs 4 0 e (λ k h. refl)

-- a lane is shifted to the right or left, within 32 bits
abbrev right : ℕ → ℕ → ℕ
right a b = a / 2 ^ b

abbrev left : ℕ → ℕ → ℕ
left a b = (a * 2 ^ b) % 2 ^ 32

abbrev four : ℕ → List ℕ
four n = n ∷ n ∷ n ∷ n ∷ []

pub rotate-each : (n : ℕ) (x : List ℕ) → length x ≡ 4
    → zip2 bit_or (zip2 right x (four n)) (zip2 left x (four (32 - n))) ≡ map (rotr n) x
rotate-each n x e = ap (λ (t : List ℕ). zip2 bit_or (zip2 right t (four n)) (zip2 left t (four (32 - n)))) (spelled4 x e) ∙ ap (map (rotr n)) (sym (spelled4 x e))

-- two rotations and a shift of each lane
pub small-each : (p q n : ℕ) (x a b : List ℕ) → length x ≡ 4 → a ≡ map (rotr p) x → b ≡ map (rotr q) x
    → zip2 bit_xor (zip2 bit_xor a b) (zip2 right x (four n)) ≡ map (λ (y : ℕ). bit_xor (bit_xor (rotr p y) (rotr q y)) (shr n y)) x
small-each p q n x a b e ea eb =
    let same : zip2 bit_xor (zip2 bit_xor (map (rotr p) x) (map (rotr q) x)) (zip2 right x (four n)) ≡ map (λ (y : ℕ). bit_xor (bit_xor (rotr p y) (rotr q y)) (shr n y)) x =
    ap (λ (t : List ℕ). zip2 bit_xor (zip2 bit_xor (map (rotr p) t) (map (rotr q) t)) (zip2 right t (four n))) (spelled4 x e)
    ∙ ap (map (λ (y : ℕ). bit_xor (bit_xor (rotr p y) (rotr q y)) (shr n y))) (sym (spelled4 x e)) in
    ap₂ (λ (s t : List ℕ). zip2 bit_xor (zip2 bit_xor s t) (zip2 right x (four n))) ea eb ∙ same

-- ---- the next four words

σ1-zero : σ1 0 ≡ 0
unfolding σ1
σ1-zero = refl

-- the first two lanes, to which nothing is added after, and the last two, to which nothing was added before
late-sum-lo : (d c b t : ℕ) → plus (plus (plus (plus d c) b) t) 0 ≡ plus (plus (plus t b) c) d
late-sum-lo d c b t = omega arith

late-sum-hi : (d c b t : ℕ) → plus (plus (plus (plus d c) b) 0) t ≡ plus (plus (plus t b) c) d
late-sum-hi d c b t = omega arith

same_word : (x y : ℕ) → plus x y ≡ plus (plus x y) 0
same_word x y = omega arith

-- a shuffle
abbrev picked : List ℕ → ℕ → ℕ → ℕ → ℕ → List ℕ
picked xs i j k l = get_or xs i 0 ∷ get_or xs j 0 ∷ get_or xs k 0 ∷ get_or xs l 0 ∷ []

-- the sums without the words of this very vector, and then with them
abbrev pub some_of : List ℕ → List ℕ → List ℕ → List ℕ → List ℕ → List ℕ
some_of w0 w2 w3 s0 s1 = zip2 plus (zip2 plus (zip2 plus w0 s0) (picked (w2 ++ w3) 1 2 3 4)) s1

abbrev pub all_of : List ℕ → List ℕ
all_of some = zip2 plus some (map σ1 (picked (some ++ four 0) 4 5 0 1))

-- the four words as the code makes them
abbrev made : List ℕ → List ℕ → List ℕ → List ℕ → List ℕ
made w0 w1 w2 w3 = all_of (some_of w0 w2 w3 (map σ0 (picked (w0 ++ w1) 1 2 3 4)) (map σ1 (picked (w3 ++ four 0) 2 3 4 5)))

-- they are the schedule's
abbrev Law : List ℕ → List ℕ → List ℕ → List ℕ → Type 0
Law w0 w1 w2 w3 = schedule 4 (w0 ++ (w1 ++ (w2 ++ w3))) ≡ w0 ++ (w1 ++ (w2 ++ (w3 ++ made w0 w1 w2 w3)))

next-four-at : (a0 a1 a2 a3 a4 a5 a6 a7 a8 a9 a10 a11 a12 a13 a14 a15 : ℕ)
    → Law (a0 ∷ a1 ∷ a2 ∷ a3 ∷ []) (a4 ∷ a5 ∷ a6 ∷ a7 ∷ []) (a8 ∷ a9 ∷ a10 ∷ a11 ∷ []) (a12 ∷ a13 ∷ a14 ∷ a15 ∷ [])
unfolding next_of
next-four-at a0 a1 a2 a3 a4 a5 a6 a7 a8 a9 a10 a11 a12 a13 a14 a15 =
    let s0 = plus (plus (plus a0 (σ0 a1)) a9) (σ1 a14) in
    let s1 = plus (plus (plus a1 (σ0 a2)) a10) (σ1 a15) in
    let none : σ1 0 ≡ 0 = σ1-zero in
    schedule-step 3 _ _ (plus s0 (σ1 0)) (ap (plus s0) none ∙ late-sum-lo a0 (σ0 a1) a9 (σ1 a14))
    (schedule-step 2 _ _ (plus s1 (σ1 0)) (ap (plus s1) none ∙ late-sum-lo a1 (σ0 a2) a10 (σ1 a15))
    (schedule-step 1 _ _ (plus (plus (plus (plus a2 (σ0 a3)) a11) (σ1 0)) (σ1 s0))
    (ap₂ (λ (u y : ℕ). plus (plus (plus (plus a2 (σ0 a3)) a11) u) (σ1 y)) none (same_word (plus (plus a0 (σ0 a1)) a9) (σ1 a14) ∙ ap (plus s0) (sym none))
    ∙ late-sum-hi a2 (σ0 a3) a11 (σ1 (plus s0 (σ1 0))))
    (schedule-step 0 _ _ (plus (plus (plus (plus a3 (σ0 a4)) a12) (σ1 0)) (σ1 s1))
    (ap₂ (λ (u y : ℕ). plus (plus (plus (plus a3 (σ0 a4)) a12) u) (σ1 y)) none (same_word (plus (plus a1 (σ0 a2)) a10) (σ1 a15) ∙ ap (plus s1) (sym none))
    ∙ late-sum-hi a3 (σ0 a4) a12 (σ1 (plus s1 (σ1 0))))
    (schedule-none _))))

pub next-four-law : (w0 w1 w2 w3 : List ℕ) → length w0 ≡ 4 → length w1 ≡ 4 → length w2 ≡ 4 → length w3 ≡ 4 → Law w0 w1 w2 w3
next-four-law w0 w1 w2 w3 l0 l1 l2 l3 =
    let P0 : List ℕ → Type 0 = λ w. Law w w1 w2 w3 in
    let P1 : List ℕ → Type 0 = λ w. Law (spell4 w0) w w2 w3 in
    let P2 : List ℕ → Type 0 = λ w. Law (spell4 w0) (spell4 w1) w w3 in
    let P3 : List ℕ → Type 0 = λ w. Law (spell4 w0) (spell4 w1) (spell4 w2) w in
    subst P0 (sym (spelled4 w0 l0)) (subst P1 (sym (spelled4 w1 l1)) (subst P2 (sym (spelled4 w2 l2)) (subst P3 (sym (spelled4 w3 l3))
    (next-four-at (get_or w0 0 0) (get_or w0 1 0) (get_or w0 2 0) (get_or w0 3 0)
    (get_or w1 0 0) (get_or w1 1 0) (get_or w1 2 0) (get_or w1 3 0)
    (get_or w2 0 0) (get_or w2 1 0) (get_or w2 2 0) (get_or w2 3 0)
    (get_or w3 0 0) (get_or w3 1 0) (get_or w3 2 0) (get_or w3 3 0)))))
