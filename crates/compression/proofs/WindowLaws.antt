-- The words of a block in chunks, and rounds in fours, each with the window of sixteen words that follows.
use Rattle.std.proofs.Common.{◌≡◌, ℕ, zero, suc, ◌+◌, ◌*◌, ◌<◌, List, [], ◌∷◌, ◌++◌, map, length, get_or, take, drop, sym, ap, ◌∙◌, append_assoc, arith, length-append, length-drop}
use Rattle.std.specs.List.{flat_map, range_with_len}
use Rattle.std.specs.Simd.{first_chunks}
use Rattle.std.proofs.lemmas.List.{get_or-take, get_or-drop, drop-drop, take-append-drop, take_all, length-take-le}
use Rattle.std.proofs.Math.Seq.{take-add}
use Rattle.compression.specs.Block.{word_of, word_at, words, schedule, rounds}
use Rattle.compression.specs.Windows.{words_in, Leads}
use Rattle.compression.specs.declared.schedule.Window.{Window}
use Rattle.compression.proofs.BlockLaws.{schedule-add, schedule-append, rounds-append}

word_of-same : {a b c d w x y z : ℕ} → a ≡ w → b ≡ x → c ≡ y → d ≡ z → word_of a b c d ≡ word_of w x y z
word_of-same p q r s = cc

pub same4 : {a b c d w x y z : ℕ} → a ≡ w → b ≡ x → c ≡ y → d ≡ z → a ∷ b ∷ c ∷ d ∷ [] ≡ w ∷ x ∷ y ∷ z ∷ []
same4 p q r s = cc

-- the word t of a part of a block that begins at the word i
pub word_at-part : (b : List ℕ) (n i t : ℕ) → t < n → word_at (take (4 * n) (drop (4 * i) b)) t ≡ word_at b (i + t)
word_at-part b n i t h =
    let at : (m k : ℕ) → m < 4 * n → 4 * i + m ≡ k → get_or (take (4 * n) (drop (4 * i) b)) m 0 ≡ get_or b k 0 =
    λ m k lm e.
    get_or-take (4 * n) (drop (4 * i) b) m 0 lm ∙ get_or-drop (4 * i) b m 0 ∙ ap (λ (j : ℕ). get_or b j 0) e in
    word_of-same (at (4 * t) _ (omega arith) (omega arith)) (at (4 * t + 1) _ (omega arith) (omega arith))
    (at (4 * t + 2) _ (omega arith) (omega arith)) (at (4 * t + 3) _ (omega arith) (omega arith))

-- ---- lists in chunks

chunk : (n k : ℕ) (xs : List ℕ) (i : ℕ) → i < k → get_or (first_chunks n k xs) i [] ≡ take n (drop (n * i) xs)
chunk n zero xs i h = absurd (omega arith)
chunk n (suc k) xs zero h = ap (λ (j : ℕ). take n (drop j xs)) (let e : 0 ≡ n * 0 = omega arith in e)
chunk n (suc k) xs (suc i) h =
    chunk n k (drop n xs) i (omega arith)
    ∙ ap (take n) (drop-drop (n * i) n xs ∙ ap (λ (j : ℕ). drop j xs) (let e : n + n * i ≡ n * suc i = omega arith in e))

-- the word of a chunk of four octets, and the words of one of sixteen
pub word-of_chunk : (b : List ℕ) (k i : ℕ) → i < k → word_at (get_or (first_chunks 4 k b) i []) 0 ≡ word_at b i
word-of_chunk b k i h =
    ap (λ (x : List ℕ). word_at x 0) (chunk 4 k b i h) ∙ word_at-part b 1 i 0 (omega arith) ∙ ap (word_at b) (let e : i + 0 ≡ i = omega arith in e)

pub words-of_chunk : (b : List ℕ) (k i : ℕ) → i < k → words 4 (get_or (first_chunks 16 k b) i []) ≡ map (word_at b) (range_with_len (4 * i) 4)
unfolding words
words-of_chunk b k i h =
    let part : (t s : ℕ) → t < 4 → 4 * i + t ≡ s → word_at (take 16 (drop (16 * i) b)) t ≡ word_at b s =
    λ t s lt e.
    ap (λ (j : ℕ). word_at (take 16 (drop j b)) t) (let f : 16 * i ≡ 4 * (4 * i) = omega arith in f)
    ∙ word_at-part b 4 (4 * i) t lt ∙ ap (word_at b) e in
    ap (λ (x : List ℕ). map (word_at x) (range_with_len 0 4)) (chunk 16 k b i h)
    ∙ same4 (part 0 _ (omega arith) (omega arith)) (part 1 _ (omega arith) (omega arith)) (part 2 _ (omega arith) (omega arith)) (part 3 _ (omega arith) (omega arith))

-- the chunks of a list, joined
pub joined : (n k : ℕ) (xs : List ℕ) → flat_map (λ (x : List ℕ). x) (first_chunks n k xs) ≡ take (k * n) xs
joined n zero xs = ap (λ (j : ℕ). take j xs) (let e : 0 ≡ 0 * n = omega arith in e)
joined n (suc k) xs =
    ap (λ (t : List ℕ). take n xs ++ t) (joined n k (drop n xs)) ∙ sym (take-add n (k * n) xs) ∙ ap (λ (j : ℕ). take j xs) (let e : n + k * n ≡ suc k * n = omega arith in e)

-- ---- rounds in fours

pub rounds-fours : (k a b c d v : List ℕ) → length k ≡ 16 → length a ≡ 4 → length b ≡ 4 → length c ≡ 4
    → rounds (get_or (first_chunks 4 4 k) 3 []) d (rounds (get_or (first_chunks 4 4 k) 2 []) c (rounds (get_or (first_chunks 4 4 k) 1 []) b (rounds (get_or (first_chunks 4 4 k) 0 []) a v)))
    ≡ rounds k (a ++ (b ++ (c ++ d))) v
rounds-fours k a b c d v lk la lb lc =
    let k1 : List ℕ = drop 4 k in
    let k2 : List ℕ = drop 4 k1 in
    let k3 : List ℕ = drop 4 k2 in
    let l1 : length (drop 4 k) ≡ 12 = simp length-drop (omega arith) in
    let l2 : length (drop 4 (drop 4 k)) ≡ 8 = simp length-drop (omega arith) in
    let l3 : length (drop 4 (drop 4 (drop 4 k))) ≡ 4 = simp length-drop (omega arith) in
    let e0 : length (take 4 k) ≡ length a = length-take-le 4 k (omega arith) ∙ sym la in
    let e1 : length (take 4 k1) ≡ length b = length-take-le 4 k1 (omega arith) ∙ sym lb in
    let e2 : length (take 4 k2) ≡ length c = length-take-le 4 k2 (omega arith) ∙ sym lc in
    ap (λ (x : List ℕ). rounds x d (rounds (take 4 k2) c (rounds (take 4 k1) b (rounds (take 4 k) a v)))) (take_all 4 k3 (omega arith))
    ∙ sym (rounds-append (take 4 k2) k3 c d _ e2)
    ∙ ap (λ (x : List ℕ). rounds x (c ++ d) (rounds (take 4 k1) b (rounds (take 4 k) a v))) (take-append-drop 4 k2)
    ∙ sym (rounds-append (take 4 k1) k2 b (c ++ d) _ e1)
    ∙ ap (λ (x : List ℕ). rounds x (b ++ (c ++ d)) (rounds (take 4 k) a v)) (take-append-drop 4 k1)
    ∙ sym (rounds-append (take 4 k) k1 a (b ++ (c ++ d)) v e0)
    ∙ ap (λ (x : List ℕ). rounds x (a ++ (b ++ (c ++ d))) v) (take-append-drop 4 k)

-- ---- four rounds lead to the window four words on
pub leads-four : (s : Window) (x u k : List ℕ) → length s.w0 ≡ 4 → length s.w1 ≡ 4 → length s.w2 ≡ 4 → length s.w3 ≡ 4 → length x ≡ 4 → length k ≡ 4
    → schedule 4 (words_in s) ≡ words_in s ++ x → u ≡ rounds k s.w0 s.v
    → Leads s (record { v = u; w0 = s.w1; w1 = s.w2; w2 = s.w3; w3 = x }) k
leads-four s x u k l0 l1 l2 l3 lx lk es eu =
    let W : List ℕ = s.w1 ++ (s.w2 ++ (s.w3 ++ x)) in
    let lW : length (s.w1 ++ (s.w2 ++ (s.w3 ++ x))) ≡ 16 = simp length-append (omega arith) in
    record {
      long = lW;
      left = λ n ks.
          ap (rounds ks (schedule n W)) eu
          ∙ sym (rounds-append k ks s.w0 (schedule n W) s.v (omega arith))
          ∙ ap (λ (ws : List ℕ). rounds (k ++ ks) ws s.v)
          (sym (ap (λ (m : ℕ). schedule (m + n) (words_in s)) lk ∙ schedule-add 4 n (words_in s) ∙ ap (schedule n) (es ∙ simp append_assoc) ∙ schedule-append n s.w0 W (omega arith)));
    }
