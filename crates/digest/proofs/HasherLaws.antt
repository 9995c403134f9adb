-- A message that comes in parts: the state and the rest after one more part.
use Rattle.std.proofs.Common.{◌≡◌, ℕ, zero, suc, ◌+◌, ◌-◌, ◌*◌, ◌/◌, ◌%◌, ◌^◌, ◌<◌, ◌≤◌, List, [], ◌++◌, length, take, drop, sym, refl, ap, ◌∙◌, ap₂, append_assoc, append-nil, arith, length-append, length-drop}
use Rattle.std.proofs.lemmas.List.{take_at, drop_at, drop-drop, drop_all, take-append-le, drop-append-le, take-append-drop, length-take-le}
use Rattle.compression.specs.Block.{compress}
use Rattle.digest.specs.Sha256.{initial, absorbed, padding, octets_of, sha256}
use Rattle.digest.proofs.HashLaws.{one_block, absorbed-append, absorbed-front, finished}

absorbed-prefix : (n : ℕ) (h x y : List ℕ) → n * 64 ≤ length x → absorbed n h (x ++ y) ≡ absorbed n h x
unfolding absorbed
absorbed-prefix zero h x y e = refl
absorbed-prefix (suc n) h x y e =
    let long : 64 ≤ length x = omega arith in
    let left : n * 64 ≤ length (drop 64 x) = simp length-drop (omega arith) in
    ap₂ (λ (a b : List ℕ). absorbed n (compress h a) b) (take-append-le 64 x y long) (drop-append-le 64 x y long)
    ∙ absorbed-prefix n (compress h (take 64 x)) (drop 64 x) y left

-- ---- a part that fills no block

module _ (m part buffer : List ℕ) (few : length m % 64 + length part < 64) where
  count : length (m ++ part) / 64 ≡ length m / 64
  count = omega (arith, length-append m part)

  pub small-state : absorbed (length m / 64) initial m ≡ absorbed (length (m ++ part) / 64) initial (m ++ part)
  small-state =
      sym (absorbed-prefix (length m / 64) initial m part (omega arith)) ∙ ap (λ (j : ℕ). absorbed j initial (m ++ part)) (sym count)

  pub small-rest : (z : List ℕ) → take (length m % 64) buffer ≡ drop (length m / 64 * 64) m
      → take (length (m ++ part) % 64) (take (length m % 64) buffer ++ (part ++ z)) ≡ drop (length (m ++ part) / 64 * 64) (m ++ part)
  small-rest z e =
      let old : List ℕ = drop (length m / 64 * 64) m in
      let lo : length old ≡ length m % 64 = length-drop (length m / 64 * 64) m ∙ (let s : length m - length m / 64 * 64 ≡ length m % 64 = omega arith in s) in
      let ll : length (old ++ part) ≡ length (m ++ part) % 64 =
      length-append old part ∙ (let s : length old + length part ≡ length (m ++ part) % 64 = omega (arith, length-append m part) in s) in
      ap (λ (t : List ℕ). take (length (m ++ part) % 64) (t ++ (part ++ z))) e
      ∙ ap (take (length (m ++ part) % 64)) (sym (append_assoc old part z))
      ∙ take_at (old ++ part) z (length (m ++ part) % 64) ll
      ∙ sym (drop-append-le (length m / 64 * 64) m part (omega arith))
      ∙ ap (λ (j : ℕ). drop (j * 64) (m ++ part)) (sym count)

-- ---- whole blocks x, and then more

module _ (x r : List ℕ) (k : ℕ) (lx : length x ≡ k * 64) where
  lxr : length (x ++ r) ≡ k * 64 + length r
  lxr = length-append x r ∙ ap (λ (j : ℕ). j + length r) lx

  whole-state : (s : List ℕ) → s ≡ absorbed k initial x → absorbed (length r / 64) s r ≡ absorbed (length (x ++ r) / 64) initial (x ++ r)
  whole-state s e =
      ap (λ (h : List ℕ). absorbed (length r / 64) h r) e ∙ sym (absorbed-append k (length r / 64) initial x r lx)
      ∙ ap (λ (j : ℕ). absorbed j initial (x ++ r)) (let s : k + length r / 64 ≡ length (x ++ r) / 64 = omega (arith, lxr) in s)

  whole-rest : (z : List ℕ) → take (length (x ++ r) % 64) (drop (length r / 64 * 64) r ++ z) ≡ drop (length (x ++ r) / 64 * 64) (x ++ r)
  whole-rest z =
      let at = length r / 64 * 64 in
      let lt : length (drop at r) ≡ length (x ++ r) % 64 = length-drop at r ∙ (let s : length r - at ≡ length (x ++ r) % 64 = omega (arith, lxr) in s) in
      take_at (drop at r) z (length (x ++ r) % 64) lt
      ∙ ap (drop at) (sym (drop_at x r (k * 64) lx)) ∙ drop-drop at (k * 64) (x ++ r)
      ∙ ap (λ (j : ℕ). drop j (x ++ r)) (let s : k * 64 + at ≡ length (x ++ r) / 64 * 64 = omega (arith, lxr) in s)

-- ---- a part that fills a block

module _ (m part buffer f r : List ℕ) (filled room : ℕ)
    (ef : filled ≡ length m % 64) (er : room ≡ 64 - filled) (enough : room ≤ length part)
    (first-is : f ≡ take room part) (rest_is : r ≡ drop room part)
    (held : take (length m % 64) buffer ≡ drop (length m / 64 * 64) m) (lb : length buffer ≡ 64) where
  lf : length f ≡ room
  lf = ap length first-is ∙ length-take-le room part enough

  whole : m ++ part ≡ (m ++ f) ++ r
  whole =
      ap (λ (t : List ℕ). m ++ t) (sym (take-append-drop room part) ∙ ap₂ (λ (a b : List ℕ). a ++ b) (sym first-is) (sym rest_is)) ∙ sym (append_assoc m f r)

  lmf : length (m ++ f) ≡ (length m / 64 + 1) * 64
  lmf = length-append m f ∙ (let s : length m + length f ≡ (length m / 64 + 1) * 64 = omega (arith, lf) in s)

  old : List ℕ
  old = drop (length m / 64 * 64) m

  lo : length (old ++ f) ≡ 64
  unfolding old
  lo = length-append old f ∙ (let s : length old + length f ≡ 64 = omega (arith, lf, length-drop (length m / 64 * 64) m) in s)

  block-is : take filled buffer ++ (f ++ drop (filled + length f) buffer) ≡ old ++ f
  unfolding old
  block-is =
      let none : drop (filled + length f) buffer ≡ [] = drop_all (filled + length f) buffer (omega (arith, lf)) in
      ap₂ (λ (a b : List ℕ). a ++ (f ++ b)) (ap (λ (j : ℕ). take j buffer) ef ∙ held) none ∙ ap (λ (t : List ℕ). old ++ t) (append-nil f)

  state_is : (state block : List ℕ) → state ≡ absorbed (length m / 64) initial m
      → block ≡ take filled buffer ++ (f ++ drop (filled + length f) buffer)
      → compress state block ≡ absorbed (length m / 64 + 1) initial (m ++ f)
  unfolding old
  state_is state block es eb =
      let q = length m / 64 in
      let front = take (q * 64) m in
      let lq : length front ≡ q * 64 = length-take-le (q * 64) m (omega arith) in
      ap₂ compress (es ∙ absorbed-front m initial) (eb ∙ block-is)
      ∙ one_block (absorbed q initial front) (old ++ f) lo
      ∙ sym (absorbed-append q 1 initial front (old ++ f) lq)
      ∙ ap (absorbed (q + 1) initial) (sym (append_assoc front old f) ∙ ap (λ (t : List ℕ). t ++ f) (take-append-drop (q * 64) m))

  pub large-state : (state block : List ℕ) → state ≡ absorbed (length m / 64) initial m
      → block ≡ take filled buffer ++ (f ++ drop (filled + length f) buffer)
      → absorbed (length r / 64) (compress state block) r ≡ absorbed (length (m ++ part) / 64) initial (m ++ part)
  large-state state block es eb =
      whole-state (m ++ f) r (length m / 64 + 1) lmf (compress state block) (state_is state block es eb)
      ∙ ap (λ (t : List ℕ). absorbed (length t / 64) initial t) (sym whole)

  pub large-rest : (z : List ℕ) → take (length (m ++ part) % 64) (drop (length r / 64 * 64) r ++ z) ≡ drop (length (m ++ part) / 64 * 64) (m ++ part)
  large-rest z =
      ap (λ (t : List ℕ). take (length t % 64) (drop (length r / 64 * 64) r ++ z)) whole ∙ whole-rest (m ++ f) r (length m / 64 + 1) lmf z
      ∙ ap (λ (t : List ℕ). drop (length t / 64 * 64) t) (sym whole)

-- ---- the end

pub stream-finished : (m buffer state : List ℕ) (total : ℕ) → state ≡ absorbed (length m / 64) initial m
    → take (length m % 64) buffer ≡ drop (length m / 64 * 64) m → total ≡ length m % 2 ^ 64
    → (x : List ℕ) → x ≡ take (total % 64) buffer ++ padding total → octets_of (absorbed (length x / 64) state x) ≡ sha256 m
unfolding absorbed
stream-finished m buffer state total es eb et x ex =
    let q = length m / 64 in
    let p = take (q * 64) m in
    let r = drop (q * 64) m in
    let lp : length p ≡ q * 64 = length-take-le (q * 64) m (omega arith) in
    let lr : length r ≡ length m - q * 64 = length-drop (q * 64) m in
    let none : length r / 64 ≡ 0 = omega arith in
    let eh : state ≡ absorbed (q * 64 / 64) initial p =
    es ∙ absorbed-front m initial ∙ ap (λ (j : ℕ). absorbed j initial p) (let s : q ≡ q * 64 / 64 = omega arith in s) in
    let whole : q * 64 % 64 ≡ 0 = omega arith in
    let e : x ≡ drop (length r / 64 * 64) r ++ padding ((q * 64 + length r) % 2 ^ 64) =
    ex
    ∙ ap₂ (λ (j k : ℕ). take j buffer ++ padding k) (let s : total % 64 ≡ length m % 64 = omega arith in s) (let s : total ≡ (q * 64 + length r) % 2 ^ 64 = omega arith in s)
    ∙ ap (λ (t : List ℕ). t ++ padding ((q * 64 + length r) % 2 ^ 64)) eb
    ∙ ap (λ (j : ℕ). drop (j * 64) r ++ padding ((q * 64 + length r) % 2 ^ 64)) (sym none) in
    ap (λ (j : ℕ). octets_of (absorbed (length x / 64) (absorbed j state r) x)) (sym none)
    ∙ finished p r state (q * 64) whole lp eh x e ∙ ap sha256 (take-append-drop (q * 64) m)
