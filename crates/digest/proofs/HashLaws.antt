-- The state after blocks that come in parts, the octets of words, and the digest of a message that is finished in two parts.
use Rattle.std.proofs.Common.{◌≡◌, ℕ, zero, suc, ◌+◌, ◌*◌, ◌/◌, ◌%◌, ◌^◌, ◌<◌, ◌≤◌, List, [], ◌∷◌, ◌++◌, length, get_or, take, drop, sym, refl, ap, ◌∙◌, ap₂, append_assoc, suc-add, zero-add, arith, length-append, length-drop}
use Rattle.std.specs.List.{fold, flat_map}
use Rattle.std.specs.Int.{w32, to_be_bytes}
use Rattle.std.specs.Simd.{first_chunks}
use Rattle.std.proofs.lemmas.List.{nil_from_length, take-append-le, drop-append-le, take-append-drop, take_all, length-take-le}
use Rattle.compression.specs.Block.{compress}
use Rattle.digest.specs.Sha256.{initial, absorbed, padding, octets_of, sha256}
use Rattle.digest.proofs.PadLaws.{padding-mod}

-- the blocks as `as_chunks` cuts them
pub absorbed-chunks : (n : ℕ) (h m : List ℕ) → fold compress h (first_chunks 64 n m) ≡ absorbed n h m
unfolding absorbed
absorbed-chunks zero h m = refl
absorbed-chunks (suc n) h m = absorbed-chunks n (compress h (take 64 m)) (drop 64 m)

pub blocks-of : (h x y : List ℕ) → x ≡ y → fold compress h (first_chunks 64 (length x / 64) x) ≡ absorbed (length y / 64) h y
blocks-of h x y e = absorbed-chunks (length x / 64) h x ∙ ap (λ (t : List ℕ). absorbed (length t / 64) h t) e

pub one_block : (h b : List ℕ) → length b ≡ 64 → compress h b ≡ absorbed 1 h b
unfolding absorbed
one_block h b e = ap (compress h) (sym (take_all 64 b (omega arith)))

pub absorbed-append : (n k : ℕ) (h x y : List ℕ) → length x ≡ n * 64 → absorbed (n + k) h (x ++ y) ≡ absorbed k (absorbed n h x) y
unfolding absorbed
absorbed-append zero k h x y e = rw (nil_from_length x e, zero-add)
absorbed-append (suc n) k h x y e =
    let long : 64 ≤ length x = omega arith in
    let left : length (drop 64 x) ≡ n * 64 = simp length-drop (omega arith) in
    ap (λ (j : ℕ). absorbed j h (x ++ y)) (suc-add n k)
    ∙ ap₂ (λ (a b : List ℕ). absorbed (n + k) (compress h a) b) (take-append-le 64 x y long) (drop-append-le 64 x y long)
    ∙ absorbed-append n k (compress h (take 64 x)) (drop 64 x) y left

-- the blocks of a list are those of its front that is whole blocks
pub absorbed-front : (m h : List ℕ) → absorbed (length m / 64) h m ≡ absorbed (length m / 64) h (take (length m / 64 * 64) m)
unfolding absorbed
absorbed-front m h =
    let n = length m / 64 in
    let long : length (take (n * 64) m) ≡ n * 64 = length-take-le (n * 64) m (omega arith) in
    ap₂ (λ (j : ℕ) (x : List ℕ). absorbed j h x) (let e : n ≡ n + 0 = omega arith in e) (sym (take-append-drop (n * 64) m))
    ∙ absorbed-append n 0 h (take (n * 64) m) (drop (n * 64) m) long

-- ---- the octets of words

pub octets-joined : (ws : List ℕ) (parts : List (List ℕ)) → length parts ≡ length ws
    → ((i : ℕ) → i < length ws → get_or parts i [] ≡ to_be_bytes w32 (get_or ws i 0)) → flat_map (λ (x : List ℕ). x) parts ≡ octets_of ws
unfolding octets_of
octets-joined [] [] e each = refl
octets-joined [] (p ∷ parts) e each = absurd (omega arith)
octets-joined (w ∷ ws) [] e each = absurd (omega arith)
octets-joined (w ∷ ws) (p ∷ parts) e each =
    ap₂ (λ (a b : List ℕ). a ++ b) (each 0 (omega arith)) (octets-joined ws parts (omega arith) (λ i h. each (suc i) (omega arith)))

-- ---- the digest of p ++ m, where p is whole blocks that led to the state h, and x is what is left of m, with the padding

pub finished : (p m h : List ℕ) (before : ℕ) → before % 64 ≡ 0 → length p ≡ before → h ≡ absorbed (before / 64) initial p
    → (x : List ℕ) → x ≡ drop (length m / 64 * 64) m ++ padding ((before + length m) % 2 ^ 64)
    → octets_of (absorbed (length x / 64) (absorbed (length m / 64) h m) x) ≡ sha256 (p ++ m)
unfolding sha256
finished p m h before whole lp eh x ex =
    let n = length m / 64 in
    let front = take (n * 64) m in
    let rest = drop (n * 64) m in
    let pad = padding (length (p ++ m)) in
    let lpm : length (p ++ m) ≡ before + length m = length-append p m ∙ ap (λ (j : ℕ). j + length m) lp in
    let x-is : x ≡ rest ++ pad = ex ∙ ap (λ (t : List ℕ). rest ++ t) (padding-mod (before + length m) ∙ ap padding (sym lpm)) in
    let lf : length front ≡ n * 64 = length-take-le (n * 64) m (omega arith) in
    let all : (p ++ m) ++ pad ≡ p ++ (front ++ x) =
    append_assoc p m pad
    ∙ ap (λ (t : List ℕ). p ++ t) (ap (λ (t : List ℕ). t ++ pad) (sym (take-append-drop (n * 64) m)) ∙ append_assoc front rest pad ∙ ap (λ (t : List ℕ). front ++ t) (sym x-is)) in
    let lall : length ((p ++ m) ++ pad) ≡ length p + (length front + length x) =
    ap length all ∙ length-append p (front ++ x) ∙ ap (λ (j : ℕ). length p + j) (length-append front x) in
    let count : length ((p ++ m) ++ pad) / 64 ≡ before / 64 + (n + length x / 64) = omega arith in
    ap octets_of
    (ap (λ (s : List ℕ). absorbed (length x / 64) s x) (absorbed-front m h ∙ ap (λ (s : List ℕ). absorbed n s front) eh)
    ∙ sym (absorbed-append n (length x / 64) (absorbed (before / 64) initial p) front x lf)
    ∙ sym (absorbed-append (before / 64) (n + length x / 64) initial p (front ++ x) (omega arith))
    ∙ ap₂ (λ (j : ℕ) (t : List ℕ). absorbed j initial t) (sym count) (sym all))
