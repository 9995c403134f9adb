-- The end of a message, put together from its last octets, the mark 0x80, zeros and the length.
use Rattle.std.proofs.Common.{◌≡◌, ℕ, zero, suc, ◌+◌, ◌-◌, ◌*◌, ◌%◌, ◌^◌, ◌≤◌, List, [], ◌∷◌, ◌++◌, length, take, drop, set, replicate, sym, refl, ap, ◌∙◌, ap₂, append_assoc, append-nil, arith, length-append, length-drop}
use lib.ListN.{length-replicate}
use Rattle.std.proofs.lemmas.List.{take_at, drop_all, set_at, drop-replicate, replicate-append-replicate}
use Rattle.digest.specs.Sha256.{octets8, padding}

same-cons : {x y : ℕ} {xs ys : List ℕ} → x ≡ y → xs ≡ ys → x ∷ xs ≡ y ∷ ys
same-cons e f = cc

-- the length field has the low 64 bits alone, so the code may multiply modulo 2 ^ 64
pub octets8-mod : (n : ℕ) → octets8 ((n * 8) % 2 ^ 64) ≡ octets8 (8 * n)
octets8-mod n =
    same-cons (omega arith) (same-cons (omega arith) (same-cons (omega arith) (same-cons (omega arith)
    (same-cons (omega arith) (same-cons (omega arith) (same-cons (omega arith) (same-cons (omega arith) refl)))))))

-- and so the padding rests on the length modulo 2 ^ 64 alone
pub padding-mod : (n : ℕ) → padding (n % 2 ^ 64) ≡ padding n
unfolding padding
padding-mod n =
    ap₂ (λ (k : ℕ) (t : List ℕ). 0x80 ∷ (replicate k 0 ++ t)) (let e : (55 + 64 - n % 2 ^ 64 % 64) % 64 ≡ (55 + 64 - n % 64) % 64 = omega arith in e)
    (same-cons (omega arith) (same-cons (omega arith) (same-cons (omega arith) (same-cons (omega arith)
    (same-cons (omega arith) (same-cons (omega arith) (same-cons (omega arith) (same-cons (omega arith) refl))))))))

-- three writes over N zeros: the rest of a message, the mark after it, and the length `bits` up to the end
module _ (rest bits : List ℕ) (n N : ℕ) (ln : length rest ≡ n) (fits : n + 9 ≤ N) where
  front : List ℕ
  front = rest ++ (0x80 ∷ replicate (N - 9 - n) 0)

  front_length : length front ≡ N - 8
  unfolding front
  front_length = omega (arith, length-append rest (0x80 ∷ replicate (N - 9 - n) 0), length-replicate (N - 9 - n) zero)

  marked : (x : List ℕ) → x ≡ set (rest ++ drop n (replicate N 0)) n 0x80 → x ≡ front ++ replicate 8 0
  unfolding front
  marked x e =
      e
      ∙ ap (λ (t : List ℕ). set (rest ++ t) n 0x80) (drop-replicate n N 0 ∙ ap (λ (k : ℕ). replicate k 0) (let s : N - n ≡ suc (N - 1 - n) = omega arith in s))
      ∙ set_at rest 0 (replicate (N - 1 - n) 0) 0x80 n ln
      ∙ ap (λ (t : List ℕ). rest ++ (0x80 ∷ t))
      (ap (λ (k : ℕ). replicate k 0) (let s : N - 1 - n ≡ (N - 9 - n) + 8 = omega arith in s) ∙ sym (replicate-append-replicate (N - 9 - n) 8 0))
      ∙ sym (append_assoc rest (0x80 ∷ replicate (N - 9 - n) 0) (replicate 8 0))

  pub padded-made : (x : List ℕ) → x ≡ set (rest ++ drop n (replicate N 0)) n 0x80
      → take (N - 8) x ++ (bits ++ drop (length x - (N - 8)) (drop (N - 8) x)) ≡ rest ++ (0x80 ∷ (replicate (N - 9 - n) 0 ++ bits))
  unfolding front
  padded-made x e =
      let none : drop (length x - (N - 8)) (drop (N - 8) x) ≡ [] = drop_all (length x - (N - 8)) (drop (N - 8) x) (omega (arith, length-drop (N - 8) x)) in
      ap₂ (λ (a b : List ℕ). a ++ (bits ++ b)) (ap (take (N - 8)) (marked x e) ∙ take_at front (replicate 8 0) (N - 8) front_length) none
      ∙ ap (λ (t : List ℕ). front ++ t) (append-nil bits)
      ∙ append_assoc rest (0x80 ∷ replicate (N - 9 - n) 0) bits
