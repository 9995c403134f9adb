-- The bits in which two lists differ, gathered in one octet.
use Rattle.std.proofs.Common.{◌≡◌, ℕ, List, [], ◌∷◌, length, sym, refl, ap, ◌∙◌, ap₂, arith}
use lib.Bits.{bit_or, bit_xor, or_add_and, and_le_l, and_le_r, xor_assoc, xor_self, xor_zero_r}
use Rattle.std.specs.List.{fold, zip}

or-none : (d e : ℕ) → bit_or d e ≡ 0 → (d ≡ 0) × (e ≡ 0)
or-none d e h = (omega (arith, or_add_and d e, and_le_r d e), omega (arith, or_add_and d e, and_le_l d e))

xor-none : (x y : ℕ) → bit_xor x y ≡ 0 → x ≡ y
xor-none x y h = sym (xor_zero_r x) ∙ ap (bit_xor x) (sym (xor_self y)) ∙ sym (xor_assoc x y y) ∙ ap (λ (n : ℕ). bit_xor n y) h

-- the differences of two octets, gathered with those before
abbrev pub gather : ℕ → ℕ × ℕ → ℕ
gather d p = bit_or d (bit_xor p.0 p.1)

-- none is gathered exactly where there was none before and the lists are the same
pub gathered : (xs ys : List ℕ) (d : ℕ) → length xs ≡ length ys
    → (fold gather d (zip xs ys) ≡ 0 → (d ≡ 0) × (xs ≡ ys)) × ((d ≡ 0) × (xs ≡ ys) → fold gather d (zip xs ys) ≡ 0)
gathered [] [] d e = (λ z. (z, refl), λ p. p.0)
gathered [] (y ∷ ys) d e = absurd (omega arith)
gathered (x ∷ xs) [] d e = absurd (omega arith)
gathered (x ∷ xs) (y ∷ ys) d e =
    let rest = gathered xs ys (bit_or d (bit_xor x y)) (omega arith) in (
      λ z.
          let q = rest.0 z in
          let n = or-none d (bit_xor x y) q.0 in
          (n.0, ap₂ (λ (v : ℕ) (t : List ℕ). v ∷ t) (xor-none x y n.1) q.1),
      λ p.
          let same = p.1 in
          let first : x ≡ y = cc in
          let others : xs ≡ ys = cc in
          rest.1 (ap₂ (λ (m n : ℕ). bit_or m (bit_xor n y)) p.0 first ∙ xor_self y, others),
    )
