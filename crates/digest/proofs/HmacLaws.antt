-- The keyed blocks of HMAC.
use Rattle.std.proofs.Common.{◌≡◌, ℕ, zero, suc, ◌+◌, ◌-◌, ◌<◌, cond, leb, List, ◌++◌, map, length, get_or, replicate, sym, ap, subst, ◌∙◌, arith, length-append}
use lib.Bits.{bit_xor}
use Rattle.std.proofs.lemmas.Grind.{same_number_lists}
use denote.Param.Members.{Mut, Called}
use Rattle.std.specs.Array.{MapsFrom, IsMapOf}
use Rattle.std.proofs.lemmas.List.{map-append, get_or-map, length-map}
use Rattle.digest.specs.Sha256.{sha256}
use Rattle.digest.specs.Hmac.{short, filled, keyed}

-- what an array's `map` gives, where the closure acts as h
module _ {F : Type 0} (g : Mut F (ℕ × Unit {0}) ℕ) (f : F) (h : ℕ → ℕ) (acts : (x y : ℕ) (q : F) → Called g f (x, tt) y q → (y ≡ h x) × (q ≡ f)) where
  mapped-from : (xs ys : List ℕ) (i n : ℕ) → MapsFrom g f xs ys i n → (j k : ℕ) → j < n → i + j ≡ k → get_or ys k 0 ≡ h (get_or xs k 0)
  mapped-from xs ys i zero m j k l e = absurd (omega arith)
  mapped-from xs ys i (suc n) m zero k l e =
      let s : k ≡ i = omega arith in
      ap (λ (a : ℕ). get_or ys a 0) s ∙ m.4.1 0 ∙ (acts m.1 m.2 m.0 m.5).0 ∙ ap h (sym (ap (λ (a : ℕ). get_or xs a 0) s ∙ m.3.1 0))
  mapped-from xs ys i (suc n) m (suc j) k l e =
      let same = (acts m.1 m.2 m.0 m.5).1 in
      mapped-from xs ys (i + 1) n (let P : F → Type 0 = λ s. MapsFrom g s xs ys (i + 1) n in subst P same m.6) j k (omega arith) (omega arith)

  pub mapped : (xs ys : List ℕ) (n : ℕ) → length xs ≡ n → IsMapOf g f xs ys n → ys ≡ map h xs
  mapped xs ys n e m =
      same_number_lists ys (map h xs) (m.long ∙ sym (length-map xs h ∙ e))
      (λ k l. mapped-from xs ys 0 n m.each k k (omega (arith, m.long)) (omega arith) ∙ sym (get_or-map h xs k 0 0 (omega (arith, m.long))))

-- K0 at a key of 32 octets
filled-32 : (key : List ℕ) → length key ≡ 32 → filled key ≡ key ++ replicate 32 0
filled-32 key e =
    let itself : short key ≡ key = ap (λ (n : ℕ). cond (leb n 64) key (sha256 key)) e in
    ap (λ (k : List ℕ). k ++ replicate (64 - length k) 0) itself ∙ ap (λ (n : ℕ). key ++ replicate (64 - n) 0) e

pub keyed-32 : (pad : ℕ) (key : List ℕ) → length key ≡ 32 → map (λ (x : ℕ). bit_xor x pad) key ++ replicate 32 pad ≡ keyed pad key
unfolding keyed
keyed-32 pad key e =
    let f : ℕ → ℕ = λ x. bit_xor x pad in
    sym (map-append f key (replicate 32 0)) ∙ ap (map f) (sym (filled-32 key e))

pub length-keyed : (pad : ℕ) (key : List ℕ) → length key ≡ 32 → length (keyed pad key) ≡ 64
unfolding keyed
length-keyed pad key lk =
    length-map (filled key) (λ x. bit_xor x pad) ∙ ap length (filled-32 key lk) ∙ length-append key (replicate 32 zero) ∙ ap (λ (n : ℕ). n + 32) lk
