-- Laws of words by which the code's forms are the standard's.
use Rattle.std.proofs.Common.{◌≡◌, ℕ, zero, suc, ◌/◌, ◌%◌, ◌^◌, ◌<◌, [], ◌∷◌, sym, refl, ap, ◌∙◌, pow-suc, arith}
use lib.Bits.{bit_and, bit_xor, and_shr, xor_shr, and_mod, xor_mod, and_comm, xor_comm, xor_assoc, and_mask}
use Rattle.compression.specs.Words.{turned, plus, ch, maj, Σ0, Σ1}
use Rattle.compression.specs.Block.{round_of}

by_digits : (x y : ℕ) → x / 2 ≡ y / 2 → x % 2 ≡ y % 2 → x ≡ y
by_digits x y p q = omega arith

digit : (x y z : ℕ) → x < 2 → y < 2 → z < 2 → bit_and x (bit_xor y z) ≡ bit_xor (bit_and x y) (bit_and x z)
digit zero y z hx hy hz = refl
digit (suc zero) zero zero hx hy hz = refl
digit (suc zero) zero (suc zero) hx hy hz = refl
digit (suc zero) zero (suc (suc z)) hx hy hz = absurd (omega arith)
digit (suc zero) (suc zero) zero hx hy hz = refl
digit (suc zero) (suc zero) (suc zero) hx hy hz = refl
digit (suc zero) (suc zero) (suc (suc z)) hx hy hz = absurd (omega arith)
digit (suc zero) (suc (suc y)) z hx hy hz = absurd (omega arith)
digit (suc (suc x)) y z hx hy hz = absurd (omega arith)

and-xor-up : (k x y z : ℕ) → x < 2 ^ k → bit_and x (bit_xor y z) ≡ bit_xor (bit_and x y) (bit_and x z)
and-xor-up zero x y z h = let e : x ≡ zero = omega arith in rw e
and-xor-up (suc k) x y z h =
    let low : x / 2 < 2 ^ k = omega (arith, pow-suc 2 k) in
    by_digits _ _
    (and_shr x (bit_xor y z) 1 ∙ ap (bit_and (x / 2)) (xor_shr y z 1) ∙ and-xor-up k (x / 2) (y / 2) (z / 2) low
    ∙ sym (xor_shr (bit_and x y) (bit_and x z) 1 ∙ ap (λ (n : ℕ). bit_xor n (bit_and x z / 2)) (and_shr x y 1) ∙ ap (bit_xor (bit_and (x / 2) (y / 2))) (and_shr x z 1)))
    (and_mod x (bit_xor y z) 1 ∙ ap (bit_and (x % 2)) (xor_mod y z 1) ∙ digit (x % 2) (y % 2) (z % 2) (omega arith) (omega arith) (omega arith)
    ∙ sym (xor_mod (bit_and x y) (bit_and x z) 1 ∙ ap (λ (n : ℕ). bit_xor n (bit_and x z % 2)) (and_mod x y 1) ∙ ap (bit_xor (bit_and (x % 2) (y % 2))) (and_mod x z 1)))

-- `z ^ (x & (y ^ z))` is the standard's Ch
pub choose_law : (x y z : ℕ) → x < 2 ^ 32 → z < 2 ^ 32 → bit_xor z (bit_and x (bit_xor y z)) ≡ bit_xor (bit_and x y) (bit_and (turned x) z)
choose_law x y z hx hz =
    let whole : bit_and z 0xffff_ffff ≡ z = and_mask z 32 ∙ (let e : z % 2 ^ 32 ≡ z = omega arith in e) in
    let turn : bit_and (turned x) z ≡ bit_xor (bit_and x z) z =
    and_comm (turned x) z ∙ and-xor-up 32 z x 0xffff_ffff hz ∙ ap (bit_xor (bit_and z x)) whole ∙ ap (λ (n : ℕ). bit_xor n z) (and_comm z x) in
    xor_comm z (bit_and x (bit_xor y z)) ∙ ap (λ (n : ℕ). bit_xor n z) (and-xor-up 32 x y z hx) ∙ xor_assoc (bit_and x y) (bit_and x z) z
    ∙ ap (bit_xor (bit_and x y)) (sym turn)

-- the sums of a round, with what is known last added last
first-sum : (h s c kw : ℕ) → plus (plus (plus h kw) c) s ≡ plus (plus (plus (plus h s) c) 0) kw
first-sum h s c kw = omega arith

second-sum : (t m s : ℕ) → plus (plus t m) s ≡ plus t (plus s m)
second-sum t m s = omega arith

-- a round, from the sum kw of its constant and its word, and the values of the four functions
pub round-by-sums : (kw a b c d e f g h c-is m-is s0 s1 : ℕ) → c-is ≡ ch e f g → m-is ≡ maj a b c → s0 ≡ Σ0 a → s1 ≡ Σ1 e
    → plus (plus (plus (plus (plus h kw) c-is) s1) m-is) s0 ∷ a ∷ b ∷ c ∷ plus d (plus (plus (plus h kw) c-is) s1) ∷ e ∷ f ∷ g ∷ []
    ≡ round_of 0 kw a b c d e f g h
round-by-sums kw a b c d e f g h c-is m-is s0 s1 ec em e0 e1 =
    let x = first-sum h s1 c-is kw in
    let y = second-sum (plus (plus (plus h kw) c-is) s1) m-is s0 in
    cc
