-- The operations on 32-bit words of FIPS 180-4, sections 2.2.2, 3.2 and 4.1.2. A word is a number below 2 ^ 32.
use Rattle.std.specs.Prelude.{ℕ, ◌+◌, ◌-◌, ◌*◌, ◌/◌, ◌%◌, ◌^◌, bit_and, bit_or, bit_xor}

-- section 3.2, 1: addition modulo 2 ^ 32
abbrev pub plus : ℕ → ℕ → ℕ
plus x y = (x + y) % 2 ^ 32

-- section 3.2, 3: SHR n(x), the shift to the right by n places
abbrev pub shr : ℕ → ℕ → ℕ
shr n x = x / 2 ^ n

-- section 3.2, 4: ROTR n(x) = (x >> n) ∨ (x << 32 - n), the rotation to the right by n places
abbrev pub rotr : ℕ → ℕ → ℕ
rotr n x = bit_or (x / 2 ^ n) ((x * 2 ^ (32 - n)) % 2 ^ 32)

-- section 2.2.2: ¬x, each bit turned
abbrev pub turned : ℕ → ℕ
turned x = bit_xor x 0xffff_ffff

-- formula (4.2): Ch(x, y, z) = (x ∧ y) ⊕ (¬x ∧ z)
unfoldable pub ch : ℕ → ℕ → ℕ → ℕ
ch x y z = bit_xor (bit_and x y) (bit_and (turned x) z)

-- formula (4.3): Maj(x, y, z) = (x ∧ y) ⊕ (x ∧ z) ⊕ (y ∧ z)
unfoldable pub maj : ℕ → ℕ → ℕ → ℕ
maj x y z = bit_xor (bit_xor (bit_and x y) (bit_and x z)) (bit_and y z)

-- formula (4.4): Σ0(x) = ROTR 2(x) ⊕ ROTR 13(x) ⊕ ROTR 22(x)
unfoldable pub Σ0 : ℕ → ℕ
Σ0 x = bit_xor (bit_xor (rotr 2 x) (rotr 13 x)) (rotr 22 x)

-- formula (4.5): Σ1(x) = ROTR 6(x) ⊕ ROTR 11(x) ⊕ ROTR 25(x)
unfoldable pub Σ1 : ℕ → ℕ
Σ1 x = bit_xor (bit_xor (rotr 6 x) (rotr 11 x)) (rotr 25 x)

-- formula (4.6): σ0(x) = ROTR 7(x) ⊕ ROTR 18(x) ⊕ SHR 3(x)
unfoldable pub σ0 : ℕ → ℕ
σ0 x = bit_xor (bit_xor (rotr 7 x) (rotr 18 x)) (shr 3 x)

-- formula (4.7): σ1(x) = ROTR 17(x) ⊕ ROTR 19(x) ⊕ SHR 10(x)
unfoldable pub σ1 : ℕ → ℕ
σ1 x = bit_xor (bit_xor (rotr 17 x) (rotr 19 x)) (shr 10 x)
