-- SHA-256 of a message, a list of octets: FIPS 180-4, sections 5.1.1, 5.2.1, 5.3.3 and 6.2.
use Rattle.std.specs.Prelude.{ℕ, zero, suc, ◌+◌, ◌-◌, ◌*◌, ◌/◌, ◌%◌, ◌^◌, List, [], ◌∷◌, ◌++◌, length, take, drop, replicate}
use Rattle.compression.specs.Block.{compress}

-- section 5.1.1: a number as a block of 64 bits, in octets, the most significant first. Of a number from 2 ^ 64 on, its low 64 bits
abbrev pub octets8 : ℕ → List ℕ
octets8 n =
    (n / 2 ^ 56 % 256) ∷ (n / 2 ^ 48 % 256) ∷ (n / 2 ^ 40 % 256) ∷ (n / 2 ^ 32 % 256)
    ∷ (n / 2 ^ 24 % 256) ∷ (n / 2 ^ 16 % 256) ∷ (n / 2 ^ 8 % 256) ∷ (n % 256) ∷ []

-- section 5.1.1: what is appended to a message of n octets. The bit 1, and the fewest zero bits that bring the length to 448 bits modulo 512:
-- the octet 0x80, and so many octets 0 that n + 1 and they make 56 modulo 64. Then the length in bits
unfoldable pub padding : ℕ → List ℕ
padding n = 0x80 ∷ (replicate ((55 + 64 - n % 64) % 64) 0 ++ octets8 (8 * n))

-- section 5.1.1: the padded message
abbrev pub padded : List ℕ → List ℕ
padded m = m ++ padding (length m)

-- section 5.3.3: the initial hash value, the first 32 bits of the fractional parts of the square roots of the first eight primes
abbrev pub initial : List ℕ
initial = 0x6a09_e667 ∷ 0xbb67_ae85 ∷ 0x3c6e_f372 ∷ 0xa54f_f53a ∷ 0x510e_527f ∷ 0x9b05_688c ∷ 0x1f83_d9ab ∷ 0x5be0_cd19 ∷ []

-- sections 5.2.1 and 6.2.2: the state after n blocks of 64 octets from the front of a list, from the state h on
unfoldable pub absorbed : ℕ → List ℕ → List ℕ → List ℕ
absorbed zero h xs = h
absorbed (suc n) h xs = absorbed n (compress h (take 64 xs)) (drop 64 xs)

-- section 6.2.2, the end: the words of a state one after the other, in octets, the most significant first
unfoldable pub octets_of : List ℕ → List ℕ
octets_of [] = []
octets_of (w ∷ ws) = (w / 2 ^ 24 % 256) ∷ (w / 2 ^ 16 % 256) ∷ (w / 2 ^ 8 % 256) ∷ (w % 256) ∷ octets_of ws

-- section 6.2: the digest of a message
unfoldable pub sha256 : List ℕ → List ℕ
sha256 m = octets_of (absorbed (length (padded m) / 64) initial (padded m))
