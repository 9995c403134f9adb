-- HMAC with SHA-256: FIPS 198-1, section 4, table 1. A block has 64 octets.
use Rattle.std.specs.Prelude.{ℕ, ◌-◌, cond, List, ◌++◌, map, length, replicate, bit_xor, nat_le}
use Rattle.digest.specs.Sha256.{sha256}

-- steps 1 to 3: the key, or where it is longer than a block its hash
abbrev pub short : List ℕ → List ℕ
short key = cond (nat_le (length key) 64) key (sha256 key)

-- steps 1 to 3: K0, which is that with zeros appended up to the length of a block
abbrev pub filled : List ℕ → List ℕ
filled key = short key ++ replicate (64 - length (short key)) 0

-- steps 4 and 7: K0 ⊕ pad, where `pad` is the octet that ipad or opad repeats
unfoldable pub keyed : ℕ → List ℕ → List ℕ
keyed pad key = map (λ x. bit_xor x pad) (filled key)

-- steps 4 to 9: H((K0 ⊕ opad) ‖ H((K0 ⊕ ipad) ‖ text)), with ipad of octets 0x36 and opad of octets 0x5c
unfoldable pub hmac : List ℕ → List ℕ → List ℕ
hmac key text = sha256 (keyed 0x5c key ++ sha256 (keyed 0x36 key ++ text))
