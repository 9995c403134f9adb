-- What octets are in DER, said of whole stretches of octets and not of a reader's steps. Assumes nothing.
use Rattle.std.specs.Prelude.{◌≡◌, ℕ, ◌+◌, ◌*◌, ◌%◌, ◌<◌, ◌≤◌, true, false, List, [], ◌∷◌, ◌++◌, length, nat_eq}
use Rattle.der.specs.Reads.{Left, Got}
use Rattle.items.specs.Parts.{Piece}
use Rattle.items.specs.Things.{Thing}
use Rattle.items.specs.Headers.{shortest}

-- length octets and the length that they mean: the shortest of the three forms
pub data LengthIs : List ℕ → ℕ → Type 0 where
  short : {n : ℕ} → n < 128 → LengthIs (n ∷ []) n
  one : {n : ℕ} → 128 ≤ n → LengthIs (129 ∷ n ∷ []) n
  two : {a b n : ℕ} → n ≡ a * 256 + b → 256 ≤ n → LengthIs (130 ∷ a ∷ b ∷ []) n

-- these octets, at this offset, are the item: its tag, the length of its content, and its content
pub record IsItem (p : ℕ) (w : List ℕ) (i : Thing) : Type 0 where
  pub len : List ℕ
  pub means : LengthIs len (length i.content.octets)
  pub octets : w ≡ i.tag ∷ (len ++ i.content.octets)
  pub stands : i.offset ≡ p
  pub offset : i.content.offset ≡ p + (1 + length len)
  pub low : nat_eq (i.tag % 32) 31 ≡ false
  pub neat : shortest i.tag i.content.octets ≡ true

-- these octets, at this offset, are an item with this tag and content
abbrev pub Tagged : ℕ → ℕ → List ℕ → Piece → Type 0
Tagged t p w c = IsItem p w (record { tag = t; offset = p; content = c })

-- the octets in front are of the shape, and the rest is left
pub record Parsed {V : Type 0} (R : ℕ → List ℕ → V → Type 0) (s : Left) (g : Got V) : Type 0 where
  pub front : List ℕ
  pub rest : s.rest ≡ front ++ g.left.rest
  pub offset : g.left.offset ≡ s.offset + length front
  pub shape : R s.offset front g.value
