-- Parts of the octets. Assumes nothing.
use Rattle.std.specs.Prelude.{ℕ, ◌+◌, ◌^◌, ◌<◌, List, length}
use Rattle.items.specs.declared.item.Part.{Part}

-- a part of the octets, with its offset
pub record Piece : Type 0 where
  pub octets : List ℕ
  pub offset : ℕ

-- what a part says, without its reference
abbrev pub piece_of : Part → Piece
piece_of p = record { octets = p.octets.now; offset = p.offset }

-- an offset can name its end
abbrev pub HasEnd : Piece → Type 0
HasEnd p = p.offset + length p.octets < 2 ^ 64
