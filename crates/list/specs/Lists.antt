-- The list. Assumes nothing.
use Rattle.std.specs.Prelude.{ℕ, ◌+◌, Bool, cond, ◌&&◌, List, length, drop, Ok, Err, Result, ◌==◌, nat_le, slice_index}
use Rattle.refusals.specs.Refusals.{Flaw, flaw}
use Rattle.items.specs.Parts.{Piece, piece_of}
use Rattle.der.specs.Reads.{Reads, got, bind, then}
use Rattle.der.specs.Items.{expect_at, whole_at, all_of}
use Rattle.list.specs.declared.signed.SignedBlock.{SignedBlock}
use Rattle.list.specs.declared.signed.Signature.{Signature}
use Rattle.list.specs.declared.signed.RevocationList.{RevocationList}
use Rattle.algorithm.specs.Algorithms.{again_at}
use Rattle.block.specs.Blocks.{Held, held_of, block_at}

-- the signed block: the item as it stands, and what it says
pub record BlockAs : Type 0 where
  pub item : Piece
  pub held : Held

-- the signature: the item as it stands, and its octets after the first one of its content
pub record Signed : Type 0 where
  pub item : Piece
  pub octets : Piece

-- what a list says
pub record Listing : Type 0 where
  pub signed : BlockAs
  pub signature : Signed

abbrev pub block_as_of : SignedBlock → BlockAs
block_as_of b = record { item = piece_of b.item; held = held_of b.block }

abbrev pub signature_of : Signature → Signed
signature_of s = record { item = piece_of s.item; octets = piece_of s.octets }

abbrev pub listing_of : RevocationList → Listing
listing_of l = record { signed = block_as_of l.signed; signature = signature_of l.signature }

-- the signed block
unfoldable pub signed_at : Reads BlockAs
signed_at s = bind (whole_at 48 s) (λ w t. then (all_of block_at w.content) (λ held. Ok (got (record { item = w.item; held = held }) t)))

-- the content of a signature's BIT STRING: no unused bits, and at least one octet more
abbrev pub signature_is : List ℕ → Bool
signature_is xs = nat_le 2 (length xs) && slice_index xs 0 == 0

-- the signature
unfoldable pub signature_at : Reads Signed
signature_at s =
    bind (whole_at 3 s) (λ w t.
    cond (signature_is w.content.octets)
    (Ok (got (record { item = w.item; octets = record { octets = drop 1 w.content.octets; offset = w.content.offset + 1 } }) t))
    (Err (flaw 6 s.offset)))

-- signed block, the block's algorithm again, signature
unfoldable pub body_at : Reads Listing
body_at s =
    bind (signed_at s) (λ signed t.
    bind (again_at signed.held.algorithm t) (λ again u.
    bind (signature_at u) (λ signature w.
    Ok (got (record { signed = signed; signature = signature }) w))))

-- a list
unfoldable pub list_at : Reads Listing
list_at s = bind (expect_at 48 s) (λ c t. then (all_of body_at c) (λ v. Ok (got v t)))

-- the list that the octets are
unfoldable pub list_of : List ℕ → Result Listing Flaw
list_of xs = all_of list_at (record { octets = xs; offset = 0 })
