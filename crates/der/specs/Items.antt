-- The item in front of the octets. Assumes nothing.
use Rattle.std.specs.Prelude.{◌≡◌, List, OnOk, ℕ, ◌+◌, Bool, cond, ◌&&◌, length, take, drop, Some, None, Ok, Err, Option, Result, ◌==◌, nat_lt, slice_index}
use Rattle.items.specs.declared.item.Head.{Head}
use Rattle.der.specs.declared.reader.Whole.{Whole}
use Rattle.refusals.specs.Refusals.{Flaw, flaw}
use Rattle.refusals.specs.declared.grounds.Fault.{Fault}
use Rattle.der.specs.Reads.{seen, told, Left, Got, Reads, got, bind, then, start_of, between}
use Rattle.items.specs.declared.item.Part.{Part}
use Rattle.items.specs.Parts.{Piece, piece_of}
use Rattle.items.specs.Headers.{head_of, shortest}
use Rattle.items.specs.Things.{Thing}

-- the item with that header
abbrev pub item_by : Left → Option Head → Result (Got Thing) Flaw
item_by s None = Err (flaw 5 s.offset)
item_by s (Some h) =
    cond (shortest (slice_index s.rest 0) (take h.len (drop h.start s.rest)))
    (Ok (got (record { tag = slice_index s.rest 0; offset = s.offset; content = record { octets = take h.len (drop h.start s.rest); offset = s.offset + h.start } })
    (record { rest = drop h.len (drop h.start s.rest); offset = s.offset + h.start + h.len })))
    (Err (flaw 5 s.offset))

-- the item in front: 6 where none is left, 5 where the octets break the rules for items
unfoldable pub item_at : Reads Thing
item_at s = cond (length s.rest == 0) (Err (flaw 6 s.offset)) (item_by s (head_of s.rest))

-- the content of an item that must have this tag
unfoldable pub expect_at : ℕ → Reads Piece
expect_at tag s = bind (item_at s) (λ i t. cond (i.tag == tag) (Ok (got i.content t)) (Err (flaw 6 s.offset)))

-- an item as it stands and by its content
pub record Wholly : Type 0 where
  pub item : Piece
  pub content : Piece

abbrev pub wholly_of : Whole → Wholly
wholly_of w = record { item = piece_of w.item; content = piece_of w.content }

-- an item that must have this tag, as it stands and by its content
unfoldable pub whole_at : ℕ → Reads Wholly
whole_at tag s = bind (expect_at tag s) (λ c t. Ok (got (record { item = between s t; content = c }) t))

-- an item of any tag, as it stands
unfoldable pub raw_at : Reads Piece
raw_at s = bind (item_at s) (λ i t. Ok (got (between s t) t))

-- a name: a SEQUENCE with content, not opened, as it stands
unfoldable pub name_at : Reads Piece
name_at s = bind (whole_at 48 s) (λ w t. cond (length w.content.octets == 0) (Err (flaw 6 w.content.offset)) (Ok (got w.item t)))

-- nothing is left
unfoldable pub end_at : Left → Result (Unit {0}) Flaw
end_at s = cond (length s.rest == 0) (Ok tt) (bind (item_at s) (λ i t. Err (flaw 6 s.offset)))

-- a part that is read to its end
abbrev pub all_of : {V : Type 0} → Reads V → Piece → Result V Flaw
all_of m p = bind (m (start_of p)) (λ v t. then (end_at t) (λ e. Ok v))

-- the next item begins with this tag
abbrev pub next_is : ℕ → Left → Bool
next_is tag s = nat_lt 0 (length s.rest) && slice_index s.rest 0 == tag

-- What an item with this tag gives whose content must pass a test: its own fault, else the content, or 6 where R says that the
-- test failed. R xs b says that the test of xs gives b.
abbrev pub tested : (List ℕ → Bool → Type 0) → ℕ → Result (Got Piece) Flaw → Result Part Fault → Left → Type 0
tested R p (Err f) r t = told piece_of r t ≡ Err f
tested R p (Ok g) r t = (b : Bool) × R g.value.octets b × (told piece_of r t ≡ cond b (Ok (got g.value g.left)) (Err (flaw 6 p)))

abbrev pub Tested : (List ℕ → Bool → Type 0) → ℕ → Left → Result Part Fault → Left → Type 0
Tested R tag s r t = tested R s.offset (expect_at tag s) r t

-- What an item gives whose content is read up to its end: its own fault, else what a reading that R relates makes of the
-- content, and the fault of an item that is left there. R s r t says that reading s gives r and leaves t.
abbrev pub inside : {T : Type 0} → (Left → Result T Fault → Left → Type 0) → Result (Got Piece) Flaw → Result T Fault → Left → Type 0
inside R (Err f) r t = seen (λ v. v) r ≡ Err f
inside {T} R (Ok g) r t =
    (q : Result T Fault) × (u : Left) × R (start_of g.value) q u × (seen (λ v. v) r ≡ then (seen (λ v. v) q) (λ v. then (end_at u) (λ e. Ok v))) × OnOk r (t ≡ g.left)

abbrev pub Enclosed : {T : Type 0} → (Left → Result T Fault → Left → Type 0) → ℕ → Left → Result T Fault → Left → Type 0
Enclosed R tag s r t = inside R (expect_at tag s) r t
