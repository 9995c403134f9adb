-- Reading: what is left, what was got. Assumes nothing.
use Rattle.std.specs.Prelude.{ℕ, ◌+◌, ◌-◌, ◌≤◌, List, length, take, Some, None, Ok, Err, Option, Result}
use Rattle.refusals.specs.declared.grounds.Fault.{Fault}
use Rattle.refusals.specs.Refusals.{Flaw, flaw_of}
use Rattle.items.specs.Parts.{Piece, HasEnd}

-- what is left to read, and its offset
pub record Left : Type 0 where
  pub rest : List ℕ
  pub offset : ℕ

-- what was read, and what is left then
pub record Got (V : Type 0) : Type 0 where
  pub value : V
  pub left : Left

-- two things
pub record Both (V W : Type 0) : Type 0 where
  pub one : V
  pub two : W

-- reading: a value and what is left, or a fault
abbrev pub Reads : Type 0 → Type 0
Reads V = Left → Result (Got V) Flaw

abbrev pub got : {V : Type 0} → V → Left → Got V
got v s = record { value = v; left = s }

-- one reading, then the next
abbrev pub bind : {V W : Type 0} → Result (Got V) Flaw → (V → Left → Result W Flaw) → Result W Flaw
bind (Ok g) f = f g.value g.left
bind (Err e) f = Err e

-- a result, then what is made of it
abbrev pub then : {V W : Type 0} → Result V Flaw → (V → Result W Flaw) → Result W Flaw
then (Ok v) f = f v
then (Err e) f = Err e

-- a part, to be read from its front
abbrev pub start_of : Piece → Left
start_of p = record { rest = p.octets; offset = p.offset }

-- the octets from one point of a reading to a later one
abbrev pub between : Left → Left → Piece
between s t = record { octets = take (length s.rest - length t.rest) s.rest; offset = s.offset }

-- what is left, as a part
abbrev pub part_left : Left → Piece
part_left s = record { octets = s.rest; offset = s.offset }

-- an item has two octets or more, and so much less is left after it
abbrev pub PastAnItem : Left → Left → Type 0
PastAnItem s t = length t.rest + 2 ≤ length s.rest

-- the end of what is left is an offset, before a reading and after it
abbrev pub HasEnds : Left → Left → Type 0
HasEnds s t = HasEnd (part_left s) × HasEnd (part_left t)

abbrev pub mapped : {X V : Type 0} → (X → V) → Option X → Option V
mapped f None = None
mapped f (Some x) = Some (f x)

-- what a call that reads tells: its result, and what is left
abbrev pub told : {X V : Type 0} → (X → V) → Result X Fault → Left → Result (Got V) Flaw
told f (Ok x) s = Ok (got (f x) s)
told f (Err e) s = Err (flaw_of e)

-- what a call that reads with a state tells: its result, the state, and what is left
abbrev pub told_both : {X V S T : Type 0} → (X → V) → (S → T) → Result X Fault → S → Left → Result (Got (Both V T)) Flaw
told_both f g (Ok x) a s = Ok (got (record { one = f x; two = g a }) s)
told_both f g (Err e) a s = Err (flaw_of e)

-- what a call tells that reads a part whole
abbrev pub seen : {X V : Type 0} → (X → V) → Result X Fault → Result V Flaw
seen f (Ok x) = Ok (f x)
seen f (Err e) = Err (flaw_of e)

-- a value that is there, or a fault
abbrev pub or_fault : {V : Type 0} → Option V → Flaw → Left → Result (Got V) Flaw
or_fault (Some v) f t = Ok (got v t)
or_fault None f t = Err f
