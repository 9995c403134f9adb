-- The list that a call is given, and the laws of reading it. Assumes nothing.
use Rattle.std.specs.Prelude.{◌≡◌, ℕ, ◌+◌, ◌^◌, ◌≤◌, cond, List, [], length, Some, None, Ok, Err, Option, Result, nat_lt}
use Rattle.refusals.specs.declared.grounds.Refusal.{Refusal}
use Rattle.refusals.specs.Refusals.{Flaw, flaw, Refused, refused, refused_of}
use Rattle.der.specs.Reads.{Got, start_of}
use Rattle.items.specs.Parts.{Piece}
use Rattle.elements.specs.Runs.{run_of}
use Rattle.entry.specs.Entries.{Line, entry_at, entry_step}
use Rattle.list.specs.Lists.{Listing, list_of}
use Rattle.grammar.specs.Grammar.{Elements}
use Rattle.grammar.specs.Law.{Octets}
use Rattle.crl.specs.Profile.{IsEntry, IsList}

-- a fault in the list, as a refusal
abbrev pub in_list : {V : Type 0} → Result V Flaw → Result V Refused
in_list (Ok v) = Ok v
in_list (Err f) = Err (refused f.number 1 f.offset)

-- the list that the octets are: 3 past 65,535 octets, else the first fault from the front
unfoldable pub read_of : List ℕ → Result Listing Refused
read_of xs = cond (nat_lt 65535 (length xs)) (Err (refused 3 1 0)) (in_list (list_of xs))

-- what a call that reads a list answers, without references
abbrev pub answered : {X V : Type 0} → (X → V) → Result X Refusal → Result V Refused
answered f (Ok x) = Ok (f x)
answered f (Err r) = Err (refused_of r)

-- the octets are a list in the profile: not too long, and of the structure
pub record Keeps (xs : List ℕ) (v : Listing) : Type 0 where
  pub short : length xs ≤ 65535
  pub list : IsList xs v

-- the entries in a run, in order
abbrev pub ok_or : {V : Type 0} → V → Result V Flaw → V
ok_or d (Ok v) = v
ok_or d (Err f) = d

abbrev pub lines_in : Option Piece → List Line
lines_in None = []
lines_in (Some c) = (ok_or (record { one = []; two = tt }) (run_of entry_step tt c)).one

-- the first entry of a run, where an offset can name each of its octets
unfoldable pub entry_in : Piece → Result (Got Line) Flaw
entry_in c = cond (nat_lt (c.offset + length c.octets) (2 ^ 64)) (entry_at (start_of c)) (Err (flaw 5 c.offset))

-- that entry and the rest of the run; none where no entry stands there
abbrev pub first_in : Result (Got Line) Flaw → Option Line
first_in (Ok g) = Some g.value
first_in (Err f) = None

abbrev pub rest_in : Piece → Result (Got Line) Flaw → Piece
rest_in c (Ok g) = record { octets = g.left.rest; offset = g.left.offset }
rest_in c (Err f) = c

-- Two lists of octets that keep the profile with the same signed block, algorithm and signature are the same octets.
abbrev pub ListsApart : Type 0
ListsApart =
    (xs ys : List ℕ) (v w : Listing) → Octets xs → Octets ys → IsList xs v → IsList ys w
    → v.signed.item.octets ≡ w.signed.item.octets → v.signed.held.algorithm ≡ w.signed.held.algorithm → v.signature.octets.octets ≡ w.signature.octets.octets
    → xs ≡ ys

-- Where a list has entries, the run that is handed on is one entry or more, and as many as are counted.
abbrev pub EntriesStand : Type 0
EntriesStand =
    (xs : List ℕ) (v : Listing) (c : Piece) → IsList xs v → v.signed.held.entries.run ≡ Some c
    → Elements IsEntry c.offset c.octets (lines_in (Some c)) × (v.signed.held.entries.count ≡ length (lines_in (Some c)))
