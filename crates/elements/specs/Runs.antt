-- Runs of elements. Assumes nothing.
use Rattle.std.specs.Prelude.{◌≡◌, ℕ, zero, suc, ◌+◌, ◌≤◌, cond, List, [], ◌∷◌, ◌++◌, length, Some, None, Ok, Err, Option, Result, ◌==◌, nat_lt, slice_set}
use Rattle.refusals.specs.declared.grounds.Fault.{Fault}
use Rattle.refusals.specs.Refusals.{Flaw, flaw}
use Rattle.der.specs.Reads.{Left, Got, Both, bind, start_of}
use Rattle.items.specs.Parts.{Piece}

-- Of a kind, M a s r b t says that reading one element in the state a, with s left to read, gives the result r and
-- leaves the state b and t to read. A run is one element or more up to the end, or up to the first fault; it leaves a
-- last state, and what is left to read then.
pub data Ran {S E : Type 0} (M : S → Left → Result E Fault → S → Left → Type 0) : S → Left → List E → Option Fault → S → Left → Type 0 where
  last : {a : S} {s : Left} {e : E} {b : S} {t : Left} → M a s (Ok e) b t → length t.rest ≡ 0 → Ran M a s (e ∷ []) None b t
  stopped : {a : S} {s : Left} {f : Fault} {b : S} {t : Left} → M a s (Err f) b t → Ran M a s [] (Some f) b t
  more : {a : S} {s : Left} {e : E} {b : S} {t : Left} {es : List E} {out : Option Fault} {z : S} {u : Left} → M a s (Ok e) b t → length t.rest + 2 ≤ length s.rest → 1 ≤ length t.rest → Ran M b t es out z u → Ran M a s (e ∷ es) out z u

-- lent memory with the elements written over its front, as many as it holds; the rest of it as it was
unfoldable pub laid : {E : Type 0} → List E → List E → List E
laid [] out = out
laid (e ∷ es) [] = []
laid (e ∷ es) (x ∷ out) = e ∷ laid es out

-- the memory with one element written at this place, if it has the place
abbrev pub kept : {E : Type 0} → List E → ℕ → E → List E
kept out at e = cond (nat_lt at (length out)) (slice_set out at e) out

-- what a walk tells: the elements of the run in order, how many or the first fault, what is left, and the memory with them
abbrev pub Walked : {S E : Type 0} (M : S → Left → Result E Fault → S → Left → Type 0) → S → Left → Result ℕ Fault → S → Left → List E → List E → Type 0
Walked {S} {E} M a s (Ok n) z u before after = (es : List E) × (n ≡ length es) × Ran M a s es None z u × (after ≡ laid es before)
Walked {S} {E} M a s (Err f) z u before after = (es : List E) × Ran M a s es (Some f) z u × (after ≡ laid es before)

-- so many elements lead from one point of a run to another: whatever is still to come completes the whole
abbrev pub Onward : {S E : Type 0} (M : S → Left → Result E Fault → S → Left → Type 0) → S → Left → ℕ → S → Left → List E → List E → Type 0
Onward {S} {E} M a s n b t before now = (done : List E) × (n ≡ length done) × ((es : List E) (out : Option Fault) (z : S) (u : Left) → Ran M b t es out z u → Ran M a s (done ++ es) out z u) × (now ≡ laid done before)

-- the same run where the kind is a function: its elements and the last state
abbrev pub consed : {V T : Type 0} → V → Result (Both (List V) T) Flaw → Result (Both (List V) T) Flaw
consed v (Ok p) = Ok (record { one = v ∷ p.one; two = p.two })
consed v (Err e) = Err e

unfoldable pub run_at : {V T : Type 0} → ℕ → (T → Left → Result (Got (Both V T)) Flaw) → T → Left → Result (Both (List V) T) Flaw
run_at zero m a s = Err (flaw 6 s.offset)
run_at (suc k) m a s = bind (m a s) (λ v t. cond (length t.rest == 0) (Ok (record { one = v.one ∷ []; two = v.two })) (consed v.one (run_at k m v.two t)))

-- a part that is a run; an element takes two octets or more, so the length bounds the number of elements
abbrev pub run_of : {V T : Type 0} → (T → Left → Result (Got (Both V T)) Flaw) → T → Piece → Result (Both (List V) T) Flaw
run_of m a p = run_at (suc (length p.octets)) m a (start_of p)
