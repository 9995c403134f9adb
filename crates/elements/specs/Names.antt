-- Names as elements. Assumes nothing.
use Rattle.std.specs.Prelude.{Ok, Result}
use Rattle.elements.specs.declared.names.Name.{Name}
use Rattle.elements.specs.declared.walk.Plain.{Plain}
use Rattle.refusals.specs.Refusals.{Flaw}
use Rattle.der.specs.Reads.{Left, Got, Both, got, bind}
use Rattle.items.specs.Parts.{Piece, piece_of}
use Rattle.der.specs.Items.{name_at}

-- a name is the octets that it stands as
abbrev pub name_of : Name → Piece
name_of n = piece_of n.item

abbrev pub plain_of : Plain → Unit {0}
plain_of p = tt

-- a reading that knows no state, as a step of a run
abbrev pub plainly : {V : Type 0} → (Left → Result (Got V) Flaw) → Unit {0} → Left → Result (Got (Both V (Unit {0}))) Flaw
plainly m a s = bind (m s) (λ v t. Ok (got (record { one = v; two = tt }) t))

-- a name in a run of names
abbrev pub name_step : Unit {0} → Left → Result (Got (Both Piece (Unit {0}))) Flaw
name_step = plainly name_at
