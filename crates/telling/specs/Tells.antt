-- What extensions tell. Assumes nothing.
use Rattle.std.specs.Prelude.{ℕ, Bool, false, is_some, Some, None, Option}
use Rattle.items.specs.Parts.{Piece, piece_of}
use Rattle.der.specs.Reads.{mapped}
use Rattle.telling.specs.declared.role.Role.{Role}
use Rattle.telling.specs.declared.role.Role.TheVariants.{Number, Expired, Reason, Other}
use Rattle.telling.specs.declared.told.Told.{Told}
use Rattle.telling.specs.Reasons.{reason_number}

-- the number's content, the moment of expiredCertsOnCRL, the reason's number: each if it was told
pub record Tells : Type 0 where
  pub number : Option Piece
  pub expired : Option ℕ
  pub reason : Option ℕ

abbrev pub silent : Tells
silent = record { number = None; expired = None; reason = None }

abbrev pub tells_of : Told → Tells
tells_of t = record { number = mapped piece_of t.number; expired = t.expired; reason = mapped reason_number t.reason }

-- an extension with this role was read before
abbrev pub stood_in : Tells → Role → Bool
stood_in a Number = is_some a.number
stood_in a Expired = is_some a.expired
stood_in a Reason = is_some a.reason
stood_in a Other = false

abbrev pub or_else : {V : Type 0} → Option V → Option V → Option V
or_else (Some x) o = Some x
or_else None o = o

-- what was told before and what is told now
abbrev pub merged : Tells → Tells → Tells
merged a b = record { number = or_else b.number a.number; expired = or_else b.expired a.expired; reason = or_else b.reason a.reason }
