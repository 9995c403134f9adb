-- Grounds, inputs and refusals by their numbers. Assumes nothing.
use Rattle.std.specs.Prelude.{ℕ}
use Rattle.refusals.specs.declared.grounds.Ground.{Ground}
use Rattle.refusals.specs.declared.grounds.Ground.TheVariants.{Limit, Memory, TooLong, RollFull, Malformed, Unexpected, NotATime, UnknownIssuer, WrongReason, Critical, NotGenuine, Duplicate, TableFull, BadArgument, OutputShort, Span}
use Rattle.refusals.specs.declared.grounds.Input.{Input}
use Rattle.refusals.specs.declared.grounds.Input.TheVariants.{Neither, List, Roll}
use Rattle.refusals.specs.declared.grounds.Fault.{Fault}
use Rattle.refusals.specs.declared.grounds.Refusal.{Refusal}

-- the number of a ground
abbrev pub ground_number : Ground → ℕ
ground_number Limit = 1
ground_number Memory = 2
ground_number TooLong = 3
ground_number RollFull = 4
ground_number Malformed = 5
ground_number Unexpected = 6
ground_number NotATime = 7
ground_number UnknownIssuer = 8
ground_number WrongReason = 9
ground_number Critical = 10
ground_number NotGenuine = 11
ground_number Duplicate = 12
ground_number TableFull = 13
ground_number BadArgument = 14
ground_number OutputShort = 15
ground_number Span = 16

-- the number of an input: neither, the list, the roll or name
abbrev pub input_number : Input → ℕ
input_number Neither = 0
input_number List = 1
input_number Roll = 2

-- a fault by its number: why reading stops, and where
pub record Flaw : Type 0 where
  pub number : ℕ
  pub offset : ℕ

abbrev pub flaw : ℕ → ℕ → Flaw
flaw n p = record { number = n; offset = p }

-- the fault of this ground at an offset
abbrev pub fault_at : (ground : Ground) → ℕ → Fault
fault_at g p = record { ground = g; offset = p }

abbrev pub flaw_of : Fault → Flaw
flaw_of f = flaw (ground_number f.ground) f.offset

-- a refusal by its numbers
pub record Refused : Type 0 where
  pub number : ℕ
  pub input : ℕ
  pub offset : ℕ

abbrev pub refused : ℕ → ℕ → ℕ → Refused
refused n i p = record { number = n; input = i; offset = p }

abbrev pub refused_of : Refusal → Refused
refused_of r = refused (ground_number r.ground) (input_number r.input) r.offset

-- a fault as the refusal of a call that was given the octets as this input
abbrev pub refusal_in : Input → Fault → Refusal
refusal_in i f = record { ground = f.ground; input = i; offset = f.offset }
