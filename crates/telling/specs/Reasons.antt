-- Reasons by their numbers. Assumes nothing.
use Rattle.std.specs.Prelude.{ℕ, Bool, cond, ◌&&◌, ◌||◌, List, length, Some, None, Option, ◌==◌, nat_le, slice_index}
use Rattle.telling.specs.declared.reason.Reason.{Reason}
use Rattle.telling.specs.declared.reason.Reason.TheVariants.{KeyCompromise, CaCompromise, AffiliationChanged, Superseded, CessationOfOperation, PrivilegeWithdrawn, AaCompromise}

-- the number of a reason
abbrev pub reason_number : Reason → ℕ
reason_number KeyCompromise = 1
reason_number CaCompromise = 2
reason_number AffiliationChanged = 3
reason_number Superseded = 4
reason_number CessationOfOperation = 5
reason_number PrivilegeWithdrawn = 9
reason_number AaCompromise = 10

-- the numbers that are admitted: 1 to 5, 9 and 10
abbrev pub admitted : ℕ → Bool
admitted n = (nat_le 1 n && nat_le n 5) || (n == 9 || n == 10)

abbrev pub reason_from : ℕ → Option ℕ
reason_from n = cond (admitted n) (Some n) None

-- the reason in the content of an ENUMERATED: one octet that is admitted
abbrev pub reason_in : List ℕ → Option ℕ
reason_in xs = cond (length xs == 1) (reason_from (slice_index xs 0)) None
