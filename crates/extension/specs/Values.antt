-- The value of an extension that is read. Assumes nothing.
use Rattle.std.specs.Prelude.{ℕ, Bool, cond, ◌&&◌, List, length, Some, None, Ok, Err, Result, nat_le, nat_lt, slice_index}
use Rattle.refusals.specs.Refusals.{Flaw, flaw}
use Rattle.der.specs.Reads.{Reads, got, bind, or_fault}
use Rattle.items.specs.Parts.{Piece}
use Rattle.der.specs.Items.{expect_at, all_of}
use Rattle.moment.specs.Texts.{general_read}
use Rattle.telling.specs.declared.role.Role.{Role}
use Rattle.telling.specs.declared.role.Role.TheVariants.{Number, Expired, Reason, Other}
use Rattle.telling.specs.Reasons.{reason_in}
use Rattle.telling.specs.Tells.{Tells, silent}

-- an INTEGER with this content is 0 or more
abbrev pub from_zero : List ℕ → Bool
from_zero xs = nat_lt 0 (length xs) && nat_lt (slice_index xs 0) 128

-- the content of a list's number: from 0, at most 20 octets
abbrev pub number_is : List ℕ → Bool
number_is xs = nat_le (length xs) 20 && from_zero xs

-- a list's number
unfoldable pub number_at : Reads Piece
number_at s = bind (expect_at 2 s) (λ c t. cond (number_is c.octets) (Ok (got c t)) (Err (flaw 6 s.offset)))

-- expiredCertsOnCRL: a GeneralizedTime
unfoldable pub expired_at : Reads ℕ
expired_at s = bind (expect_at 24 s) (λ c t. or_fault (general_read c.octets) (flaw 7 s.offset) t)

-- a reason: an ENUMERATED
unfoldable pub reason_at : Reads ℕ
reason_at s = bind (expect_at 10 s) (λ c t. or_fault (reason_in c.octets) (flaw 9 s.offset) t)

-- one value told
abbrev pub value_at : Role → Reads Tells
value_at Number s = bind (number_at s) (λ n t. Ok (got (record { number = Some n; expired = None; reason = None }) t))
value_at Expired s = bind (expired_at s) (λ m t. Ok (got (record { number = None; expired = Some m; reason = None }) t))
value_at Reason s = bind (reason_at s) (λ r t. Ok (got (record { number = None; expired = None; reason = Some r }) t))
value_at Other s = Ok (got silent s)

-- what an extension with this role and content tells: its content holds that item alone; any other is not opened
abbrev pub value_by : Role → Piece → Result Tells Flaw
value_by Number c = all_of (value_at Number) c
value_by Expired c = all_of (value_at Expired) c
value_by Reason c = all_of (value_at Reason) c
value_by Other c = Ok silent
