-- Questions, entries, rulings and answers by their numbers and values. Assumes nothing.
use Rattle.std.specs.Prelude.{ℕ, List, take, Some, None, Option}
use Rattle.telling.specs.Reasons.{reason_number}
use Rattle.telling.specs.declared.reason.Reason.{Reason}
use Rattle.ruling.specs.declared.cases.Moments.{Moments}
use Rattle.ruling.specs.declared.cases.Question.{Question}
use Rattle.ruling.specs.declared.cases.EntryLine.{EntryLine}
use Rattle.ruling.specs.declared.cases.Mark.{Mark}
use Rattle.ruling.specs.declared.cases.Ruling.{Ruling}
use Rattle.ruling.specs.declared.cases.Ruling.TheVariants.{Silent, Waiting, Valid, Revoked}
use Rattle.ruling.specs.declared.answers.Answer.{Answer}
use Rattle.ruling.specs.declared.answers.Answer.TheVariants.{NoList, Waiting as AnswerWaiting, Valid as AnswerValid, Revoked as AnswerRevoked, Contradicted}

-- what is asked: the issuer's number, the serial's octets, and the moments
pub record Asked : Type 0 where
  pub issuer : ℕ
  pub serial : List ℕ
  pub moments : Moments

-- a question, with its serial as it stands
abbrev pub asked_of : Question → Asked
asked_of q = record { issuer = q.issuer; serial = q.serial.now; moments = q.moments }

-- the serial of an entry: the first octets of the line, as many as its size says, or all
abbrev pub serial_of : EntryLine → List ℕ
serial_of e = take e.size e.serial

-- the number of a reason, if there is one
abbrev pub reason_of : Option Reason → Option ℕ
reason_of (Some r) = Some (reason_number r)
reason_of None = None

-- an entry: the serial's octets, the date, and the reason's number
pub record Entry : Type 0 where
  pub serial : List ℕ
  pub date : ℕ
  pub reason : Option ℕ

-- the entry on a line
abbrev pub entry_of : EntryLine → Entry
entry_of e = record { serial = serial_of e; date = e.date; reason = reason_of e.reason }

-- a revocation: its date, and the reason's number
pub record Dated : Type 0 where
  pub date : ℕ
  pub reason : Option ℕ

-- the revocation that was marked
abbrev pub mark_of : Mark → Dated
mark_of m = record { date = m.date; reason = reason_of m.reason }

-- a revocation, if one was found
abbrev pub found_of : Option Mark → Option Dated
found_of (Some m) = Some (mark_of m)
found_of None = None

-- a final ruling: valid, or revoked with the date and the reason's number
pub data Final : Type 0 where
  valid : Final
  revoked : ℕ → Option ℕ → Final

-- what a list says: it does not rule, it waits, or it rules finally
pub data Says : Type 0 where
  silent : Says
  waits : Says
  rules : Final → Says

-- each ruling, as it is said
abbrev pub ruling_of : Ruling → Says
ruling_of Silent = silent
ruling_of Waiting = waits
ruling_of Valid = rules valid
ruling_of (Revoked d r) = rules (revoked d (reason_of r))

-- the number of a ruling
abbrev pub ruling_number : Says → ℕ
ruling_number silent = 0
ruling_number waits = 1
ruling_number (rules valid) = 2
ruling_number (rules (revoked d r)) = 3

-- what is told over all lists: a final ruling with its list's number, or the numbers of two lists that contradict each other
pub data Told : Type 0 where
  no_list : Told
  waiting : Told
  final : Final → ℕ → Told
  contradicted : ℕ → ℕ → Told

-- each answer, as it is told
abbrev pub answer_of : Answer → Told
answer_of NoList = no_list
answer_of AnswerWaiting = waiting
answer_of (AnswerValid n) = final valid n
answer_of (AnswerRevoked n d r) = final (revoked d (reason_of r)) n
answer_of (Contradicted n m) = contradicted n m

-- the number of an answer, in the order of the row; valid and revoked stand at one place of it
abbrev pub answer_number : Told → ℕ
answer_number no_list = 0
answer_number waiting = 1
answer_number (final valid n) = 2
answer_number (final (revoked d r) n) = 3
answer_number (contradicted n m) = 4

-- the row: how far along an answer is
abbrev pub row : Told → ℕ
row no_list = 0
row waiting = 1
row (final v n) = 2
row (contradicted n m) = 3
