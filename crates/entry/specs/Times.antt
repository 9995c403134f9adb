-- The times of a list. Assumes nothing.
use Rattle.std.specs.Prelude.{ℕ, cond, ◌||◌, List, Some, None, Ok, Err, Option, Result, ◌==◌, nat_le}
use Rattle.refusals.specs.Refusals.{Flaw, flaw}
use Rattle.der.specs.Reads.{Reads, got, bind, then}
use Rattle.der.specs.Items.{item_at}
use Rattle.moment.specs.Texts.{utc_read, general_read}

-- a moment from 2050 on
abbrev pub late : Option ℕ → Option ℕ
late None = None
late (Some m) = cond (nat_le 3155760000 m) (Some m) None

-- the moment that content under a time's tag says: 23 is UTCTime, 24 GeneralizedTime from 2050 on
abbrev pub time_by : ℕ → List ℕ → Option ℕ
time_by tag xs = cond (tag == 23) (utc_read xs) (late (general_read xs))

abbrev pub or_flaw : {V : Type 0} → Option V → Flaw → Result V Flaw
or_flaw (Some v) f = Ok v
or_flaw None f = Err f

-- that moment, or 7 at the time
abbrev pub timely : ℕ → List ℕ → ℕ → Result ℕ Flaw
timely tag xs p = or_flaw (time_by tag xs) (flaw 7 p)

-- an update or a date
unfoldable pub time_at : Reads ℕ
time_at s =
    bind (item_at s) (λ i t.
    cond (i.tag == 23 || i.tag == 24)
    (then (timely i.tag i.content.octets s.offset) (λ m. Ok (got m t)))
    (Err (flaw 6 s.offset)))
