-- What texts and moments keep to.
use Rattle.std.specs.Prelude.{◌≡◌, ℕ, ◌<◌, ◌≤◌, ◌⊎◌, List, Some, None, Option, nat_lt}
use Rattle.calendar.specs.declared.Date.{Date}
use Rattle.calendar.specs.declared.times.Time.{Time}
use Rattle.calendar.specs.Dates.{days_in}
use Rattle.moment.specs.Forms.{before}
use Rattle.moment.specs.Texts.{utc_text, utc_read, general_text, general_read, rfc3339_text, rfc3339_read}

-- Writing and reading are inverse on the moments up to `last`: each is written, and the text reads as it;
-- what reads as a moment is the text that is written for it, and the moment is one of those.
pub record Inverse (text : ℕ → Option (List ℕ)) (read : List ℕ → Option ℕ) (last : ℕ) : Type 0 where
  pub reads_back : (m : ℕ) → m ≤ last → (xs : List ℕ) × (text m ≡ Some xs) × (read xs ≡ Some m)
  pub writes_back : (xs : List ℕ) (m : ℕ) → read xs ≡ Some m → (m ≤ last) × (text m ≡ Some xs)

-- UTCTime, up to the last second of 2049
abbrev pub UtcTimeInverse : Type 0
UtcTimeInverse = Inverse utc_text utc_read 3155759999

-- GeneralizedTime, up to the last second of 9999
abbrev pub GeneralizedTimeInverse : Type 0
GeneralizedTimeInverse = Inverse general_text general_read 254033452799

-- RFC 3339, up to the last second of 9999
abbrev pub Rfc3339Inverse : Type 0
Rfc3339Inverse = Inverse rfc3339_text rfc3339_read 254033452799

-- the order of the texts is the order of the moments
abbrev pub Ordered : (ℕ → Option (List ℕ)) → Type 0
Ordered text =
    (m n : ℕ) (xs ys : List ℕ) → text m ≡ Some xs → text n ≡ Some ys → before xs ys ≡ nat_lt m n

-- of GeneralizedTimes
abbrev pub GeneralizedTimeOrdered : Type 0
GeneralizedTimeOrdered = Ordered general_text

-- and of RFC 3339 texts
abbrev pub Rfc3339Ordered : Type 0
Rfc3339Ordered = Ordered rfc3339_text

-- a year before 1950, a day that its month does not have, or a month that no year has
abbrev pub NoDay : Date → Type 0
NoDay d = (d.year < 1950) ⊎ ((d.day < 1) ⊎ (days_in d.year d.month < d.day))

-- an hour, a minute or a second that no day has
abbrev pub NoHour : Time → Type 0
NoHour t = (23 < t.hour) ⊎ ((59 < t.minute) ⊎ (59 < t.second))

-- where the digits of a text spell no day or no time of day, it is no moment
abbrev pub OnlyExistingTimes : (List ℕ → Option ℕ) → (List ℕ → Time) → Type 0
OnlyExistingTimes read spelled = (xs : List ℕ) → NoDay (spelled xs).date ⊎ NoHour (spelled xs) → read xs ≡ None
