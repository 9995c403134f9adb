-- The texts of moments: UTCTime, GeneralizedTime and RFC 3339.
use Rattle.std.specs.Prelude.{ℕ, ◌+◌, ◌*◌, ◌/◌, ◌%◌, cond, List, [], ◌∷◌, drop, Some, None, Option, nat_le, nat_lt}
use Rattle.calendar.specs.declared.times.Time.{Time}
use Rattle.calendar.specs.Moments.{moment_of, time_of}
use Rattle.moment.specs.Forms.{utc_form, general_form, rfc3339_form, fits, lay, tens, ones, pair_at}

-- the fourteen digits of a time, from the year to the second
abbrev pub digits_of : Time → List ℕ
digits_of t =
    tens (t.date.year / 100) ∷ ones (t.date.year / 100)
    ∷ tens (t.date.year % 100) ∷ ones (t.date.year % 100)
    ∷ tens t.date.month ∷ ones t.date.month
    ∷ tens t.date.day ∷ ones t.date.day
    ∷ tens t.hour ∷ ones t.hour
    ∷ tens t.minute ∷ ones t.minute
    ∷ tens t.second ∷ ones t.second ∷ []

-- a time laid into a form, without the first n of its digits
abbrev pub written : List ℕ → ℕ → Option Time → Option (List ℕ)
written form n (Some t) = Some (lay form (drop n (digits_of t)))
written form n None = None

-- the GeneralizedTime of a moment
unfoldable pub general_text : ℕ → Option (List ℕ)
general_text m = written general_form 0 (time_of m)

-- the RFC 3339 text of a moment
unfoldable pub rfc3339_text : ℕ → Option (List ℕ)
rfc3339_text m = written rfc3339_form 0 (time_of m)

-- the UTCTime of a moment before 2050: its year leaves out the century
unfoldable pub utc_text : ℕ → Option (List ℕ)
utc_text m = cond (nat_lt m 3155760000) (written utc_form 2 (time_of m)) None

-- the year that two digits mean, from 1950 to 2049; past two digits nothing is added
abbrev pub full_year : ℕ → ℕ
full_year yy = cond (nat_le yy 49) (2000 + yy) (cond (nat_le yy 99) (1900 + yy) yy)

-- the year that the first four digits spell
abbrev pub year_at : List ℕ → ℕ
year_at xs = pair_at xs 0 * 100 + pair_at xs 2

-- the time of a year, with the month from k on in the text and each later part `step` after the one before it
abbrev pub time_in : List ℕ → ℕ → ℕ → ℕ → Time
time_in xs year k step =
    record {
      date = record { year = year; month = pair_at xs k; day = pair_at xs (k + step) };
      hour = pair_at xs (k + 2 * step);
      minute = pair_at xs (k + 3 * step);
      second = pair_at xs (k + 4 * step);
    }

-- the time that the digits of a UTCTime spell
abbrev pub utc_time : List ℕ → Time
utc_time xs = time_in xs (full_year (pair_at xs 0)) 2 2

-- the time that the digits of a GeneralizedTime spell
abbrev pub general_time : List ℕ → Time
general_time xs = time_in xs (year_at xs) 4 2

-- the time that the digits of an RFC 3339 text spell
abbrev pub rfc3339_time : List ℕ → Time
rfc3339_time xs = time_in xs (year_at xs) 5 3

-- what a text of the form reads as, where that time is a moment
abbrev pub read_as : List ℕ → Time → List ℕ → Option ℕ
read_as form t xs = cond (fits form xs) (moment_of t) None

-- what a text reads as, as a UTCTime
unfoldable pub utc_read : List ℕ → Option ℕ
utc_read xs = read_as utc_form (utc_time xs) xs

-- as a GeneralizedTime
unfoldable pub general_read : List ℕ → Option ℕ
general_read xs = read_as general_form (general_time xs) xs

-- and as an RFC 3339 text
unfoldable pub rfc3339_read : List ℕ → Option ℕ
rfc3339_read xs = read_as rfc3339_form (rfc3339_time xs) xs
