-- What the calendar keeps to.
use Rattle.std.specs.Prelude.{◌≡◌, ℕ, Some}
use Rattle.calendar.specs.Dates.{day_of, date_of}
use Rattle.calendar.specs.Moments.{moment_of, time_of}
use Rattle.calendar.specs.declared.Date.{Date}
use Rattle.calendar.specs.declared.times.Time.{Time}

-- a date falls on a day exactly when the day has that date
abbrev pub DaysAndDates : Type 0
DaysAndDates = (x : ℕ) (d : Date) → (date_of x ≡ Some d → day_of d ≡ Some x) × (day_of d ≡ Some x → date_of x ≡ Some d)

-- a time is a moment exactly when the moment has that time
abbrev pub MomentsAndTimes : Type 0
MomentsAndTimes =
    (m : ℕ) (t : Time) → (time_of m ≡ Some t → moment_of t ≡ Some m) × (moment_of t ≡ Some m → time_of m ≡ Some t)
