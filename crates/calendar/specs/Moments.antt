-- Moments, the seconds since 1950-01-01 00:00:00 UTC, and the times that they are.
use Rattle.std.specs.Prelude.{ℕ, ◌+◌, ◌*◌, ◌/◌, ◌%◌, Bool, cond, ◌&&◌, Some, None, Option, nat_le}
use Rattle.calendar.specs.Dates.{is_date, day_in, date_on}
use Rattle.calendar.specs.declared.times.Time.{Time}

-- a moment is at most the last second of 9999
abbrev pub is_moment : ℕ → Bool
is_moment m = nat_le m 254033452799

-- a date that exists, and a time of day
abbrev pub is_time : Time → Bool
is_time t = is_date t.date && (nat_le t.hour 23 && (nat_le t.minute 59 && nat_le t.second 59))

-- the seconds from 1950-01-01 00:00:00 to a time
abbrev pub seconds_to : Time → ℕ
seconds_to t = day_in t.date * 86400 + (t.hour * 3600 + (t.minute * 60 + t.second))

-- the moment of a time that exists
unfoldable pub moment_of : Time → Option ℕ
moment_of t = cond (is_time t) (Some (seconds_to t)) None

-- the time m seconds after 1950-01-01 00:00:00
unfoldable pub time_at : ℕ → Time
time_at m = record { date = date_on (m / 86400); hour = m % 86400 / 3600; minute = m % 3600 / 60; second = m % 60 }

-- the time of a moment
unfoldable pub time_of : ℕ → Option Time
time_of m = cond (is_moment m) (Some (time_at m)) None
