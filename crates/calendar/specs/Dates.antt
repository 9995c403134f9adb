-- The Gregorian calendar from 1950 to 9999: days, counted from 1950-01-01, and their dates.
use Rattle.std.specs.Prelude.{ℕ, zero, suc, ◌+◌, ◌-◌, ◌%◌, Bool, cond, not, ◌&&◌, ◌||◌, Some, None, Option, ◌==◌, nat_le, nat_lt}
use Rattle.calendar.specs.Last.{last_within}
use Rattle.calendar.specs.declared.Date.{Date}

-- each fourth year, but of the hundredth years only each fourth
abbrev pub leap_year : ℕ → Bool
leap_year y = y % 4 == 0 && (not (y % 100 == 0) || y % 400 == 0)

-- how many days a year has
abbrev pub year_days : ℕ → ℕ
year_days y = cond (leap_year y) 366 365

-- how many days a month has: 0 where there is no such month
abbrev pub days_in : ℕ → ℕ → ℕ
days_in y m =
    cond (m == 2) (cond (leap_year y) 29 28)
    (cond (m == 4 || (m == 6 || (m == 9 || m == 11))) 30
    (cond (nat_le 1 m && nat_le m 12) 31 0))

-- a date whose year is in the calendar, and whose day its month has
abbrev pub is_date : Date → Bool
is_date d =
    (nat_le 1950 d.year && nat_le d.year 9999)
    && (nat_le 1 d.day && nat_le d.day (days_in d.year d.month))

-- the days of the first k years from 1950 on
unfoldable pub days_to : ℕ → ℕ
days_to zero = 0
days_to (suc k) = days_to k + year_days (1950 + k)

-- the days of the year before the month
unfoldable pub month_start : ℕ → ℕ → ℕ
month_start y zero = 0
month_start y (suc m) = month_start y m + days_in y m

-- the days from 1950-01-01 to a date
abbrev pub day_in : Date → ℕ
day_in d = days_to (d.year - 1950) + (month_start d.year d.month + (d.day - 1))

-- and only of a date that exists
abbrev pub day_of : Date → Option ℕ
day_of d = cond (is_date d) (Some (day_in d)) None

-- how many years from 1950 on have begun and ended by day x
abbrev pub years_by : ℕ → ℕ
years_by x = last_within days_to 8049 x

-- the last month of year y that begins by its day r
abbrev pub month_on : ℕ → ℕ → ℕ
month_on y r = last_within (month_start y) 12 r

-- the date of day r of year y
abbrev pub date_in : ℕ → ℕ → Date
date_in y r = record { year = y; month = month_on y r; day = r - month_start y (month_on y r) + 1 }

-- the date of day x
unfoldable pub date_on : ℕ → Date
date_on x = date_in (1950 + years_by x) (x - days_to (years_by x))

-- and only of a day up to the last of 9999
abbrev pub date_of : ℕ → Option Date
date_of x = cond (nat_lt x 2940202) (Some (date_on x)) None
