-- How the years and the months of a year follow one another.
use Rattle.std.proofs.Common.{◌≡◌, ℕ, zero, suc, ◌+◌, ◌-◌, ◌*◌, ◌/◌, ◌<◌, ◌≤◌, cond, nat_lt, ◌&&◌, List, [], ◌∷◌, get_or, refl, ap, ◌∙◌, inl, inr, arith}
use Rattle.std.proofs.lemmas.Bool.{cases_lt}
use Rattle.std.proofs.lemmas.Bool.Decides.{nat_tests}
use Rattle.calendar.specs.Dates.{leap_year, year_days, days_to, days_in, month_start}
use Rattle.calendar.proofs.Lasts.{Rises, rises}

-- the days of the years up to p, by its leap years
abbrev pub through : ℕ → ℕ
through p = 365 * p + p / 4 - p / 100 + p / 400

through-next : (p : ℕ) → through (p + 1) ≡ through p + year_days (p + 1)
through-next p = grind (arith, nat_tests)

year-long : (y : ℕ) → year_days y ≤ 366
year-long y = grind (arith, nat_tests)

pub days_to-is : (k : ℕ) → days_to k + 711857 ≡ through (k + 1949)
unfolding days_to
days_to-is zero = refl
days_to-is (suc k) =
    let h = days_to-is k in
    let t = through-next (k + 1949) in
    let e : k + 1949 + 1 ≡ 1950 + k = omega arith in
    let f : k + 1949 + 1 ≡ suc k + 1949 = omega arith in
    let d : days_to k + year_days (1950 + k) + 711857 ≡ through (k + 1949 + 1) =
    omega (arith, h, t, ap year_days e) in
    d ∙ ap through f

pub years-rise : Rises days_to
unfolding days_to
years-rise k = omega arith

pub years-slow : (k : ℕ) → days_to k ≤ 366 * k
unfolding days_to
years-slow zero = omega arith
years-slow (suc k) = let h = years-slow k in let w = year-long (1950 + k) in omega arith

pub all-years : days_to 8050 ≡ 2940202
all-years = let h = days_to-is 8050 in omega arith

pub days_to-next : (k : ℕ) → days_to (suc k) ≡ days_to k + year_days (1950 + k)
unfolding days_to
days_to-next k = refl

pub days_to-none : days_to 0 ≡ 0
unfolding days_to
days_to-none = refl

pub months-rise : (y : ℕ) → Rises (month_start y)
unfolding month_start
months-rise y k = omega arith

pub month-next : (y m : ℕ) → month_start y (suc m) ≡ month_start y m + days_in y m
unfolding month_start
month-next y m = refl

pub all-months : (y : ℕ) → month_start y 13 ≡ year_days y
unfolding month_start
all-months y = grind (arith, nat_tests)

pub no-months : (y : ℕ) → (month_start y 0 ≡ 0) × (month_start y 1 ≡ 0)
unfolding month_start
no-months y = (refl, refl)

pub month-start-short : (y m : ℕ) → m ≤ 13 → month_start y m ≤ 366
month-start-short y m h =
    let u = rises (month_start y) (months-rise y) m 13 h in omega (arith, all-months y, year-long y)

-- a year that begins within the calendar is one of its years
pub year-within : (k x : ℕ) → days_to k ≤ x → x < 2940202 → k ≤ 8049
year-within k x l h =
    elim (cases_lt k 8050) [
      | inl j ↦ omega arith
      | inr j ↦ absurd (let u = rises days_to years-rise 8050 k j in omega (arith, all-years))
    ]

-- a month with a day is one of the twelve, and has at most 31
pub month-short : (y m : ℕ) → days_in y m ≤ 31
month-short y m = grind (arith, nat_tests)

pub month-is : (y m : ℕ) → 1 ≤ days_in y m → (1 ≤ m) × (m ≤ 12)
month-is y m h = (grind (arith, nat_tests), grind (arith, nat_tests))

-- the day of a month that holds day r of the year
pub day_of_month : (y m r : ℕ) → month_start y m ≤ r → r < month_start y (m + 1)
    → (r - month_start y m + 1 ≤ days_in y m) × (days_in y m ≤ 31)
day_of_month y m r l h =
    let i : m + 1 ≡ suc m = omega arith in
    let e = ap (month_start y) i in
    (omega (arith, month-next y m), month-short y m)

-- the days of a common year before each month
abbrev pub starts : List ℕ
starts = 0 ∷ 31 ∷ 59 ∷ 90 ∷ 120 ∷ 151 ∷ 181 ∷ 212 ∷ 243 ∷ 273 ∷ 304 ∷ 334 ∷ []

-- from March on a leap year is a day ahead of it
pub month-starts : (y m : ℕ) → 1 ≤ m → m ≤ 12 → month_start y m ≡ get_or starts (m - 1) 0 + cond (nat_lt 2 m && leap_year y) 1 0
unfolding month_start
month-starts y zero h k = absurd (omega arith)
month-starts y (suc zero) h k = grind (arith, nat_tests)
month-starts y (suc (suc zero)) h k = grind (arith, nat_tests)
month-starts y (suc (suc (suc zero))) h k = grind (arith, nat_tests)
month-starts y (suc (suc (suc (suc zero)))) h k = grind (arith, nat_tests)
month-starts y (suc (suc (suc (suc (suc zero))))) h k = grind (arith, nat_tests)
month-starts y (suc (suc (suc (suc (suc (suc zero)))))) h k = grind (arith, nat_tests)
month-starts y (suc (suc (suc (suc (suc (suc (suc zero))))))) h k = grind (arith, nat_tests)
month-starts y (suc (suc (suc (suc (suc (suc (suc (suc zero)))))))) h k = grind (arith, nat_tests)
month-starts y (suc (suc (suc (suc (suc (suc (suc (suc (suc zero))))))))) h k = grind (arith, nat_tests)
month-starts y (suc (suc (suc (suc (suc (suc (suc (suc (suc (suc zero)))))))))) h k = grind (arith, nat_tests)
month-starts y (suc (suc (suc (suc (suc (suc (suc (suc (suc (suc (suc zero))))))))))) h k = grind (arith, nat_tests)
month-starts y (suc (suc (suc (suc (suc (suc (suc (suc (suc (suc (suc (suc zero)))))))))))) h k = grind (arith, nat_tests)
month-starts y (suc (suc (suc (suc (suc (suc (suc (suc (suc (suc (suc (suc (suc m))))))))))))) h k = absurd (omega arith)
