-- Days and dates are inverse.
use Rattle.std.proofs.Common.{◌≡◌, ℕ, suc, ◌+◌, ◌-◌, ◌<◌, ◌≤◌, Bool, true, cond, ◌&&◌, ltb, leb, Some, None, sym, ap, ◌∙◌, inl, inr, arith}
use Rattle.std.proofs.lemmas.Bool.{cases_lt, and_parts, and_from, leb-true, le-leb, ltb-true, lt-ltb, cond-true}
use Rattle.std.proofs.lemmas.Option.{cond_some}
use Rattle.calendar.specs.Dates.{year_days, days_to, days_in, month_start, is_date, day_in, years_by, month_on, date_in}
use Rattle.calendar.specs.Dates.{date_on}
use Rattle.calendar.specs.Law.{DaysAndDates}
use Rattle.calendar.specs.declared.Date.{Date}
use Rattle.calendar.proofs.Lasts.{rises, last-le, last-begun, last-open, last-is}
use Rattle.calendar.proofs.Years.{years-rise, months-rise, all-years, all-months, no-months, days_to-next, days_to-none}
use Rattle.calendar.proofs.Years.{month-next, month-is}

-- a date of the calendar, bound by bound
pub record Valid (d : Date) : Type 0 where
  pub year-from : 1950 ≤ d.year
  pub year-to : d.year ≤ 9999
  pub month-from : 1 ≤ d.month
  pub month-to : d.month ≤ 12
  pub day-from : 1 ≤ d.day
  pub day-to : d.day ≤ days_in d.year d.month

pub valid-is-date : (d : Date) → Valid d → is_date d ≡ true
valid-is-date d v =
    and_from _ _ (and_from _ _ (le-leb _ _ v.year-from) (le-leb _ _ v.year-to))
    (and_from _ _ (le-leb _ _ v.day-from) (le-leb _ _ v.day-to))

pub is-date-valid : (d : Date) → is_date d ≡ true → Valid d
is-date-valid d e =
    let n = days_in d.year d.month in
    let a = and_parts (leb 1950 d.year && leb d.year 9999) (leb 1 d.day && leb d.day n) e in
    let y = and_parts (leb 1950 d.year) (leb d.year 9999) a.0 in
    let x = and_parts (leb 1 d.day) (leb d.day n) a.1 in
    let from : 1 ≤ d.day = leb-true _ _ x.0 in
    let to : d.day ≤ n = leb-true _ _ x.1 in
    let m = month-is d.year d.month (omega arith) in
    record {
      year-from = leb-true _ _ y.0;
      year-to = leb-true _ _ y.1;
      month-from = m.0;
      month-to = m.1;
      day-from = from;
      day-to = to;
    }

year-found : (x : ℕ) → x < 2940202 → (days_to (years_by x) ≤ x) × (x < days_to (suc (years_by x))) × (years_by x ≤ 8049)
year-found x h = (
  last-begun days_to 8049 x (omega (arith, days_to-none)),
  last-open days_to 8049 x (let e = all-years in omega arith),
  last-le days_to 8049 x,
)

month-found : (y r : ℕ) → r < year_days y
    → (month_start y (month_on y r) ≤ r) × (r < month_start y (month_on y r) + days_in y (month_on y r))
    × (month_on y r ≤ 12) × (1 ≤ month_on y r)
month-found y r h =
    let z = no-months y in
    let m = month_on y r in
    let b = last-begun (month_start y) 12 r (omega (arith, z)) in
    let o = last-open (month_start y) 12 r (let e = all-months y in omega arith) in
    let one : 1 ≤ m = elim (cases_lt 0 m) [
      | inl k ↦ k
      | inr k ↦ absurd (let u = rises (month_start y) (months-rise y) (suc m) 1 (omega arith) in omega (arith, z))
    ] in
    (b, omega (arith, month-next y m), last-le (month_start y) 12 r, one)

-- each day has a date
pub date-valid : (x : ℕ) → x < 2940202 → Valid (date_on x)
unfolding date_on
date-valid x h =
    let k = years_by x in
    let f = year-found x h in
    let n = days_to-next k in
    let m = month-found (1950 + k) (x - days_to k) (omega arith) in
    record {
      year-from = omega arith;
      year-to = omega arith;
      month-from = m.3;
      month-to = m.2;
      day-from = omega arith;
      day-to = omega arith;
    }

-- and that date is on that day
pub date-day : (x : ℕ) → x < 2940202 → day_in (date_on x) ≡ x
unfolding date_on
date-day x h =
    let k = years_by x in
    let f = year-found x h in
    let n = days_to-next k in
    let m = month-found (1950 + k) (x - days_to k) (omega arith) in
    let e : 1950 + k - 1950 ≡ k = omega arith in
    omega (arith, ap days_to e)

-- the day of a date lies in its year and its month
pub day-placed : (d : Date) → Valid d
    → (days_to (d.year - 1950) ≤ day_in d) × (day_in d < days_to (suc (d.year - 1950)))
    × (day_in d - days_to (d.year - 1950) ≡ month_start d.year d.month + (d.day - 1))
    × (month_start d.year d.month + (d.day - 1) < month_start d.year (suc d.month))
    × (month_start d.year d.month + (d.day - 1) < year_days d.year)
day-placed d v =
    let y = d.year in
    let m = d.month in
    let a = month-next y m in
    let b = rises (month_start y) (months-rise y) (suc m) 13 (omega (arith, v.month-to)) in
    let c = all-months y in
    let n = days_to-next (y - 1950) in
    let e : 1950 + (y - 1950) ≡ y = omega (arith, v.year-from) in
    let g = ap year_days e in (
      omega arith,
      omega (arith, v.day-to, v.day-from),
      omega arith,
      omega (arith, v.day-to, v.day-from),
      omega (arith, v.day-to, v.day-from),
    )

pub day-within : (d : Date) → Valid d → day_in d < 2940202
day-within d v =
    let p = day-placed d v in
    let u = rises days_to years-rise (suc (d.year - 1950)) 8050 (omega (arith, v.year-to)) in
    omega (arith, all-years)

-- no other date is on that day
pub day-date : (d : Date) → Valid d → date_on (day_in d) ≡ d
unfolding date_on
day-date d v =
    let x = day_in d in
    let y = d.year in
    let p = day-placed d v in
    let w = day-within d v in
    let k : y - 1950 ≡ years_by x =
    last-is days_to years-rise 8049 (y - 1950) x
    (omega (arith, days_to-none)) (let e = all-years in omega arith) p.0 p.1 in
    let ye : 1950 + years_by x ≡ y = omega (arith, v.year-from) in
    let r = month_start y d.month + (d.day - 1) in
    let re : x - days_to (years_by x) ≡ r = ap (λ j. x - days_to j) (sym k) ∙ p.2 in
    let m : d.month ≡ month_on y r =
    last-is (month_start y) (months-rise y) 12 d.month r
    (omega (arith, no-months y)) (let e = all-months y in omega (arith, p.4)) (omega arith) p.3 in
    let de : r - month_start y d.month + 1 ≡ d.day = omega (arith, v.day-from) in
    ap (λ z. date_in z (x - days_to (years_by x))) ye ∙ ap (date_in y) re
    ∙ ap (λ j. let q : Date = record { year = y; month = j; day = r - month_start y j + 1 } in q) (sym m)
    ∙ ap (λ j. let q : Date = record { year = y; month = d.month; day = j } in q) de

-- an answer that a test guards, where the test passes
pub answers : {A : Type 0} (b : Bool) (y z : A) → b ≡ true → y ≡ z → cond b (Some y) None ≡ Some z
answers b y z t e = cond-true b (Some y) None t ∙ ap Some e

pub days-and-dates : DaysAndDates
days-and-dates x d = (
  λ e.
      let a = cond_some (ltb x 2940202) (date_on x) d e in
      let h : x < 2940202 = ltb-true _ _ a.0 in
      answers (is_date d) (day_in d) x
      (ap is_date (sym a.1) ∙ valid-is-date (date_on x) (date-valid x h))
      (ap day_in (sym a.1) ∙ date-day x h),
  λ e.
      let a = cond_some (is_date d) (day_in d) x e in
      let v = is-date-valid d a.0 in
      let w = day-within d v in
      answers (ltb x 2940202) (date_on x) d
      (lt-ltb _ _ (let l : x < 2940202 = omega (arith, a.1) in l))
      (ap date_on (sym a.1) ∙ day-date d v),
)
