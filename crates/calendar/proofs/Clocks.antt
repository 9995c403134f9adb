-- Moments and times are inverse.
use Rattle.std.proofs.Common.{◌≡◌, ℕ, ◌*◌, ◌/◌, ◌%◌, ◌≤◌, true, ◌&&◌, leb, Some, sym, ap, ◌∙◌, arith}
use Rattle.std.proofs.lemmas.Bool.{and_parts, and_from, leb-true, le-leb}
use Rattle.std.proofs.lemmas.Option.{cond_some}
use Rattle.calendar.specs.Dates.{is_date, day_in, date_on}
use Rattle.calendar.specs.Moments.{is_moment, is_time, seconds_to, moment_of, time_at, time_of}
use Rattle.calendar.specs.Law.{MomentsAndTimes}
use Rattle.calendar.specs.declared.times.Time.{Time}
use Rattle.calendar.proofs.Days.{Valid, valid-is-date, is-date-valid, date-valid, date-day, day-within, day-date}
use Rattle.calendar.proofs.Days.{answers}

-- a time that exists, bound by bound
pub record ValidTime (t : Time) : Type 0 where
  pub date : Valid t.date
  pub hour : t.hour ≤ 23
  pub minute : t.minute ≤ 59
  pub second : t.second ≤ 59

valid-is-time : (t : Time) → ValidTime t → is_time t ≡ true
valid-is-time t v =
    and_from _ _ (valid-is-date t.date v.date)
    (and_from _ _ (le-leb _ _ v.hour) (and_from _ _ (le-leb _ _ v.minute) (le-leb _ _ v.second)))

pub is-time-valid : (t : Time) → is_time t ≡ true → ValidTime t
is-time-valid t e =
    let a = and_parts (is_date t.date) (leb t.hour 23 && (leb t.minute 59 && leb t.second 59)) e in
    let h = and_parts (leb t.hour 23) (leb t.minute 59 && leb t.second 59) a.1 in
    let m = and_parts (leb t.minute 59) (leb t.second 59) h.1 in
    record {
      date = is-date-valid t.date a.0;
      hour = leb-true _ _ h.0;
      minute = leb-true _ _ m.0;
      second = leb-true _ _ m.1;
    }

-- each moment has a time
pub time-valid : (m : ℕ) → m ≤ 254033452799 → ValidTime (time_at m)
unfolding time_at
time-valid m h =
    record {
      date = date-valid (m / 86400) (omega arith);
      hour = omega arith;
      minute = omega arith;
      second = omega arith;
    }

-- and that time is that moment
time-moment : (m : ℕ) → m ≤ 254033452799 → seconds_to (time_at m) ≡ m
unfolding time_at
time-moment m h = let e = date-day (m / 86400) (omega arith) in omega (arith, ap (λ d. d * 86400) e)

pub moment-within : (t : Time) → ValidTime t → seconds_to t ≤ 254033452799
moment-within t v = let w = day-within t.date v.date in omega (arith, v.hour, v.minute, v.second)

-- no other time is that moment
moment-time : (t : Time) → ValidTime t → time_at (seconds_to t) ≡ t
unfolding time_at
moment-time t v =
    let m = seconds_to t in
    let a : m / 86400 ≡ day_in t.date = omega (arith, v.hour, v.minute, v.second) in
    let d : date_on (m / 86400) ≡ t.date = ap date_on a ∙ day-date t.date v.date in
    let h : m % 86400 / 3600 ≡ t.hour = omega (arith, v.hour, v.minute, v.second) in
    let i : m % 3600 / 60 ≡ t.minute = omega (arith, v.hour, v.minute, v.second) in
    let s : m % 60 ≡ t.second = omega (arith, v.hour, v.minute, v.second) in
    ap (λ x. let q : Time = record { date = x; hour = m % 86400 / 3600; minute = m % 3600 / 60; second = m % 60 } in q) d
    ∙ ap (λ x. let q : Time = record { date = t.date; hour = x; minute = m % 3600 / 60; second = m % 60 } in q) h
    ∙ ap (λ x. let q : Time = record { date = t.date; hour = t.hour; minute = x; second = m % 60 } in q) i
    ∙ ap (λ x. let q : Time = record { date = t.date; hour = t.hour; minute = t.minute; second = x } in q) s

pub moments-and-times : MomentsAndTimes
unfolding moment_of time_of
moments-and-times m t = (
  λ e.
      let a = cond_some (is_moment m) (time_at m) t e in
      let h : m ≤ 254033452799 = leb-true _ _ a.0 in
      answers (is_time t) (seconds_to t) m
      (ap is_time (sym a.1) ∙ valid-is-time (time_at m) (time-valid m h))
      (ap seconds_to (sym a.1) ∙ time-moment m h),
  λ e.
      let a = cond_some (is_time t) (seconds_to t) m e in
      let v = is-time-valid t a.0 in
      let w = moment-within t v in
      answers (is_moment m) (time_at m) t
      (le-leb _ _ (let l : m ≤ 254033452799 = omega (arith, a.1) in l))
      (ap time_at (sym a.1) ∙ moment-time t v),
)

-- a time that is a moment exists
pub moment-valid : (t : Time) (m : ℕ) → moment_of t ≡ Some m → ValidTime t × (seconds_to t ≡ m)
unfolding moment_of
moment-valid t m e = let a = cond_some (is_time t) (seconds_to t) m e in (is-time-valid t a.0, a.1)
