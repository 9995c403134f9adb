-- Writing and reading are inverse.
use Rattle.std.proofs.Common.{◌≡◌, ℕ, suc, ◌-◌, ◌<◌, ◌≤◌, true, ltb, List, length, drop, Some, None, Option, sym, refl, ap, ◌∙◌, inl, inr, arith}
use Rattle.std.proofs.lemmas.Bool.{cases_lt, cases_Bool, cond-true, cond-false, lt-ltb, le-leb}
use Rattle.calendar.specs.declared.times.Time.{Time}
use Rattle.calendar.specs.Dates.{days_to}
use Rattle.calendar.specs.Moments.{is_moment, moment_of, time_at, time_of, seconds_to}
use Rattle.calendar.proofs.Lasts.{rises}
use Rattle.calendar.proofs.Years.{days_to-is, years-rise}
use Rattle.calendar.proofs.Days.{day-placed}
use Rattle.calendar.proofs.Clocks.{ValidTime, time-valid, moment-within, moment-valid, moments-and-times}
use Rattle.moment.specs.Forms.{utc_form, general_form, rfc3339_form, fits, lay}
use Rattle.moment.specs.Texts.{digits_of, written, read_as, utc_text, utc_read, utc_time, general_text, general_read}
use Rattle.moment.specs.Texts.{general_time, rfc3339_text, rfc3339_read, rfc3339_time}
use Rattle.moment.specs.Law.{UtcTimeInverse, GeneralizedTimeInverse, Rfc3339Inverse}
use Rattle.moment.proofs.Fitting.{slots, laid-fits}
use Rattle.moment.proofs.Spelling.{valid-short, time-digits, fewer_digits, general-spelled, rfc3339-spelled}
use Rattle.moment.proofs.Spelling.{utc-spelled, general-digits, rfc3339-digits, utc-digits, utc-year}

-- each moment has a time
moment-has-time : (m : ℕ) → m ≤ 254033452799 → time_of m ≡ Some (time_at m)
unfolding time_of
moment-has-time m h = cond-true (is_moment m) (Some (time_at m)) None (le-leb _ _ h)

-- what is written reads back, where its digits spell its time
reads-back-by : (form : List ℕ) (n : ℕ) (spelled : List ℕ → Time) (m : ℕ) → m ≤ 254033452799
    → slots form ≡ length (drop n (digits_of (time_at m)))
    → spelled (lay form (drop n (digits_of (time_at m)))) ≡ time_at m
    → read_as form (spelled (lay form (drop n (digits_of (time_at m))))) (lay form (drop n (digits_of (time_at m)))) ≡ Some m
reads-back-by form n spelled m h s e =
    let t = time_at m in
    let ds = drop n (digits_of t) in
    let d = fewer_digits n (digits_of t) (time-digits t (valid-short t (time-valid m h))) in
    cond-true (fits form (lay form ds)) (moment_of (spelled (lay form ds))) None (laid-fits form ds s d)
    ∙ ap moment_of e ∙ (moments-and-times m t).0 (moment-has-time m h)

-- what a reader found
read_found : (form : List ℕ) (t : Time) (xs : List ℕ) (m : ℕ) → read_as form t xs ≡ Some m
    → (fits form xs ≡ true) × (moment_of t ≡ Some m)
read_found form t xs m e =
    elim (cases_Bool (fits form xs)) [
      | inl f ↦ (f, sym (cond-true (fits form xs) (moment_of t) None f) ∙ e)
      | inr f ↦
          let n : None ≡ Some m = sym (cond-false (fits form xs) (moment_of t) None f) ∙ e in
          absurd (cc)
    ]

-- what reads as a moment is written for it, where the text has the digits of its time
writes-back-by : (form : List ℕ) (n : ℕ) (t : Time) (xs : List ℕ) (m : ℕ) → moment_of t ≡ Some m
    → lay form (drop n (digits_of t)) ≡ xs → (m ≤ 254033452799) × (written form n (time_of m) ≡ Some xs)
writes-back-by form n t xs m e d =
    let v = moment-valid t m e in
    let w = moment-within t v.0 in (
      omega (arith, v.1),
      ap (written form n) ((moments-and-times m t).1 e) ∙ ap (λ ys. let o : Option (List ℕ) = Some ys in o) d,
    )

pub general-inverse : GeneralizedTimeInverse
unfolding general_text general_read
general-inverse =
    record {
      reads_back = λ m h.
          let t = time_at m in (
            lay general_form (digits_of t),
            ap (written general_form 0) (moment-has-time m h),
            reads-back-by general_form 0 general_time m h refl (general-spelled t (valid-short t (time-valid m h))),
          );
      writes_back = λ xs m e.
          let r = read_found general_form (general_time xs) xs m e in
          writes-back-by general_form 0 (general_time xs) xs m r.1 (general-digits xs r.0);
    }

pub rfc3339-inverse : Rfc3339Inverse
unfolding rfc3339_text rfc3339_read
rfc3339-inverse =
    record {
      reads_back = λ m h.
          let t = time_at m in (
            lay rfc3339_form (digits_of t),
            ap (written rfc3339_form 0) (moment-has-time m h),
            reads-back-by rfc3339_form 0 rfc3339_time m h refl (rfc3339-spelled t (valid-short t (time-valid m h))),
          );
      writes_back = λ xs m e.
          let r = read_found rfc3339_form (rfc3339_time xs) xs m e in
          writes-back-by rfc3339_form 0 (rfc3339_time xs) xs m r.1 (rfc3339-digits xs r.0);
    }

hundred-years : days_to 100 ≡ 36525
hundred-years = let h = days_to-is 100 in omega arith

-- 2050 begins at its first second
before-2050 : (t : Time) → ValidTime t → seconds_to t < 3155760000 → t.date.year < 2050
before-2050 t v h =
    elim (cases_lt t.date.year 2050) [
      | inl a ↦ a
      | inr a ↦ absurd (
          let p = day-placed t.date v.date in
          let u = rises days_to years-rise 100 (t.date.year - 1950) (omega arith) in
          omega (arith, hundred-years))
    ]

up-to-2049 : (t : Time) → ValidTime t → t.date.year < 2050 → seconds_to t < 3155760000
up-to-2049 t v h =
    let p = day-placed t.date v.date in
    let u = rises days_to years-rise (suc (t.date.year - 1950)) 100 (omega (arith, v.date.year-from)) in
    omega (arith, hundred-years, v.hour, v.minute, v.second)

pub utc-inverse : UtcTimeInverse
unfolding utc_text utc_read
utc-inverse =
    record {
      reads_back = λ m h.
          let t = time_at m in
          let l : m ≤ 254033452799 = omega arith in
          let v = time-valid m l in
          let e = (moments-and-times m t).0 (moment-has-time m l) in
          let s = (moment-valid t m e).1 in
          let y = before-2050 t v (omega (arith, s)) in
          let u : m < 3155760000 = omega arith in (
            lay utc_form (drop 2 (digits_of t)),
            cond-true (ltb m 3155760000) (written utc_form 2 (time_of m)) None (lt-ltb _ _ u)
                ∙ ap (written utc_form 2) (moment-has-time m l),
            reads-back-by utc_form 2 utc_time m l refl (utc-spelled t (valid-short t v) v.date.year-from y),
          );
      writes_back = λ xs m e.
          let r = read_found utc_form (utc_time xs) xs m e in
          let w = writes-back-by utc_form 2 (utc_time xs) xs m r.1 (utc-digits xs r.0) in
          let v = moment-valid (utc_time xs) m r.1 in
          let s = up-to-2049 (utc_time xs) v.0 (utc-year xs r.0).2 in
          let u : m < 3155760000 = omega (arith, v.1) in
          (omega arith, cond-true (ltb m 3155760000) (written utc_form 2 (time_of m)) None (lt-ltb _ _ u) ∙ w.1);
    }
