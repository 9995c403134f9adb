-- Where the digits of a text spell no day or no time of day, it is no moment.
use Rattle.std.proofs.Common.{◌≡◌, ℕ, ◌⊎◌, List, Some, None, refl, inl, inr, arith}
use Rattle.std.proofs.lemmas.Bool.{cases_Bool, cond-false, cond_both}
use Rattle.calendar.specs.declared.times.Time.{Time}
use Rattle.calendar.specs.Moments.{is_time, moment_of, seconds_to}
use Rattle.calendar.proofs.Clocks.{ValidTime, is-time-valid}
use Rattle.moment.specs.Forms.{utc_form, general_form, rfc3339_form, fits}
use Rattle.moment.specs.Texts.{read_as, utc_read, utc_time, general_read, general_time, rfc3339_read, rfc3339_time}
use Rattle.moment.specs.Law.{NoDay, NoHour, OnlyExistingTimes}

not_valid : (t : Time) → NoDay t.date ⊎ NoHour t → ValidTime t → ⊥
not_valid t (inl (inl h)) v = omega (arith, v.date.year-from)
not_valid t (inl (inr (inl h))) v = omega (arith, v.date.day-from)
not_valid t (inl (inr (inr h))) v = omega (arith, v.date.day-to)
not_valid t (inr (inl h)) v = omega (arith, v.hour)
not_valid t (inr (inr (inl h))) v = omega (arith, v.minute)
not_valid t (inr (inr (inr h))) v = omega (arith, v.second)

no-moment : (t : Time) → NoDay t.date ⊎ NoHour t → moment_of t ≡ None
unfolding moment_of
no-moment t n =
    elim (cases_Bool (is_time t)) [
      | inl e ↦ absurd (not_valid t n (is-time-valid t e))
      | inr e ↦ cond-false (is_time t) (Some (seconds_to t)) None e
    ]

not-read : (form : List ℕ) (t : Time) (xs : List ℕ) → NoDay t.date ⊎ NoHour t → read_as form t xs ≡ None
not-read form t xs n =
    cond_both (fits form xs) (moment_of t) None (λ o. o ≡ None) (λ e. no-moment t n) (λ e. refl)

pub utc-existing : OnlyExistingTimes utc_read utc_time
unfolding utc_read
utc-existing xs n = not-read utc_form (utc_time xs) xs n

pub general-existing : OnlyExistingTimes general_read general_time
unfolding general_read
general-existing xs n = not-read general_form (general_time xs) xs n

pub rfc3339-existing : OnlyExistingTimes rfc3339_read rfc3339_time
unfolding rfc3339_read
rfc3339-existing xs n = not-read rfc3339_form (rfc3339_time xs) xs n
