-- The order of texts is the order of moments.
use Rattle.std.proofs.Common.{◌≡◌, ℕ, suc, ◌+◌, ◌-◌, ◌*◌, ◌/◌, ◌%◌, ◌<◌, ◌≤◌, Bool, false, ◌&&◌, ◌||◌, eqb, ltb, List, Some, None, Option, sym, refl, ap, ◌∙◌, subst, inl, inr, arith}
use Rattle.std.proofs.lemmas.Bool.{cases_order}
use Rattle.std.proofs.lemmas.Bool.Decides.{nat_tests}
use Rattle.calendar.specs.declared.Date.{Date}
use Rattle.calendar.specs.declared.times.Time.{Time}
use Rattle.calendar.specs.Dates.{days_to, month_start, day_in}
use Rattle.calendar.specs.Moments.{time_of, seconds_to}
use Rattle.calendar.proofs.Lasts.{Rises, rises}
use Rattle.calendar.proofs.Years.{years-rise, months-rise}
use Rattle.calendar.proofs.Days.{Valid, day-placed}
use Rattle.calendar.proofs.Clocks.{ValidTime, moment-valid, moments-and-times}
use Rattle.moment.specs.Forms.{general_form, rfc3339_form, lay, tens, ones, before}
use Rattle.moment.specs.Texts.{digits_of, written, general_text, rfc3339_text}
use Rattle.moment.specs.Law.{GeneralizedTimeOrdered, Rfc3339Ordered}
use Rattle.moment.proofs.Fitting.{slots, laid-order}
use Rattle.moment.proofs.Spelling.{Short, valid-short}

-- a before b, or what comes after them where they are equal
abbrev lex : ℕ → ℕ → Bool → Bool
lex a b r = ltb a b || (eqb a b && r)

pair-order : (a b : ℕ) (r : Bool) → a < 100 → b < 100 → lex (tens a) (tens b) (lex (ones a) (ones b) r) ≡ lex a b r
pair-order a b r h k = grind (arith, nat_tests)

year-order : (a b : ℕ) (r : Bool) → lex (a / 100) (b / 100) (lex (a % 100) (b % 100) r) ≡ lex a b r
year-order a b r = grind (arith, nat_tests)

-- of two numbers in steps that rise, the one in the earlier step is the lesser
step-order : (S : ℕ → ℕ) → Rises S → (a b x y : ℕ) (r : Bool)
    → S a + x < S (suc a) → S b + y < S (suc b) → lex a b (lex x y r) ≡ lex (S a + x) (S b + y) r
step-order S up a b x y r h k =
    elim (cases_order a b) [
      | inl e ↦ let s = ap S e in grind (arith, nat_tests)
      | inr (inl l) ↦ let s = rises S up (suc a) b l in grind (arith, nat_tests)
      | inr (inr l) ↦ let s = rises S up (suc b) a l in grind (arith, nat_tests)
    ]

less-order : (c a b : ℕ) (r : Bool) → c ≤ a → c ≤ b → lex a b r ≡ lex (a - c) (b - c) r
less-order c a b r h k = grind (arith, nat_tests)

-- what comes after two numbers counts where they are equal
lex-under : (a b : ℕ) (r s : Bool) → (a ≡ b → r ≡ s) → lex a b r ≡ lex a b s
lex-under a b r s h =
    elim (cases_order a b) [
      | inl e ↦ ap (lex a b) (h e)
      | inr (inl l) ↦ grind (arith, nat_tests)
      | inr (inr l) ↦ grind (arith, nat_tests)
    ]

abbrev since : Date → ℕ
since d = month_start d.year d.month + (d.day - 1)

month-order : (d e : Date) (r : Bool) → Valid d → Valid e → d.year ≡ e.year
    → lex d.month e.month (lex d.day e.day r) ≡ lex (since d) (since e) r
month-order d e r v w q =
    let S = month_start d.year in
    let y = e.day - 1 in
    let in-month : S e.month + y < S (suc e.month) =
    subst (λ z. month_start z e.month + y < month_start z (suc e.month)) (sym q) (day-placed e w).3 in
    ap (lex d.month e.month) (less-order 1 d.day e.day r v.day-from w.day-from)
    ∙ step-order S (months-rise d.year) d.month e.month (d.day - 1) y r (day-placed d v).3 in-month
    ∙ ap (λ z. lex (since d) (month_start z e.month + y) r) q

date-order : (d e : Date) (r : Bool) → Valid d → Valid e
    → lex d.year e.year (lex d.month e.month (lex d.day e.day r)) ≡ lex (day_in d) (day_in e) r
date-order d e r v w =
    lex-under d.year e.year _ _ (month-order d e r v w)
    ∙ less-order 1950 d.year e.year _ v.year-from w.year-from
    ∙ step-order days_to years-rise (d.year - 1950) (e.year - 1950) (since d) (since e) r
    (day-placed d v).1 (day-placed e w).1

clock-order : (t u : Time) → ValidTime t → ValidTime u
    → lex t.hour u.hour (lex t.minute u.minute (lex t.second u.second false))
    ≡ lex (t.hour * 3600 + (t.minute * 60 + t.second)) (u.hour * 3600 + (u.minute * 60 + u.second)) false
clock-order t u v w =
    ap (lex t.hour u.hour)
    (step-order (λ k. k * 60) (λ k. omega arith) t.minute u.minute t.second u.second false
    (omega (arith, v.second)) (omega (arith, w.second)))
    ∙ step-order (λ k. k * 3600) (λ k. omega arith) t.hour u.hour
    (t.minute * 60 + t.second) (u.minute * 60 + u.second) false
    (omega (arith, v.minute, v.second)) (omega (arith, w.minute, w.second))

only-order : (a b : ℕ) → lex a b false ≡ ltb a b
only-order a b = grind (arith, nat_tests)

digits-order : (t u : Time) → Short t → Short u
    → before (digits_of t) (digits_of u)
    ≡ lex t.date.year u.date.year
    (lex t.date.month u.date.month
    (lex t.date.day u.date.day
    (lex t.hour u.hour (lex t.minute u.minute (lex t.second u.second false)))))
digits-order t u s z =
    let f = lex (t.date.year / 100) (u.date.year / 100) in
    let g = lex (t.date.year % 100) (u.date.year % 100) in
    let mo = lex t.date.month u.date.month in
    let da = lex t.date.day u.date.day in
    let ho = lex t.hour u.hour in
    let mi = lex t.minute u.minute in
    pair-order (t.date.year / 100) (u.date.year / 100) _ s.century z.century
    ∙ ap f (pair-order (t.date.year % 100) (u.date.year % 100) _ s.year z.year
    ∙ ap g (pair-order t.date.month u.date.month _ s.month z.month
    ∙ ap mo (pair-order t.date.day u.date.day _ s.day z.day
    ∙ ap da (pair-order t.hour u.hour _ s.hour z.hour
    ∙ ap ho (pair-order t.minute u.minute _ s.minute z.minute
    ∙ ap mi (pair-order t.second u.second false s.second z.second))))))
    ∙ year-order t.date.year u.date.year _

time-order : (t u : Time) → ValidTime t → ValidTime u
    → before (digits_of t) (digits_of u) ≡ ltb (seconds_to t) (seconds_to u)
time-order t u v w =
    digits-order t u (valid-short t v) (valid-short u w)
    ∙ date-order t.date u.date _ v.date w.date
    ∙ ap (lex (day_in t.date) (day_in u.date)) (clock-order t u v w)
    ∙ step-order (λ k. k * 86400) (λ k. omega arith) (day_in t.date) (day_in u.date) _ _ false
    (omega (arith, v.hour, v.minute, v.second)) (omega (arith, w.hour, w.minute, w.second))
    ∙ only-order (seconds_to t) (seconds_to u)

-- what was written, of which time
written-time : (form : List ℕ) (o : Option Time) (xs : List ℕ) → written form 0 o ≡ Some xs
    → (t : Time) × (o ≡ Some t) × (lay form (digits_of t) ≡ xs)
written-time form None xs e = absurd (cc)
written-time form (Some t) xs e = (t, refl, cc)

written-order : (form : List ℕ) (m n : ℕ) (xs ys : List ℕ) → slots form ≡ 14
    → written form 0 (time_of m) ≡ Some xs → written form 0 (time_of n) ≡ Some ys → before xs ys ≡ ltb m n
written-order form m n xs ys s a b =
    let p = written-time form (time_of m) xs a in
    let q = written-time form (time_of n) ys b in
    let t = p.0 in
    let u = q.0 in
    let v = moment-valid t m ((moments-and-times m t).0 p.1) in
    let w = moment-valid u n ((moments-and-times n u).0 q.1) in
    ap (λ zs. before zs ys) (sym p.2) ∙ ap (before (lay form (digits_of t))) (sym q.2)
    ∙ laid-order form (digits_of t) (digits_of u) s s
    ∙ time-order t u v.0 w.0
    ∙ ap (λ k. ltb k (seconds_to u)) v.1 ∙ ap (ltb m) w.1

pub general-ordered : GeneralizedTimeOrdered
unfolding general_text
general-ordered m n xs ys a b = written-order general_form m n xs ys refl a b

pub rfc3339-ordered : Rfc3339Ordered
unfolding rfc3339_text
rfc3339-ordered m n xs ys a b = written-order rfc3339_form m n xs ys refl a b
