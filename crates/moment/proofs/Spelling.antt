-- Times and their digits.
use Rattle.std.proofs.Common.{◌≡◌, ℕ, zero, suc, ◌+◌, ◌*◌, ◌/◌, ◌%◌, ◌<◌, ◌≤◌, Bool, true, ◌&&◌, leb, List, [], ◌∷◌, get_or, drop, sym, refl, ap, ◌∙◌, arith}
use Rattle.std.proofs.lemmas.Bool.{and_parts, and_from, leb-true}
use Rattle.std.proofs.lemmas.Bool.Decides.{nat_tests}
use Rattle.std.proofs.lemmas.List.FromFn.{fill_by_all}
use Rattle.calendar.specs.declared.times.Time.{Time}
use Rattle.calendar.proofs.Years.{month-short}
use Rattle.calendar.proofs.Clocks.{ValidTime}
use Rattle.moment.specs.Forms.{utc_form, general_form, rfc3339_form, digit, fits, lay, tens, ones, pair, pair_at}
use Rattle.moment.specs.Forms.{TwoDigits}
use Rattle.moment.specs.Texts.{digits_of, full_year, year_at, time_in, utc_time, general_time, rfc3339_time}
use Rattle.moment.proofs.Fitting.{fits-length, bare, laid-bare, all_digits}
use Rattle.moment.proofs.Reading.{two_at}

pair-two : (n : ℕ) → n < 100 → pair (tens n) (ones n) ≡ n
pair-two n h = omega arith

two-pair : (a b : ℕ) → digit a ≡ true → digit b ≡ true
    → (tens (pair a b) ≡ a) × (ones (pair a b) ≡ b) × (pair a b < 100)
two-pair a b p q =
    let x = and_parts (leb 48 a) (leb a 57) p in
    let y = and_parts (leb 48 b) (leb b 57) q in
    let a1 = leb-true 48 a x.0 in
    let a2 = leb-true a 57 x.1 in
    let b1 = leb-true 48 b y.0 in
    let b2 = leb-true b 57 y.1 in
    (omega arith, omega arith, omega arith)

two_digits : (n : ℕ) (rest : Bool) → n < 100 → rest ≡ true → (digit (tens n) && (digit (ones n) && rest)) ≡ true
two_digits n rest h e =
    let a : digit (tens n) ≡ true = grind (arith, nat_tests) in
    let b : digit (ones n) ≡ true = grind (arith, nat_tests) in
    and_from _ _ a (and_from _ _ b e)

-- each part of a time has two digits
pub record Short (t : Time) : Type 0 where
  pub century : t.date.year / 100 < 100
  pub year : t.date.year % 100 < 100
  pub month : t.date.month < 100
  pub day : t.date.day < 100
  pub hour : t.hour < 100
  pub minute : t.minute < 100
  pub second : t.second < 100

pub valid-short : (t : Time) → ValidTime t → Short t
valid-short t v =
    let w = month-short t.date.year t.date.month in
    record {
      century = omega (arith, v.date.year-to);
      year = omega arith;
      month = omega (arith, v.date.month-to);
      day = omega (arith, v.date.day-to);
      hour = omega (arith, v.hour);
      minute = omega (arith, v.minute);
      second = omega (arith, v.second);
    }

pub time-digits : (t : Time) → Short t → all_digits (digits_of t) ≡ true
time-digits t s =
    two_digits (t.date.year / 100) _ s.century
    (two_digits (t.date.year % 100) _ s.year
    (two_digits t.date.month _ s.month
    (two_digits t.date.day _ s.day
    (two_digits t.hour _ s.hour
    (two_digits t.minute _ s.minute (two_digits t.second _ s.second refl))))))

pub fewer_digits : (n : ℕ) (ds : List ℕ) → all_digits ds ≡ true → all_digits (drop n ds) ≡ true
fewer_digits zero ds e = e
fewer_digits (suc n) [] e = e
fewer_digits (suc n) (d ∷ ds) e = fewer_digits n ds (and_parts (digit d) (all_digits ds) e).1

abbrev time6 : ℕ → ℕ → ℕ → ℕ → ℕ → ℕ → Time
time6 y mo d h i s = record { date = record { year = y; month = mo; day = d }; hour = h; minute = i; second = s }

same6 : {y mo d h i s y' mo' d' h' i' s' : ℕ} → y ≡ y' → mo ≡ mo' → d ≡ d' → h ≡ h' → i ≡ i' → s ≡ s'
    → time6 y mo d h i s ≡ time6 y' mo' d' h' i' s'
same6 {y} {mo} {d} {h} {i} {s} {y'} {mo'} {d'} {h'} {i'} {s'} a b c e f g =
    ap (λ x. time6 x mo d h i s) a ∙ ap (λ x. time6 y' x d h i s) b ∙ ap (λ x. time6 y' mo' x h i s) c
    ∙ ap (λ x. time6 y' mo' d' x i s) e ∙ ap (λ x. time6 y' mo' d' h' x s) f ∙ ap (λ x. time6 y' mo' d' h' i' x) g

-- the digits of a time spell it
respelled : (t : Time) (y : ℕ) → Short t → y ≡ t.date.year
    → time6 y (pair (tens t.date.month) (ones t.date.month)) (pair (tens t.date.day) (ones t.date.day))
    (pair (tens t.hour) (ones t.hour)) (pair (tens t.minute) (ones t.minute))
    (pair (tens t.second) (ones t.second))
    ≡ t
respelled t y s e =
    same6 e (pair-two _ s.month) (pair-two _ s.day)
    (pair-two _ s.hour) (pair-two _ s.minute) (pair-two _ s.second)

four-respelled : (y : ℕ) → y / 100 < 100
    → pair (tens (y / 100)) (ones (y / 100)) * 100 + pair (tens (y % 100)) (ones (y % 100)) ≡ y
four-respelled y h =
    let a = pair-two (y / 100) h in
    let b = pair-two (y % 100) (omega arith) in
    omega arith

pub general-spelled : (t : Time) → Short t → general_time (lay general_form (digits_of t)) ≡ t
unfolding lay
general-spelled t s = respelled t _ s (four-respelled t.date.year s.century)

pub rfc3339-spelled : (t : Time) → Short t → rfc3339_time (lay rfc3339_form (digits_of t)) ≡ t
unfolding lay
rfc3339-spelled t s = respelled t _ s (four-respelled t.date.year s.century)

full-year-back : (y : ℕ) → 1950 ≤ y → y < 2050 → full_year (y % 100) ≡ y
full-year-back y a b = grind (arith, nat_tests)

pub utc-spelled : (t : Time) → Short t → 1950 ≤ t.date.year → t.date.year < 2050
    → utc_time (lay utc_form (drop 2 (digits_of t))) ≡ t
unfolding lay
utc-spelled t s a b =
    respelled t _ s (ap full_year (pair-two (t.date.year % 100) s.year) ∙ full-year-back t.date.year a b)

same-cons : {x y : ℕ} {xs ys : List ℕ} → x ≡ y → xs ≡ ys → x ∷ xs ≡ y ∷ ys
same-cons e f = cc

-- two digits in a text are those of the number that they spell
pair-digits : (xs : List ℕ) (k n : ℕ) (ys zs : List ℕ) → TwoDigits xs k → pair_at xs k ≡ n → ys ≡ zs
    → get_or xs k 0 ∷ get_or xs (k + 1) 0 ∷ ys ≡ tens n ∷ ones n ∷ zs
pair-digits xs k n ys zs d e f =
    let p = two-pair (get_or xs k 0) (get_or xs (k + 1) 0) d.0 d.1 in
    same-cons (sym p.0 ∙ ap tens e) (same-cons (sym p.1 ∙ ap ones e) f)

-- from the month on
rest-digits : (xs : List ℕ) (y k step : ℕ) → TwoDigits xs k → TwoDigits xs (k + step) → TwoDigits xs (k + 2 * step)
    → TwoDigits xs (k + 3 * step) → TwoDigits xs (k + 4 * step)
    → get_or xs k 0 ∷ get_or xs (k + 1) 0
    ∷ get_or xs (k + step) 0 ∷ get_or xs (k + step + 1) 0
    ∷ get_or xs (k + 2 * step) 0 ∷ get_or xs (k + 2 * step + 1) 0
    ∷ get_or xs (k + 3 * step) 0 ∷ get_or xs (k + 3 * step + 1) 0
    ∷ get_or xs (k + 4 * step) 0 ∷ get_or xs (k + 4 * step + 1) 0 ∷ []
    ≡ drop 4 (digits_of (time_in xs y k step))
rest-digits xs y k step a b c d e =
    pair-digits xs k _ _ _ a refl
    (pair-digits xs (k + step) _ _ _ b refl
    (pair-digits xs (k + 2 * step) _ _ _ c refl
    (pair-digits xs (k + 3 * step) _ _ _ d refl (pair-digits xs (k + 4 * step) _ _ _ e refl refl))))

-- the four digits of a year
year-digits : (xs : List ℕ) (ys zs : List ℕ) → TwoDigits xs 0 → TwoDigits xs 2 → ys ≡ zs
    → get_or xs 0 0 ∷ get_or xs 1 0 ∷ get_or xs 2 0 ∷ get_or xs 3 0 ∷ ys
    ≡ tens (year_at xs / 100) ∷ ones (year_at xs / 100) ∷ tens (year_at xs % 100) ∷ ones (year_at xs % 100) ∷ zs
year-digits xs ys zs a b e =
    let p = two-pair (get_or xs 2 0) (get_or xs 3 0) b.0 b.1 in
    let c : pair_at xs 0 ≡ year_at xs / 100 = omega (arith, p.2) in
    let d : pair_at xs 2 ≡ year_at xs % 100 = omega (arith, p.2) in
    pair-digits xs 0 _ _ _ a c (pair-digits xs 2 _ _ _ b d e)

pub general-digits : (xs : List ℕ) → fits general_form xs ≡ true → lay general_form (digits_of (general_time xs)) ≡ xs
general-digits xs f =
    let two = two_at general_form xs (sym f) in
    let all = fill_by_all (λ k. get_or xs k 0) xs 15 0 (fits-length general_form xs f) (λ k h. refl) in
    let e : bare general_form xs ≡ digits_of (general_time xs) =
    ap (bare general_form) all
    ∙ year-digits xs _ _ (two 0 refl refl) (two 2 refl refl)
    (rest-digits xs (year_at xs) 4 2 (two 4 refl refl) (two 6 refl refl)
    (two 8 refl refl) (two 10 refl refl) (two 12 refl refl)) in
    ap (lay general_form) (sym e) ∙ laid-bare general_form xs f

pub rfc3339-digits : (xs : List ℕ) → fits rfc3339_form xs ≡ true → lay rfc3339_form (digits_of (rfc3339_time xs)) ≡ xs
rfc3339-digits xs f =
    let two = two_at rfc3339_form xs (sym f) in
    let all = fill_by_all (λ k. get_or xs k 0) xs 20 0 (fits-length rfc3339_form xs f) (λ k h. refl) in
    let e : bare rfc3339_form xs ≡ digits_of (rfc3339_time xs) =
    ap (bare rfc3339_form) all
    ∙ year-digits xs _ _ (two 0 refl refl) (two 2 refl refl)
    (rest-digits xs (year_at xs) 5 3 (two 5 refl refl) (two 8 refl refl)
    (two 11 refl refl) (two 14 refl refl) (two 17 refl refl)) in
    ap (lay rfc3339_form) (sym e) ∙ laid-bare rfc3339_form xs f

full-year-there : (yy : ℕ) → yy < 100 → (yy ≡ full_year yy % 100) × (1950 ≤ full_year yy) × (full_year yy < 2050)
full-year-there yy h = (grind (arith, nat_tests), grind (arith, nat_tests), grind (arith, nat_tests))

pub utc-year : (xs : List ℕ) → fits utc_form xs ≡ true
    → (pair_at xs 0 ≡ (utc_time xs).date.year % 100) × (1950 ≤ (utc_time xs).date.year) × ((utc_time xs).date.year < 2050)
utc-year xs f =
    let d = two_at utc_form xs (sym f) 0 refl refl in
    full-year-there (pair_at xs 0) (two-pair (get_or xs 0 0) (get_or xs 1 0) d.0 d.1).2

pub utc-digits : (xs : List ℕ) → fits utc_form xs ≡ true → lay utc_form (drop 2 (digits_of (utc_time xs))) ≡ xs
utc-digits xs f =
    let two = two_at utc_form xs (sym f) in
    let all = fill_by_all (λ k. get_or xs k 0) xs 13 0 (fits-length utc_form xs f) (λ k h. refl) in
    let e : bare utc_form xs ≡ drop 2 (digits_of (utc_time xs)) =
    ap (bare utc_form) all
    ∙ pair-digits xs 0 _ _ _ (two 0 refl refl) (utc-year xs f).0
    (rest-digits xs (full_year (pair_at xs 0)) 2 2 (two 2 refl refl) (two 4 refl refl)
    (two 6 refl refl) (two 8 refl refl) (two 10 refl refl)) in
    ap (lay utc_form) (sym e) ∙ laid-bare utc_form xs f
