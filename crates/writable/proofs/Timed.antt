-- The dates of entries as they are written. Assumes nothing.
use Rattle.std.proofs.Common.{◌≡◌, ℕ, ◌+◌, ◌<◌, ◌≤◌, ltb, List, [], ◌∷◌, length, drop, Some, None, Option, sym, refl, ap, ◌∙◌, subst, inl, inr, arith}
use Rattle.std.proofs.lemmas.Bool.{cases_lt, lt-ltb, le-ltb, cond-true, cond-false, cond_both}
use Rattle.calendar.specs.declared.times.Time.{Time}
use Rattle.calendar.specs.Moments.{time_of}
use Rattle.moment.specs.Forms.{utc_form, general_form, lay}
use Rattle.moment.specs.Texts.{digits_of, written, utc_text, general_text}
use Rattle.moment.proofs.Inverses.{utc-inverse, general-inverse}
use Rattle.crl.specs.Profile.{IsTime}
use Rattle.grammar.specs.Items.{Tagged}
use Rattle.encode.specs.Der.{der, length_octets}
use Rattle.encode.proofs.Ders.{length-der, items-written}
use Rattle.writable.specs.Entries.{time_by, time_octets}
use Rattle.writable.proofs.Built.{within}

utc-written : (o : Option Time) (xs : List ℕ) → written utc_form 2 o ≡ Some xs → length xs ≡ 13
unfolding lay
utc-written (Some t) xs e = let j : lay utc_form (drop 2 (digits_of t)) ≡ xs = cc in sym (ap length j)
utc-written None xs e = absurd (let z : ◌≡◌ {A = ℕ} 0 1 = cc in omega arith)

general-written : (o : Option Time) (xs : List ℕ) → written general_form 0 o ≡ Some xs → length xs ≡ 15
unfolding lay
general-written (Some t) xs e = let j : lay general_form (drop 0 (digits_of t)) ≡ xs = cc in sym (ap length j)
general-written None xs e = absurd (let z : ◌≡◌ {A = ℕ} 0 1 = cc in omega arith)

-- a UTCTime has thirteen octets
pub utc-length : (m : ℕ) (xs : List ℕ) → utc_text m ≡ Some xs → length xs ≡ 13
unfolding utc_text
utc-length m xs =
    cond_both (ltb m 3155760000) (written utc_form 2 (time_of m)) None (λ o. o ≡ Some xs → length xs ≡ 13)
    (λ h e. utc-written (time_of m) xs e)
    (λ h e. absurd (let z : ◌≡◌ {A = ℕ} 0 1 = cc in omega arith))

-- a GeneralizedTime has fifteen
pub general-length : (m : ℕ) (xs : List ℕ) → general_text m ≡ Some xs → length xs ≡ 15
unfolding general_text
general-length m xs e = general-written (time_of m) xs e

pub utc-octets : (m : ℕ) (xs : List ℕ) → utc_text m ≡ Some xs → time_octets m ≡ der 23 xs
unfolding time_octets
utc-octets m xs e = ap (λ o. time_by o (general_text m)) e

pub general-octets : (m : ℕ) (ys : List ℕ) → utc_text m ≡ None → general_text m ≡ Some ys → time_octets m ≡ der 24 ys
unfolding time_octets
general-octets m ys e f = ap (λ o. time_by o (general_text m)) e ∙ ap (λ o. time_by None o) f

pub no-octets : (m : ℕ) → utc_text m ≡ None → general_text m ≡ None → time_octets m ≡ der 24 []
unfolding time_octets
no-octets m e f = ap (λ o. time_by o (general_text m)) e ∙ ap (λ o. time_by None o) f

-- items of thirteen, fifteen and no octets
pub short-item : (t : ℕ) (xs : List ℕ) (n : ℕ) → length xs ≡ n → n < 128 → length (der t xs) ≡ n + 2
short-item t xs n e h = let l = length-der t xs in let k = small-head (length xs) (omega arith) in omega arith
  where
    small-head : (n : ℕ) → n < 128 → length (length_octets n) ≡ 1
    small-head n h = ap length (cond-true (ltb n 128) (n ∷ []) _ (lt-ltb n 128 h))

time-cases : (m : ℕ) (o p : Option (List ℕ)) → utc_text m ≡ o → general_text m ≡ p → length (time_octets m) ≤ 17
time-cases m (Some xs) p e f = let l = ap length (utc-octets m xs e) in let k = short-item 23 xs 13 (utc-length m xs e) (omega arith) in omega arith
time-cases m None (Some ys) e f = let l = ap length (general-octets m ys e f) in let k = short-item 24 ys 15 (general-length m ys f) (omega arith) in omega arith
time-cases m None None e f = let l = ap length (no-octets m e f) in let k = short-item 24 [] 0 refl (omega arith) in omega arith

-- a date takes at most seventeen octets
pub time-within : (m : ℕ) → length (time_octets m) ≤ 17
time-within m = time-cases m (utc_text m) (general_text m) refl refl

late-utc : (m : ℕ) → 3155760000 ≤ m → utc_text m ≡ None
unfolding utc_text
late-utc m h = cond-false (ltb m 3155760000) (written utc_form 2 (time_of m)) None (le-ltb m 3155760000 h)

-- a date that is a moment is written as that time
pub time-built : (p m : ℕ) → m ≤ 254033452799 → IsTime p (time_octets m) m
time-built p m h =
    elim (cases_lt m 3155760000) [
      | inl a ↦
          let r = utc-inverse.reads_back m (omega arith) in
          let l = utc-length m r.0 r.1 in
          inl (within p r.0, subst (λ w. Tagged 23 p w (within p r.0)) (sym (utc-octets m r.0 r.1)) (items-written 23 p r.0 refl refl (omega arith)), (a, r.1))
      | inr a ↦
          let r = general-inverse.reads_back m h in
          let l = general-length m r.0 r.1 in
          inr (within p r.0, subst (λ w. Tagged 24 p w (within p r.0)) (sym (general-octets m r.0 (late-utc m a) r.1)) (items-written 24 p r.0 refl refl (omega arith)), (a, h, r.1))
    ]
