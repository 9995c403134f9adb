-- The status table holds of what the function gives, and of nothing else.
use Rattle.std.proofs.Common.{◌≡◌, ℕ, ◌+◌, ◌<◌, ◌≤◌, true, cond, eqb, ltb, leb, ◌⊎◌, List, [], ◌∷◌, ◌++◌, length, Some, None, Option, sym, refl, ap, ◌∙◌, subst, inl, inr, ⊎_elim, append_assoc, arith}
use Rattle.std.proofs.lemmas.Slice.Eq.{bytes_eq-Decides}
use Rattle.std.proofs.lemmas.List.{append-nil, get_or_append_left, get_or_push, length_push}
use Rattle.std.proofs.lemmas.Bool.{cases_lt, cases_order, cond_both, both_ways, and_parts, and_from, leb-true, leb-false, le-leb, ltb-true, ltb-false, lt-ltb, eqb-true, eq-eqb}
use Rattle.std.specs.Str.{bytes_eq}
use Rattle.ruling.specs.declared.cases.Facts.{Facts}
use Rattle.ruling.specs.Cases.{Asked, Entry, Dated, Says, silent, waits, rules, valid, revoked}
use Rattle.ruling.specs.Rule.{keeps, covers_by, earlier_of, earliest_in, judged, ruled_by}
use Rattle.ruling.specs.Table.{Covers, entry_at, Unlisted, Earliest, Rules, Only}

abbrev Kept : Option ℕ → ℕ → ℕ → Type 0
Kept o u n = ((e : ℕ) × (o ≡ Some e) × (e ≤ n)) ⊎ ((o ≡ None) × (u ≤ n))

keeps-kept : (o : Option ℕ) (u n : ℕ) → keeps o u n ≡ true → Kept o u n
keeps-kept (Some e) u n h = inl (e, refl, leb-true e n h)
keeps-kept None u n h = inr (refl, leb-true u n h)

kept-keeps : (o : Option ℕ) (u n : ℕ) → Kept o u n → keeps o u n ≡ true
kept-keeps o u n (inl x) = subst (λ (p : Option ℕ). keeps p u n ≡ true) (sym x.1) (le-leb x.0 n x.2)
kept-keeps o u n (inr x) = subst (λ (p : Option ℕ). keeps p u n ≡ true) (sym x.0) (le-leb u n x.1)

covers-from-test : (f : Facts) (q : Asked) → covers_by f q.issuer q.moments ≡ true → Covers f q
covers-from-test f q h =
    let m = q.moments in
    let a = and_parts (eqb f.issuer q.issuer) _ h in
    let b = and_parts (ltb m.not_before f.this_update) _ a.1 in
    record {
      issuer = eqb-true f.issuer q.issuer a.0;
      begun = ltb-true m.not_before f.this_update b.0;
      kept = keeps-kept f.expired f.this_update m.not_after b.1;
    }

test-from-covers : (f : Facts) (q : Asked) → Covers f q → covers_by f q.issuer q.moments ≡ true
test-from-covers f q h =
    let m = q.moments in
    and_from _ _ (eq-eqb f.issuer q.issuer h.issuer)
    (and_from _ _ (lt-ltb m.not_before f.this_update h.begun) (kept-keeps f.expired f.this_update m.not_after h.kept))

-- what was found is what the table calls earliest
abbrev Least : List Entry → List ℕ → Option Dated → Type 0
Least es s None = Unlisted es s
Least es s (Some d) = Earliest es s d.date d.reason

-- what holds of each entry holds with one more
module _ (P : Entry → Type 0) (es : List Entry) (e : Entry) where
  each-push : ((k : ℕ) → k < length es → P (entry_at es k)) → P e → (k : ℕ) → k < length (es ++ e ∷ []) → P (entry_at (es ++ e ∷ []) k)
  each-push all here k h =
      ⊎_elim
      (λ lt. subst P (sym (get_or_append_left es (e ∷ []) _ k lt)) (all k lt))
      (λ le. let n = length_push es e in subst P (sym (get_or_push es e _ k (omega arith))) here) (cases_lt k (length es))

  each-front : (n : ℕ) → n ≤ length es → ((k : ℕ) → k < n → P (entry_at es k)) → (k : ℕ) → k < n → P (entry_at (es ++ e ∷ []) k)
  each-front n h all k lt = subst P (sym (get_or_append_left es (e ∷ []) _ k (omega arith))) (all k lt)

module _ (s : List ℕ) (es : List Entry) (e : Entry) where
  -- an entry of another serial, or one that is not earlier, changes nothing
  earliest-stays : (d : ℕ) (r : Option ℕ) → (e.serial ≡ s → d ≤ e.date) → Earliest es s d r → Earliest (es ++ e ∷ []) s d r
  earliest-stays d r here h =
      record {
        place = h.place;
        within = let n = length_push es e in let w = h.within in omega arith;
        entry = get_or_append_left es (e ∷ []) _ h.place h.within ∙ h.entry;
        least = each-push (λ x. x.serial ≡ s → d ≤ x.date) es e h.least here;
        front = each-front (λ x. x.serial ≡ s → d < x.date) es e h.place (let w = h.within in omega arith) h.front;
      }

  -- an entry of the serial before which all of the serial are later is the earliest
  earliest-here : e.serial ≡ s → ((k : ℕ) → k < length es → (entry_at es k).serial ≡ s → e.date < (entry_at es k).date) → Earliest (es ++ e ∷ []) s e.date e.reason
  earliest-here is later =
      let F : List ℕ → Entry = λ x. record { serial = x; date = e.date; reason = e.reason } in
      record {
        place = length es;
        within = let n = length_push es e in omega arith;
        entry = get_or_push es e _ (length es) refl ∙ ap F is;
        least = each-push (λ x. x.serial ≡ s → e.date ≤ x.date) es e (λ k lt p. let h = later k lt p in omega arith) (λ _. omega arith);
        front = each-front (λ x. x.serial ≡ s → e.date < x.date) es e (length es) (omega arith) later;
      }

  least-earlier : e.serial ≡ s → (found : Option Dated) → Least es s found → Least (es ++ e ∷ []) s (earlier_of found e)
  least-earlier is None h = earliest-here is (λ k lt p. absurd (h k lt p))
  least-earlier is (Some d) h =
      cond_both (leb d.date e.date) (Some d) (Some (record { date = e.date; reason = e.reason })) (Least (es ++ e ∷ []) s)
      (λ le. earliest-stays d.date d.reason (λ _. leb-true d.date e.date le) h)
      (λ gt. earliest-here is (λ k lt p. let a = h.least k lt p in let b = leb-false d.date e.date gt in omega arith))

  least_other : (e.serial ≡ s → ⊥) → (found : Option Dated) → Least es s found → Least (es ++ e ∷ []) s found
  least_other apart None h = each-push (λ x. x.serial ≡ s → ⊥) es e h apart
  least_other apart (Some d) h = earliest-stays d.date d.reason (λ p. absurd (apart p)) h

  least-push : (found : Option Dated) → Least es s found → Least (es ++ e ∷ []) s (cond (bytes_eq e.serial s) (earlier_of found e) found)
  least-push found h =
      cond_both (bytes_eq e.serial s) (earlier_of found e) found (Least (es ++ e ∷ []) s)
      (λ is. least-earlier ((bytes_eq-Decides e.serial s).0 is) found h)
      (λ not. least_other (λ p. both_ways (bytes_eq e.serial s) not ((bytes_eq-Decides e.serial s).1 p)) found h)

least_on : (s : List ℕ) (before es : List Entry) (found : Option Dated) → Least before s found → Least (before ++ es) s (earliest_in s es found)
unfolding earliest_in
least_on s before [] found h = subst (λ (xs : List Entry). Least xs s found) (sym (append-nil before)) h
least_on s before (e ∷ es) found h =
    let next = cond (bytes_eq e.serial s) (earlier_of found e) found in
    let F : List Entry → Type 0 = λ xs. Least xs s (earliest_in s es next) in
    subst F (append_assoc before (e ∷ []) es) (least_on s (before ++ e ∷ []) es next (least-push s before e found h))

earliest-least : (s : List ℕ) (es : List Entry) → Least es s (earliest_in s es None)
earliest-least s es = least_on s [] es None (λ k lt p. absurd (omega arith))

module _ (f : Facts) (es : List Entry) (q : Asked) (c : ℕ) where
  judged-rules : Covers f q → (o : Option Dated) → Least es q.serial o → Rules f es q c (judged o q.moments.control_time c f.this_update)
  judged-rules covers None h =
      cond_both (leb (q.moments.control_time + c) f.this_update) (rules valid) waits (Rules f es q c)
      (λ le. (covers, inr (h, leb-true _ _ le))) (λ gt. (covers, h, leb-false _ _ gt))
  judged-rules covers (Some d) h =
      cond_both (ltb q.moments.control_time d.date) (rules valid) (rules (revoked d.date d.reason)) (Rules f es q c)
      (λ lt. (covers, inl (d.date, d.reason, h, ltb-true _ _ lt))) (λ ge. (covers, h, ltb-false _ _ ge))

  rules-hold : Rules f es q c (ruled_by f es q c)
  rules-hold =
      cond_both (covers_by f q.issuer q.moments) (judged (earliest_in q.serial es None) q.moments.control_time c f.this_update) silent (Rules f es q c)
      (λ is. judged-rules (covers-from-test f q is) (earliest_in q.serial es None) (earliest-least q.serial es))
      (λ not covers. both_ways _ not (test-from-covers f q covers))

module _ (es : List Entry) (s : List ℕ) where
  listed : (d : ℕ) (r : Option ℕ) → Earliest es s d r → Unlisted es s → ⊥
  listed d r a none = none a.place a.within (ap (λ x. x.serial) a.entry)

  not-sooner : (d e : ℕ) (r t : Option ℕ) (a : Earliest es s d r) (b : Earliest es s e t) → a.place < b.place → ⊥
  not-sooner d e r t a b lt =
      let x = b.front a.place lt (ap (λ y. y.serial) a.entry) in
      let y = a.least b.place b.within (ap (λ y. y.serial) b.entry) in
      let p = ap (λ y. y.date) a.entry in
      let o = ap (λ y. y.date) b.entry in
      omega arith

  earliest-one : (d e : ℕ) (r t : Option ℕ) → Earliest es s d r → Earliest es s e t → (d ≡ e) × (r ≡ t)
  earliest-one d e r t a b =
      let p : a.place ≡ b.place = ⊎_elim (λ h. h) (⊎_elim (λ h. absurd (not-sooner d e r t a b h)) (λ h. absurd (not-sooner e d t r b a h))) (cases_order a.place b.place) in
      let z = sym a.entry ∙ ap (entry_at es) p ∙ b.entry in
      (ap (λ y. y.date) z, ap (λ y. y.reason) z)

module _ (f : Facts) (es : List Entry) (q : Asked) (c : ℕ) where
  valid-not-waits : Rules f es q c (rules valid) → Rules f es q c waits → ⊥
  valid-not-waits a b =
      ⊎_elim (λ x. listed es q.serial x.0 x.1 x.2 b.1) (λ x. let h = x.1 in let k = b.2 in absurd (omega arith)) a.1

  valid-not-revoked : (d : ℕ) (r : Option ℕ) → Rules f es q c (rules valid) → Rules f es q c (rules (revoked d r)) → ⊥
  valid-not-revoked d r a b =
      ⊎_elim
      (λ x. let e = (earliest-one es q.serial x.0 d x.1 r x.2 b.1).0 in let h = x.3 in let k = b.2 in absurd (omega arith))
      (λ x. listed es q.serial d r b.1 x.0) a.1

  rules-one : (v w : Says) → Rules f es q c v → Rules f es q c w → v ≡ w
  rules-one silent silent a b = refl
  rules-one silent waits a b = absurd (a b.0)
  rules-one silent (rules valid) a b = absurd (a b.0)
  rules-one silent (rules (revoked d r)) a b = absurd (a b.0)
  rules-one waits silent a b = absurd (b a.0)
  rules-one waits waits a b = refl
  rules-one waits (rules valid) a b = absurd (valid-not-waits b a)
  rules-one waits (rules (revoked d r)) a b = absurd (listed es q.serial d r b.1 a.1)
  rules-one (rules valid) silent a b = absurd (b a.0)
  rules-one (rules valid) waits a b = absurd (valid-not-waits a b)
  rules-one (rules valid) (rules valid) a b = refl
  rules-one (rules valid) (rules (revoked d r)) a b = absurd (valid-not-revoked d r a b)
  rules-one (rules (revoked d r)) silent a b = absurd (b a.0)
  rules-one (rules (revoked d r)) waits a b = absurd (listed es q.serial d r a.1 b.1)
  rules-one (rules (revoked d r)) (rules valid) a b = absurd (valid-not-revoked d r b a)
  rules-one (rules (revoked d r)) (rules (revoked e t)) a b =
      let x = earliest-one es q.serial d e r t a.1 b.1 in
      let y = x.0 in
      let z = x.1 in
      cc

  -- the ruling is the one that the table gives, and no other
  pub only-ruling : (v : Says) → v ≡ ruled_by f es q c → Only (Rules f es q c) v
  only-ruling v e =
      let h = subst (Rules f es q c) (sym e) (rules-hold f es q c) in
      (h, λ w k. rules-one w v k h)
