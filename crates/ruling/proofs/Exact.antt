-- The laws of answers, from the answer drawn.
use Rattle.std.proofs.Common.{◌≡◌, ℕ, true, List, Some, Option, sym, refl, ap, ◌∙◌, subst, inl, inr, arith}
use Rattle.std.proofs.lemmas.Bool.{eqb-true, eq-eqb, both_ways}
use Rattle.ruling.specs.Cases.{Final, valid, revoked, Says, rules, Told, no_list, waiting, final, contradicted}
use Rattle.ruling.specs.Answers.{same, answered}
use Rattle.ruling.specs.Law.{AllSame, Drawn, ruling_at, date_of, Further}
use Rattle.ruling.specs.Law.{DrawnAndNoOther, ValidExactly, RevokedExactly, MoreListsLeadFurther, FinalsStay, FinalsDifferInKindOrDate}
use Rattle.ruling.proofs.Rulings.{no-rule, more-further, drawn-heard}
use Rattle.ruling.proofs.Unique.{drawn-one}

pub drawn-and-no-other : DrawnAndNoOther
drawn-and-no-other rs = (drawn-heard rs, λ t h. drawn-one (ruling_at rs) t (answered rs) h (drawn-heard rs))

pub more-lists-lead-further : MoreListsLeadFurther
more-lists-lead-further rs more = more-further rs more

pub finals-differ-in-kind-or-date : FinalsDifferInKindOrDate
finals-differ-in-kind-or-date valid valid = (λ _. refl, λ _. refl)
finals-differ-in-kind-or-date valid (revoked d r) = (λ e. cc, λ e. cc)
finals-differ-in-kind-or-date (revoked d r) valid = (λ e. cc, λ e. cc)
finals-differ-in-kind-or-date (revoked d r) (revoked e t) = (λ h. ap Some (eqb-true d e h), λ h. eq-eqb d e (cc))

same-date : (v w : Final) → same v w ≡ true → date_of v ≡ date_of w
same-date v w = (finals-differ-in-kind-or-date v w).0

-- of two finals, one further than the other is the same
final-further : (v w : Final) (n m : ℕ) → Further (final v n) (final w m) → (v ≡ w) × (n ≡ m)
final-further v w n m (inl e) = (cc, cc)
final-further v w n m (inr h) = absurd (omega arith)

pub finals-stay : FinalsStay
finals-stay rs more v w n m e g =
    final-further v w n m
    (subst (λ (t : Told). Further t (final w m)) e (subst (λ (t : Told). Further (answered rs) t) g (more-further rs more)))

-- Where some list rules v and all finals are the same as u, the answer is final, with a first final that is the same as u.
found-final : (f : ℕ → Says) (u v : Final) (i : ℕ) → f i ≡ rules v → AllSame f u → (t : Told) → Drawn f t →
    (w : Final) × (n : ℕ) × (t ≡ final w n) × (same u w ≡ true)
found-final f u v i e all no_list h = absurd (no-rule v (sym (h i) ∙ e))
found-final f u v i e all waiting h = absurd (h.0 i v e)
found-final f u v i e all (final w n) h = (w, n, refl, all n w h.0.0)
found-final f u v i e all (contradicted n m) h =
    let a = same-date u h.v (all n h.v h.first.0) in
    let b = same-date u h.w (all m h.w h.other) in
    absurd (both_ways (same h.v h.w) h.differ ((finals-differ-in-kind-or-date h.v h.w).1 (sym a ∙ b)))

module _ (rs : List Says) where
  drawn-final : (v : Final) (n : ℕ) → answered rs ≡ final v n → Drawn (ruling_at rs) (final v n)
  drawn-final v n e = subst (Drawn (ruling_at rs)) e (drawn-heard rs)

  as-valid : (w : Final) (n : ℕ) → answered rs ≡ final w n → same valid w ≡ true → (k : ℕ) × (answered rs ≡ final valid k)
  as-valid valid n e h = (n, e)
  as-valid (revoked d r) n e h = absurd (cc)

  as-revoked : (d : ℕ) (t : Option ℕ) (w : Final) (n : ℕ) → answered rs ≡ final w n → same (revoked d t) w ≡ true → (r : Option ℕ) × (k : ℕ) × (answered rs ≡ final (revoked d r) k)
  as-revoked d t valid n e h = absurd (cc)
  as-revoked d t (revoked d' r) n e h = let g = eqb-true d d' h in (r, n, cc)

pub valid-exactly : ValidExactly
valid-exactly rs = (
  λ x. let h = drawn-final rs valid x.0 x.1 in (x.0, h.0.0, h.1),
  λ x. let y = found-final (ruling_at rs) valid valid x.0 x.1 x.2 (answered rs) (drawn-heard rs) in as-valid rs y.0 y.1 y.2 y.3,
)

pub revoked-exactly : RevokedExactly
revoked-exactly rs d = (
  λ x. let h = drawn-final rs (revoked d x.0) x.1 x.2 in (x.0, x.1, h.0.0, h.1),
  λ x. let v = revoked d x.0 in
      let y = found-final (ruling_at rs) v v x.1 x.2 x.3 (answered rs) (drawn-heard rs) in
      as-revoked rs d x.0 y.0 y.1 y.2 y.3,
)
