-- No two answers are drawn from the same rulings.
use Rattle.std.proofs.Common.{◌≡◌, ℕ, ◌<◌, sym, refl, ap, ◌∙◌, ⊎_elim}
use Rattle.std.proofs.lemmas.Bool.{cases_order, both_ways}
use Rattle.ruling.specs.Cases.{Final, Says, rules, Told, no_list, waiting, final, contradicted}
use Rattle.ruling.specs.Answers.{same}
use Rattle.ruling.specs.Law.{First, AllSame, Clash, Drawn}
use Rattle.ruling.proofs.Rulings.{no-rule, silent-wait}

module _ (f : ℕ → Says) where
  first_one : (n m : ℕ) (v w : Final) → First f n v → First f m w → n ≡ m
  first_one n m v w a b = ⊎_elim (λ e. e) (⊎_elim (λ h. absurd (b.1 n v h a.0)) (λ h. absurd (a.1 m w h b.0))) (cases_order n m)

  final-one : (n m : ℕ) (v w : Final) → First f n v → First f m w → v ≡ w
  final-one n m v w a b = let e : rules v ≡ rules w = sym a.0 ∙ ap f (first_one n m v w a b) ∙ b.0 in cc

  -- where all finals are the same, none clashes
  no-clash : (n m k : ℕ) (v : Final) → First f n v → AllSame f v → Clash f m k → ⊥
  no-clash n m k v a all b =
      let x = final-one n m v b.v a b.first in
      both_ways (same v b.w) (ap (λ y. same y b.w) x ∙ b.differ) (all k b.w b.other)

  -- the first final that differs is not before another such
  not-before : (n m j k : ℕ) (a : Clash f n j) (b : Clash f m k) → j < k → ⊥
  not-before n m j k a b h =
      let x = final-one n m a.v b.v a.first b.first in
      both_ways (same b.v a.w) (ap (λ y. same y a.w) (sym x) ∙ a.differ) (b.between j a.w h a.other)

  pub drawn-one : (s t : Told) → Drawn f s → Drawn f t → s ≡ t
  drawn-one no_list no_list a b = refl
  drawn-one no_list waiting a b = absurd (silent-wait (sym (a b.1.0) ∙ b.1.1))
  drawn-one no_list (final w m) a b = absurd (no-rule w (sym (a m) ∙ b.0.0))
  drawn-one no_list (contradicted m k) a b = absurd (no-rule b.w (sym (a k) ∙ b.other))
  drawn-one waiting no_list a b = absurd (silent-wait (sym (b a.1.0) ∙ a.1.1))
  drawn-one waiting waiting a b = refl
  drawn-one waiting (final w m) a b = absurd (a.0 m w b.0.0)
  drawn-one waiting (contradicted m k) a b = absurd (a.0 k b.w b.other)
  drawn-one (final v n) no_list a b = absurd (no-rule v (sym (b n) ∙ a.0.0))
  drawn-one (final v n) waiting a b = absurd (b.0 n v a.0.0)
  drawn-one (final v n) (final w m) a b =
      let e = first_one n m v w a.0 b.0 in
      let x = final-one n m v w a.0 b.0 in
      cc
  drawn-one (final v n) (contradicted m k) a b = absurd (no-clash n m k v a.0 a.1 b)
  drawn-one (contradicted n j) no_list a b = absurd (no-rule a.w (sym (b j) ∙ a.other))
  drawn-one (contradicted n j) waiting a b = absurd (b.0 j a.w a.other)
  drawn-one (contradicted n j) (final w m) a b = absurd (no-clash m n j w b.0 b.1 a)
  drawn-one (contradicted n j) (contradicted m k) a b =
      let e = first_one n m a.v b.v a.first b.first in
      let p : j ≡ k = ⊎_elim (λ h. h) (⊎_elim (λ h. absurd (not-before n m j k a b h)) (λ h. absurd (not-before m n k j b a h))) (cases_order j k) in
      cc
