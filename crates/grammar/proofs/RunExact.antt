-- Runs are read exactly where they stand. Assumes nothing.
use Rattle.std.proofs.Common.{◌≡◌, ℕ, zero, suc, ◌+◌, ◌≤◌, false, eqb, List, [], ◌∷◌, ◌++◌, length, Ok, Err, Result, sym, refl, ap, ◌∙◌, subst, append-nil, arith, length-append}
use Rattle.std.proofs.lemmas.Bool.{eqb-true, ne_eqb, cond-false, cond_both}
use Rattle.refusals.specs.Refusals.{Flaw}
use Rattle.der.specs.Reads.{Left, Got, Both, bind, then, got, start_of}
use Rattle.items.specs.Parts.{Piece}
use Rattle.der.specs.Items.{expect_at}
use Rattle.elements.specs.Names.{plainly}
use Rattle.elements.specs.Runs.{run_at, run_of, consed}
use Rattle.grammar.specs.Items.{Parsed}
use Rattle.grammar.specs.Grammar.{Elements, Folds, SequenceOf, ExactIf, Always}
use Rattle.grammar.proofs.Reading.{bind_ok, then_ok, ok-is, nothing}
use Rattle.grammar.proofs.Combine.{in-tag}

consed-ok : {V T : Type 0} (v : V) (r : Result (Both (List V) T) Flaw) (x : Both (List V) T) → consed v r ≡ Ok x → (y : Both (List V) T) × (r ≡ Ok y) × (x ≡ record { one = v ∷ y.one; two = y.two })
consed-ok v (Ok y) x e = (y, refl, sym (ok-is _ _ e))
consed-ok v (Err f) x e = absurd (let z : ◌≡◌ {A = ℕ} 0 1 = cc in omega arith)

-- one more in front of a run
front : {V : Type 0} (R : ℕ → List ℕ → V → Type 0) (p q : ℕ) (u w r : List ℕ) (v : V) (vs : List V) → u ≡ w ++ r → R p w v → q ≡ p + length w → Elements R q r vs → Elements R p u (v ∷ vs)
front R p q u w r v [] e h eq k = absurd k
front R p q u w r v (x ∷ vs) e h eq k = (w, (r, e, h, subst (λ n. Elements R n r (x ∷ vs)) eq k))

-- Reading one element in the state a leads to the state b as A says.
module _ {V T : Type 0} (m : T → Left → Result (Got (Both V T)) Flaw) (R : ℕ → List ℕ → V → Type 0) (A : T → V → T → Type 0)
    (exact : (a : T) → ExactIf Always (m a) (λ p w x. R p w x.one × A a x.one x.two))
    (long : (p : ℕ) (w : List ℕ) (v : V) → R p w v → 1 ≤ length w) where
  run_sound : (k : ℕ) (a : T) (s : Left) (x : Both (List V) T) → run_at k m a s ≡ Ok x → Elements R s.offset s.rest x.one × Folds A a x.one x.two
  unfolding run_at
  run_sound zero a s x e = absurd (let z : ◌≡◌ {A = ℕ} 0 1 = cc in omega arith)
  run_sound (suc k) a s x e =
      let q = bind_ok (m a s) _ x e in
      let g = q.0 in
      let h = (exact a).sound s g q.1 in
      cond_both (eqb (length g.left.rest) 0) (Ok (record { one = g.value.one ∷ []; two = g.value.two })) (consed g.value.one (run_at k m g.value.two g.left))
      (λ y. y ≡ Ok x → Elements R s.offset s.rest x.one × Folds A a x.one x.two)
      (λ n d.
      let l : s.rest ≡ h.front = h.rest ∙ (ap (λ r. h.front ++ r) (nothing g.left.rest (eqb-true _ 0 n)) ∙ append-nil h.front) in
      subst (λ y. Elements R s.offset s.rest y.one × Folds A a y.one y.two) (ok-is _ _ d)
      (subst (λ w. R s.offset w g.value.one) (sym l) h.shape.0, (g.value.two, h.shape.1, refl)))
      (λ n d.
      let c = consed-ok g.value.one (run_at k m g.value.two g.left) x d in
      let i = run_sound k g.value.two g.left c.0 c.1 in
      subst (λ y. Elements R s.offset s.rest y.one × Folds A a y.one y.two) (sym c.2)
      (front R s.offset g.left.offset s.rest h.front g.left.rest g.value.one c.0.one h.rest h.shape.0 h.offset i.0, (g.value.two, h.shape.1, i.1)))
      q.2

  some-octets : (p : ℕ) (u : List ℕ) (vs : List V) → Elements R p u vs → 1 ≤ length u
  some-octets p u [] h = absurd h
  some-octets p u (v ∷ []) h = long p u v h
  some-octets p u (v ∷ (x ∷ vs)) h =
      let l = simp length-append at (ap length h.1.1) in
      let j = long p h.0 v h.1.2 in omega arith

  run-full : (k : ℕ) (a : T) (p : ℕ) (u : List ℕ) (vs : List V) (z : T) → length u ≤ k → Elements R p u vs → Folds A a vs z → run_at (suc k) m a (record { rest = u; offset = p }) ≡ Ok (record { one = vs; two = z })
  unfolding run_at
  run-full k a p u [] z le h f = absurd h
  run-full k a p u (v ∷ []) z le h f =
      let s : Left = record { rest = u; offset = p } in
      let d : A a v z = subst (λ b. A a v b) f.2 f.1 in
      let e : m a s ≡ Ok (got (record { one = v; two = z }) (record { rest = []; offset = p + length u })) = (exact a).full s _ tt (record { front = u; rest = sym (append-nil u); offset = refl; shape = (h, d) }) in
      rw e refl
  run-full zero a p u (v ∷ (x ∷ vs)) z le h f = let j = some-octets p u (v ∷ (x ∷ vs)) h in absurd (omega arith)
  run-full (suc k) a p u (v ∷ (x ∷ vs)) z le h f =
      let w = h.0 in
      let r = h.1.0 in
      let b = f.0 in
      let s : Left = record { rest = u; offset = p } in
      let l : length u ≡ length w + length r = simp length-append at (ap length h.1.1) in
      let j = long p w v h.1.2 in
      let i = some-octets (p + length w) r (x ∷ vs) h.1.3 in
      let e : m a s ≡ Ok (got (record { one = v; two = b }) (record { rest = r; offset = p + length w })) = (exact a).full s _ tt (record { front = w; rest = h.1.1; offset = refl; shape = (h.1.2, f.1) }) in
      let t = run-full k b (p + length w) r (x ∷ vs) z (omega arith) h.1.3 f.2 in
      let n : eqb (length r) 0 ≡ false = ne_eqb (length r) 0 (λ q. omega arith) in
      rw e (cond-false (eqb (length r) 0) _ _ n ∙ ap (consed v) t)

  pub run_in : (c : Piece) (a : T) (x : Both (List V) T) → run_of m a c ≡ Ok x → Elements R c.offset c.octets x.one × Folds A a x.one x.two
  run_in c a x e = run_sound (suc (length c.octets)) a (start_of c) x e

  pub run_out : (c : Piece) (a : T) (x : Both (List V) T) → Elements R c.offset c.octets x.one → Folds A a x.one x.two → run_of m a c ≡ Ok x
  run_out c a x h f = run-full (length c.octets) a c.offset c.octets x.one x.two (omega arith) h f

-- with no state there is nothing to fold
no-state : {V : Type 0} (es : List V) → Folds {V = V} {T = Unit {0}} (λ a e b. Unit {0}) tt es tt
no-state [] = refl
no-state (e ∷ es) = (tt, tt, no-state es)

module _ {V : Type 0} (m : Left → Result (Got V) Flaw) (R : ℕ → List ℕ → V → Type 0) (a : ExactIf Always m R) (long : (p : ℕ) (w : List ℕ) (v : V) → R p w v → 1 ≤ length w) where
  abbrev Free : Unit {0} → V → Unit {0} → Type 0
  Free z e b = Unit {0}

  plain_step : (z : Unit {0}) → ExactIf Always (plainly m z) (λ p w x. R p w x.one × Free z x.one x.two)
  plain_step z = record {
    sound = λ s g e. let q = bind_ok (m s) _ g e in let k = a.sound s q.0 q.1 in
        subst (λ v. Parsed (λ p w (x : Both V (Unit {0})). R p w x.one × Free z x.one x.two) s v) (ok-is _ _ q.2) (record { front = k.front; rest = k.rest; offset = k.offset; shape = (k.shape, tt) });
    full = λ s g last k. let e : m s ≡ Ok (got g.value.one g.left) = a.full s _ tt (record { front = k.front; rest = k.rest; offset = k.offset; shape = k.shape.0 }) in rw e refl;
  }

  -- a run of elements that know no state
  pub plain_in : (c : Piece) (x : Both (List V) (Unit {0})) → run_of (plainly m) tt c ≡ Ok x → Elements R c.offset c.octets x.one
  plain_in c x e = (run_in (plainly m) R Free plain_step long c tt x e).0

  pub plain_out : (c : Piece) (es : List V) → Elements R c.offset c.octets es → run_of (plainly m) tt c ≡ Ok (record { one = es; two = tt })
  plain_out c es h = run_out (plainly m) R Free plain_step long c tt (record { one = es; two = tt }) h (no-state es)

-- SEQUENCE OF one or more
pub sequence-of : {V W : Type 0} (m : Left → Result (Got V) Flaw) (R : ℕ → List ℕ → V → Type 0) (f : Piece → List V → W)
    → ExactIf Always m R → ((p : ℕ) (w : List ℕ) (v : V) → R p w v → 1 ≤ length w)
    → ExactIf Always (λ s. bind (expect_at 48 s) (λ c u. then (run_of (plainly m) tt c) (λ x. Ok (got (f c x.one) u)))) (SequenceOf R f)
sequence-of {V} {W} m R f a long =
    in-tag {t = 48} {G = λ s c u. then (run_of (plainly m) tt c) (λ x. Ok (got (f c x.one) u))} {Q = λ c w. (es : List V) × Elements R c.offset c.octets es × (w ≡ f c es)}
    (λ s c u g e.
    let q = then_ok (run_of (plainly m) tt c) _ g e in
    let j = ok-is _ _ q.2 in
    ((q.0.one, plain_in m R a long c q.0 q.1, sym (ap (λ y. y.value) j)), sym (ap (λ y. y.left) j)))
    (λ s c u v q. let e = plain_out m R a long c q.0 q.1 in rw e (ap (λ y. Ok (got y u)) (sym q.2)))
