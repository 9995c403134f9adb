-- How exact readings are put together. Assumes nothing.
use Rattle.std.proofs.Common.{◌≡◌, ℕ, ◌+◌, ◌≤◌, Bool, true, false, cond, eqb, List, [], ◌++◌, length, Ok, Err, Result, sym, refl, ap, ◌∙◌, subst, inl, inr, append_assoc, append-nil, arith, length-append}
use Rattle.std.proofs.lemmas.Bool.{cond-true, cond-false, cond_both, eq-eqb, ne_eqb}
use Rattle.refusals.specs.Refusals.{Flaw}
use Rattle.der.specs.Reads.{Left, Got, bind, then, got, start_of}
use Rattle.items.specs.Parts.{Piece}
use Rattle.der.specs.Items.{Wholly, expect_at, whole_at, end_at, all_of, next_is}
use Rattle.grammar.specs.Items.{Tagged, Parsed}
use Rattle.grammar.specs.Grammar.{Seq, Made, Where, InTag, InWhole, Maybe, ExactIf, Always, Last, NotNext}
use Rattle.grammar.proofs.Reading.{bind_ok, then_ok, passed, barred, ok-is, expect-sound, expect-full, whole-sound, whole-full, end-sound, end-full, next-is}

pub seq : {V W : Type 0} {N1 N2 : List ℕ → Type 0} {m : Left → Result (Got V) Flaw} {n : V → Left → Result (Got W) Flaw} {R : ℕ → List ℕ → V → Type 0} {Q : V → ℕ → List ℕ → W → Type 0}
    → ExactIf N1 m R → ((x : V) → ExactIf N2 (n x) (Q x)) → ((x : V) (p : ℕ) (w : List ℕ) (v : W) (r : List ℕ) → Q x p w v → N2 r → N1 (w ++ r)) → ExactIf N2 (λ s. bind (m s) n) (Seq R Q)
seq {V} {W} {N1} {N2} {m} {n} {R} {Q} a b next = record {
  sound = λ s g e.
      let q = bind_ok (m s) n g e in
      let k = a.sound s q.0 q.1 in
      let l = (b q.0.value).sound q.0.left g q.2 in
      record {
        front = k.front ++ l.front;
        rest = k.rest ∙ (ap (λ x. k.front ++ x) l.rest ∙ sym (append_assoc k.front l.front g.left.rest));
        offset = simp length-append (omega (arith, k.offset, l.offset));
        shape = (q.0.value, (k.front, (l.front, refl, k.shape, subst (λ p. Q q.0.value p l.front g.value) k.offset l.shape)));
      };
  full = λ s g last k.
      let h = k.shape in
      let w = h.1.0 in
      let r = h.1.1.0 in
      let t : Left = record { rest = r ++ g.left.rest; offset = s.offset + length w } in
      let lw : length k.front ≡ length w + length r = simp length-append at (ap length h.1.1.1) in
      let e1 : m s ≡ Ok (got h.0 t) = a.full s (got h.0 t) (next h.0 (s.offset + length w) r g.value g.left.rest h.1.1.3 last) (record { front = w; rest = k.rest ∙ (ap (λ x. x ++ g.left.rest) h.1.1.1 ∙ append_assoc w r g.left.rest); offset = refl; shape = h.1.1.2 }) in
      let e2 : n h.0 t ≡ Ok g = (b h.0).full t g last (record { front = r; rest = refl; offset = omega (arith, k.offset, lw); shape = h.1.1.3 }) in
      rw e1 e2;
}

-- the usual case: what follows does not matter to the first
pub seqs : {V W : Type 0} {N2 : List ℕ → Type 0} {m : Left → Result (Got V) Flaw} {n : V → Left → Result (Got W) Flaw} {R : ℕ → List ℕ → V → Type 0} {Q : V → ℕ → List ℕ → W → Type 0}
    → ExactIf Always m R → ((x : V) → ExactIf N2 (n x) (Q x)) → ExactIf N2 (λ s. bind (m s) n) (Seq R Q)
seqs a b = seq {N1 = Always} a b (λ x p w v r q l. tt)

pub made : {V W : Type 0} {N : List ℕ → Type 0} {m : Left → Result (Got V) Flaw} {R : ℕ → List ℕ → V → Type 0} (f : V → W) → ExactIf N m R → ExactIf N (λ s. bind (m s) (λ x t. Ok (got (f x) t))) (Made R f)
made {V} {W} {N} {m} {R} f a = record {
  sound = λ s g e.
      let q = bind_ok (m s) _ g e in
      let k = a.sound s q.0 q.1 in
      subst (λ v. Parsed (Made R f) s v) (ok-is _ _ q.2) (record { front = k.front; rest = k.rest; offset = k.offset; shape = (q.0.value, k.shape, refl) });
  full = λ s g last k.
      let e1 : m s ≡ Ok (got k.shape.0 g.left) = a.full s _ last (record { front = k.front; rest = k.rest; offset = k.offset; shape = k.shape.1 }) in
      rw e1 (ap (λ v. Ok (got v g.left)) (sym k.shape.2));
}

-- the same shape in other words
pub recast : {V : Type 0} {N : List ℕ → Type 0} {m : Left → Result (Got V) Flaw} {R : ℕ → List ℕ → V → Type 0} (Q : ℕ → List ℕ → V → Type 0)
    → ExactIf N m R → ((p : ℕ) (w : List ℕ) (v : V) → R p w v → Q p w v) → ((p : ℕ) (w : List ℕ) (v : V) → Q p w v → R p w v) → ExactIf N m Q
recast Q a there back = record {
  sound = λ s g e. let k = a.sound s g e in record { front = k.front; rest = k.rest; offset = k.offset; shape = there _ _ _ k.shape };
  full = λ s g last k. a.full s g last (record { front = k.front; rest = k.rest; offset = k.offset; shape = back _ _ _ k.shape });
}

-- a test before the reading
pub guarded : {V : Type 0} {N : List ℕ → Type 0} {m : Left → Result (Got V) Flaw} {R : ℕ → List ℕ → V → Type 0} (b : Bool) (y : Flaw) → ExactIf N m R → ExactIf N (λ s. cond b (Err y) (m s)) (Where (b ≡ false) R)
guarded {V} {N} {m} {R} b y a = record {
  sound = λ s g e.
      let p = barred b y (m s) g e in
      let k = a.sound s g p.1 in
      record { front = k.front; rest = k.rest; offset = k.offset; shape = (p.0, k.shape) };
  full = λ s g last k. cond-false b _ _ k.shape.0 ∙ a.full s g last (record { front = k.front; rest = k.rest; offset = k.offset; shape = k.shape.1 });
}

-- an item as it stands, and what is made of it and its content
pub in_whole : {V : Type 0} {t : ℕ} (G : Left → Wholly → Left → Result (Got V) Flaw) (Q : Piece → Piece → V → Type 0)
    → ((s : Left) (w : Wholly) (u : Left) (g : Got V) → G s w u ≡ Ok g → Q w.item w.content g.value × (g.left ≡ u))
    → ((s : Left) (w : Wholly) (u : Left) (v : V) → Q w.item w.content v → G s w u ≡ Ok (got v u))
    → ExactIf Always (λ s. bind (whole_at t s) (λ w u. G s w u)) (InWhole t Q)
in_whole {V} {t} G Q gs gf = record {
  sound = λ s g e.
      let q = bind_ok (whole_at t s) _ g e in
      let k = whole-sound t s q.0 q.1 in
      let j = gs s q.0.value q.0.left g q.2 in
      record {
        front = k.front;
        rest = k.rest ∙ ap (λ x. k.front ++ x.rest) (sym j.1);
        offset = ap (λ x. x.offset) j.1 ∙ k.offset;
        shape = (q.0.value.content, k.shape.0, subst (λ x. Q x q.0.value.content g.value) k.shape.1 j.0);
      };
  full = λ s g last k.
      let w : Wholly = record { item = record { octets = k.front; offset = s.offset }; content = k.shape.0 } in
      let e1 : whole_at t s ≡ Ok (got w g.left) = whole-full t s _ (record { front = k.front; rest = k.rest; offset = k.offset; shape = (k.shape.1, refl) }) in
      rw e1 (gf s w g.left g.value k.shape.2);
}

-- an item, and what its content means
pub in-tag : {V : Type 0} {t : ℕ} {G : Left → Piece → Left → Result (Got V) Flaw} {Q : Piece → V → Type 0}
    → ((s : Left) (c : Piece) (u : Left) (g : Got V) → G s c u ≡ Ok g → Q c g.value × (g.left ≡ u))
    → ((s : Left) (c : Piece) (u : Left) (v : V) → Q c v → G s c u ≡ Ok (got v u))
    → ExactIf Always (λ s. bind (expect_at t s) (λ c u. G s c u)) (InTag t Q)
in-tag {V} {t} {G} {Q} gs gf = record {
  sound = λ s g e.
      let q = bind_ok (expect_at t s) _ g e in
      let k = expect-sound t s q.0 q.1 in
      let j = gs s q.0.value q.0.left g q.2 in
      record { front = k.front; rest = k.rest ∙ ap (λ x. k.front ++ x.rest) (sym j.1); offset = ap (λ x. x.offset) j.1 ∙ k.offset; shape = (q.0.value, k.shape, j.0) };
  full = λ s g last k.
      let e1 : expect_at t s ≡ Ok (got k.shape.0 g.left) = expect-full t s _ (record { front = k.front; rest = k.rest; offset = k.offset; shape = k.shape.1 }) in
      rw e1 (gf s k.shape.0 g.left g.value k.shape.2);
}

-- a test of the content
pub tested : {V : Type 0} {t : ℕ} (b : Piece → Bool) (f : Piece → V) (x : Left → Flaw) → ExactIf Always (λ s. bind (expect_at t s) (λ c u. cond (b c) (Ok (got (f c) u)) (Err (x s)))) (InTag t (λ c v. (b c ≡ true) × (v ≡ f c)))
tested {V} {t} b f x = in-tag {t = t} {G = λ s c u. cond (b c) (Ok (got (f c) u)) (Err (x s))} {Q = λ c v. (b c ≡ true) × (v ≡ f c)}
    (λ s c u g e. let p = passed (b c) (x s) (Ok (got (f c) u)) g e in let j = ok-is _ _ p.1 in ((p.0, sym (ap (λ y. y.value) j)), sym (ap (λ y. y.left) j)))
    (λ s c u v q. cond-true (b c) _ _ q.0 ∙ ap (λ y. Ok (got y u)) (sym q.1))

-- the content read by a function of the part
pub inside : {V : Type 0} {t : ℕ} (F : Piece → Result V Flaw) (Q : Piece → V → Type 0) → ((c : Piece) (v : V) → F c ≡ Ok v → Q c v) → ((c : Piece) (v : V) → Q c v → F c ≡ Ok v)
    → ExactIf Always (λ s. bind (expect_at t s) (λ c u. then (F c) (λ v. Ok (got v u)))) (InTag t Q)
inside {V} {t} F Q fs ff = in-tag {t = t} {G = λ s c u. then (F c) (λ v. Ok (got v u))} {Q = Q}
    (λ s c u g e. let p = then_ok (F c) _ g e in let j = ok-is _ _ p.2 in (subst (λ v. Q c v) (ap (λ y. y.value) j) (fs c p.0 p.1), sym (ap (λ y. y.left) j)))
    (λ s c u v q. let e = ff c v q in rw e refl)

-- a part that is read to its end
pub all_in : {V : Type 0} {N : List ℕ → Type 0} {m : Left → Result (Got V) Flaw} {R : ℕ → List ℕ → V → Type 0} → ExactIf N m R → (c : Piece) (v : V) → all_of m c ≡ Ok v → R c.offset c.octets v
all_in {V} {N} {m} {R} a c v e =
    let q = bind_ok (m (start_of c)) _ v e in
    let w = then_ok (end_at q.0.left) _ v q.2 in
    let k = a.sound (start_of c) q.0 q.1 in
    let n = end-sound q.0.left w.0 w.1 in
    let f : c.octets ≡ k.front = k.rest ∙ (ap (λ r. k.front ++ r) n ∙ append-nil k.front) in
    subst (λ x. R c.offset x v) (sym f) (subst (λ y. R c.offset k.front y) (ok-is _ _ w.2) k.shape)

pub all-out : {V : Type 0} {N : List ℕ → Type 0} {m : Left → Result (Got V) Flaw} {R : ℕ → List ℕ → V → Type 0} → ExactIf N m R → N [] → (c : Piece) (v : V) → R c.offset c.octets v → all_of m c ≡ Ok v
all-out {V} {N} {m} {R} a n c v h =
    let e : m (start_of c) ≡ Ok (got v (record { rest = []; offset = c.offset + length c.octets })) = a.full (start_of c) _ n (record { front = c.octets; rest = sym (append-nil c.octets); offset = refl; shape = h }) in
    rw e (ap (λ r. then r (λ e. Ok v)) (end-full (c.offset + length c.octets)))

-- any item is some octets
pub tag-long : {V : Type 0} (t : ℕ) (Q : Piece → V → Type 0) (p : ℕ) (w : List ℕ) (v : V) → InTag t Q p w v → 1 ≤ length w
tag-long t Q p w v h = let l = simp length-append at (ap length h.1.octets) in omega arith

-- no octets between two points of a reading: they are one
stay : (s t : Left) (w : List ℕ) → s.rest ≡ w ++ t.rest → t.offset ≡ s.offset + length w → w ≡ [] → s ≡ t
stay s t w er ep e =
    let r : s.rest ≡ t.rest = er ∙ ap (λ x. x ++ t.rest) e in
    let z = ap length e in
    let p : s.offset ≡ t.offset = omega arith in
    ap (λ x. record { rest = x; offset = s.offset }) r ∙ ap (λ x. record { rest = t.rest; offset = x }) p

nothing-parsed : {V : Type 0} {R : ℕ → List ℕ → V → Type 0} (d : V) (s : Left) (g : Got V) → ◌≡◌ {A = Result (Got V) Flaw} (Ok (got d s)) (Ok g) → Parsed (Maybe d R) s g
nothing-parsed {V} {R} d s g e = subst (λ v. Parsed (Maybe d R) s v) (ok-is _ _ e) (record { front = []; rest = refl; offset = omega arith; shape = inl (refl, refl) })

-- something, unless nothing is left
pub maybe-last : {V : Type 0} {m : Left → Result (Got V) Flaw} {R : ℕ → List ℕ → V → Type 0} (d : V) → ExactIf Always m R → ((p : ℕ) (w : List ℕ) (v : V) → R p w v → 1 ≤ length w)
    → ExactIf Last (λ s. cond (eqb (length s.rest) 0) (Ok (got d s)) (m s)) (Maybe d R)
maybe-last {V} {m} {R} d a long = record {
  sound = λ s g. cond_both (eqb (length s.rest) 0) (Ok (got d s)) (m s) (λ v. v ≡ Ok g → Parsed (Maybe d R) s g)
      (λ n e. nothing-parsed d s g e)
      (λ n e. let k = a.sound s g e in record { front = k.front; rest = k.rest; offset = k.offset; shape = inr k.shape });
  full = λ s g last k. maybe-case s g k.front k.rest k.offset last k.shape;
}
  where
    maybe-case : (s : Left) (g : Got V) (w : List ℕ) → s.rest ≡ w ++ g.left.rest → g.left.offset ≡ s.offset + length w → length g.left.rest ≡ 0 → Maybe d R s.offset w g.value → cond (eqb (length s.rest) 0) (Ok (got d s)) (m s) ≡ Ok g
    maybe-case s g w er ep last (inl h) =
        let same = stay s g.left w er ep h.0 in
        cond-true (eqb (length s.rest) 0) _ _ (eq-eqb _ 0 (ap (λ x. length x.rest) same ∙ last)) ∙ (ap (λ x. Ok (got d x)) same ∙ ap (λ v. Ok (got v g.left)) (sym h.1))
    maybe-case s g w er ep last (inr h) =
        let l = simp length-append at (ap length er) in
        let j = long s.offset w g.value h in
        cond-false (eqb (length s.rest) 0) _ _ (ne_eqb _ 0 (λ q. omega arith)) ∙ a.full s g tt (record { front = w; rest = er; offset = ep; shape = h })

-- something, if its tag is next
pub maybe-next : {V : Type 0} {m : Left → Result (Got V) Flaw} {R : ℕ → List ℕ → V → Type 0} (t : ℕ) (d : V) → ExactIf Always m R → ((p : ℕ) (w : List ℕ) (v : V) → R p w v → (c : Piece) × Tagged t p w c)
    → ExactIf (NotNext t) (λ s. cond (next_is t s) (m s) (Ok (got d s))) (Maybe d R)
maybe-next {V} {m} {R} t d a begins = record {
  sound = λ s g. cond_both (next_is t s) (m s) (Ok (got d s)) (λ v. v ≡ Ok g → Parsed (Maybe d R) s g)
      (λ n e. let k = a.sound s g e in record { front = k.front; rest = k.rest; offset = k.offset; shape = inr k.shape })
      (λ n e. nothing-parsed d s g e);
  full = λ s g last k. next-case s g k.front k.rest k.offset last k.shape;
}
  where
    next-case : (s : Left) (g : Got V) (w : List ℕ) → s.rest ≡ w ++ g.left.rest → g.left.offset ≡ s.offset + length w → NotNext t g.left.rest → Maybe d R s.offset w g.value → cond (next_is t s) (m s) (Ok (got d s)) ≡ Ok g
    next-case s g w er ep last (inl h) =
        let same = stay s g.left w er ep h.0 in
        cond-false (next_is t s) _ _ (ap (next_is t) same ∙ last) ∙ (ap (λ x. Ok (got d x)) same ∙ ap (λ v. Ok (got v g.left)) (sym h.1))
    next-case s g w er ep last (inr h) =
        let b = begins s.offset w g.value h in
        let y : next_is t s ≡ true = ap (λ x. next_is t (record { rest = x; offset = s.offset })) er ∙ (next-is t t s.offset s.offset w g.left.rest b.0 b.1 ∙ eq-eqb t t refl) in
        cond-true (next_is t s) _ _ y ∙ a.full s g tt (record { front = w; rest = er; offset = ep; shape = h })
