-- Results taken apart, and the readings that every other is made of: exact. Assumes nothing.
use Rattle.std.proofs.Common.{◌≡◌, ℕ, ◌-◌, Bool, true, false, cond, ◌&&◌, eqb, List, [], ◌∷◌, ◌++◌, length, take, Ok, Err, Result, sym, refl, ap, ◌∙◌, subst, arith, length-append, take_at}
use Rattle.std.proofs.lemmas.Bool.{eqb-true, eq-eqb, lt-ltb, cond-true, cond_both}
use Rattle.refusals.specs.Refusals.{Flaw, flaw}
use Rattle.der.specs.Reads.{Left, Got, bind, then, got, between}
use Rattle.items.specs.Parts.{Piece}
use Rattle.items.specs.Things.{Thing}
use Rattle.der.specs.Items.{Wholly, item_at, expect_at, whole_at, end_at, next_is}
use Rattle.grammar.specs.Items.{IsItem, Tagged, Parsed}
use Rattle.grammar.proofs.Exacts.{item-sound, item-full}

-- a result that is `Ok`, taken apart
pub bind_ok : {V W : Type 0} (r : Result (Got V) Flaw) (f : V → Left → Result W Flaw) (x : W) → bind r f ≡ Ok x → (g : Got V) × (r ≡ Ok g) × (f g.value g.left ≡ Ok x)
bind_ok (Ok g) f x e = (g, refl, e)
bind_ok (Err y) f x e = absurd (let z : ◌≡◌ {A = ℕ} 0 1 = cc in omega arith)

pub then_ok : {V W : Type 0} (r : Result V Flaw) (f : V → Result W Flaw) (x : W) → then r f ≡ Ok x → (v : V) × (r ≡ Ok v) × (f v ≡ Ok x)
then_ok (Ok v) f x e = (v, refl, e)
then_ok (Err y) f x e = absurd (let z : ◌≡◌ {A = ℕ} 0 1 = cc in omega arith)

pub barred : {W : Type 0} (b : Bool) (y : Flaw) (r : Result W Flaw) (x : W) → cond b (Err y) r ≡ Ok x → (b ≡ false) × (r ≡ Ok x)
barred true y r x e = absurd (let z : ◌≡◌ {A = ℕ} 0 1 = cc in omega arith)
barred false y r x e = (refl, e)

pub passed : {W : Type 0} (b : Bool) (y : Flaw) (r : Result W Flaw) (x : W) → cond b r (Err y) ≡ Ok x → (b ≡ true) × (r ≡ Ok x)
passed true y r x e = (refl, e)
passed false y r x e = absurd (let z : ◌≡◌ {A = ℕ} 0 1 = cc in omega arith)

pub ok-is : {W : Type 0} (x y : W) → ◌≡◌ {A = Result W Flaw} (Ok x) (Ok y) → x ≡ y
ok-is x y e = cc

pub nothing : (xs : List ℕ) → length xs ≡ 0 → xs ≡ []
nothing [] e = refl
nothing (x ∷ xs) e = absurd (omega arith)

-- what was passed is the front
pub between_is : (s t : Left) (w : List ℕ) → s.rest ≡ w ++ t.rest → between s t ≡ record { octets = w; offset = s.offset }
between_is s t w e =
    let l : length w ≡ length s.rest - length t.rest = omega (arith, simp length-append at (ap length e)) in
    ap (λ x. record { octets = x; offset = s.offset }) (ap (take (length s.rest - length t.rest)) e ∙ take_at w t.rest (length s.rest - length t.rest) l)

pub expect-sound : (t : ℕ) (s : Left) (g : Got Piece) → expect_at t s ≡ Ok g → Parsed (Tagged t) s g
unfolding expect_at
expect-sound t s g e =
    let q = bind_ok (item_at s) _ g e in
    let i = q.0.value in
    let c = passed (eqb i.tag t) (flaw 6 s.offset) (Ok (got i.content q.0.left)) g q.2 in
    let k = item-sound s q.0 q.1 in
    let n = eqb-true i.tag t c.0 in
    let h = k.shape in
    subst (λ v. Parsed (Tagged t) s v) (ok-is _ _ c.1)
    (record {
      front = k.front;
      rest = k.rest;
      offset = k.offset;
      shape = subst (λ m. IsItem s.offset k.front (record { tag = m; offset = s.offset; content = i.content })) n
          (record { len = h.len; means = h.means; octets = h.octets; stands = refl; offset = h.offset; low = h.low; neat = h.neat });
    })

pub expect-full : (t : ℕ) (s : Left) (g : Got Piece) → Parsed (Tagged t) s g → expect_at t s ≡ Ok g
unfolding expect_at
expect-full t s g k =
    let i : Got Thing = got (record { tag = t; offset = s.offset; content = g.value }) g.left in
    ap (λ r. bind r (λ i u. cond (eqb i.tag t) (Ok (got i.content u)) (Err (flaw 6 s.offset)))) (item-full s i (record { front = k.front; rest = k.rest; offset = k.offset; shape = k.shape }))
    ∙ cond-true (eqb t t) (Ok g) (Err (flaw 6 s.offset)) (eq-eqb t t refl)

-- an item as it stands
abbrev pub Standing : ℕ → ℕ → List ℕ → Wholly → Type 0
Standing t p w x = Tagged t p w x.content × (x.item ≡ record { octets = w; offset = p })

pub whole-sound : (t : ℕ) (s : Left) (g : Got Wholly) → whole_at t s ≡ Ok g → Parsed (Standing t) s g
unfolding whole_at
whole-sound t s g e =
    let q = bind_ok (expect_at t s) _ g e in
    let k = expect-sound t s q.0 q.1 in
    subst (λ v. Parsed (Standing t) s v) (ok-is _ _ q.2) (record { front = k.front; rest = k.rest; offset = k.offset; shape = (k.shape, between_is s q.0.left k.front k.rest) })

pub whole-full : (t : ℕ) (s : Left) (g : Got Wholly) → Parsed (Standing t) s g → whole_at t s ≡ Ok g
unfolding whole_at
whole-full t s g k =
    let e1 : expect_at t s ≡ Ok (got g.value.content g.left) = expect-full t s _ (record { front = k.front; rest = k.rest; offset = k.offset; shape = k.shape.0 }) in
    let e2 : between s g.left ≡ g.value.item = between_is s g.left k.front k.rest ∙ sym k.shape.1 in
    rw e1 (ap (λ x. Ok (got (record { item = x; content = g.value.content }) g.left)) e2)

pub end-sound : (s : Left) (u : Unit {0}) → end_at s ≡ Ok u → s.rest ≡ []
unfolding end_at
end-sound s u =
    cond_both (eqb (length s.rest) 0) (Ok tt) (bind (item_at s) (λ i t. Err (flaw 6 s.offset))) (λ v. v ≡ Ok u → s.rest ≡ [])
    (λ n e. nothing s.rest (eqb-true _ 0 n))
    (λ n e. let q = bind_ok (item_at s) _ u e in absurd (let z : ◌≡◌ {A = ℕ} 0 1 = cc q.2 in omega arith))

pub end-full : (p : ℕ) → end_at (record { rest = []; offset = p }) ≡ Ok tt
unfolding end_at
end-full p = refl

-- which tag comes next
pub next-is : (t u p q : ℕ) (w r : List ℕ) (c : Piece) → Tagged t p w c → next_is u (record { rest = w ++ r; offset = q }) ≡ eqb t u
next-is t u p q w r c h =
    let e : w ++ r ≡ t ∷ ((h.len ++ c.octets) ++ r) = ap (λ x. x ++ r) h.octets in
    ap (λ x. next_is u (record { rest = x; offset = q })) e ∙ ap (λ b. b && eqb t u) (lt-ltb 0 (length (t ∷ ((h.len ++ c.octets) ++ r))) (omega arith))
