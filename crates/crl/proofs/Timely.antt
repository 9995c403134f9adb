-- Times are read exactly where they stand. Assumes nothing.
use Rattle.std.proofs.Common.{◌≡◌, ℕ, ◌+◌, ◌≤◌, true, false, ◌||◌, eqb, leb, ◌⊎◌, List, ◌++◌, length, Some, None, Ok, Option, sym, refl, ap, ◌∙◌, subst, inl, inr, arith}
use Rattle.std.proofs.lemmas.Bool.{cases_Bool, eqb-true, le-leb, leb-true, cond-true, cond_both}
use Rattle.refusals.specs.Refusals.{Flaw, flaw}
use Rattle.der.specs.Reads.{Left, Got, then, got}
use Rattle.items.specs.Parts.{Piece}
use Rattle.items.specs.Things.{Thing}
use Rattle.der.specs.Items.{item_at}
use Rattle.moment.specs.Texts.{utc_text, utc_read, general_text, general_read}
use Rattle.moment.proofs.Inverses.{utc-inverse, general-inverse}
use Rattle.der.specs.Reads.{or_fault}
use Rattle.entry.specs.Times.{late, time_by, or_flaw, timely, time_at}
use Rattle.grammar.specs.Items.{Tagged, Parsed}
use Rattle.grammar.specs.Grammar.{ExactIf, Always}
use Rattle.grammar.proofs.Exacts.{item-sound, item-full}
use Rattle.grammar.proofs.Reading.{bind_ok, then_ok, passed, ok-is}
use Rattle.crl.specs.Profile.{IsTime}

-- an optional value that is there
pub fault-some : {V : Type 0} (o : Option V) (f : Flaw) (t : Left) (g : Got V) → or_fault o f t ≡ Ok g → (o ≡ Some g.value) × (g.left ≡ t)
fault-some (Some v) f t g e = let j = ok-is _ _ e in (ap (λ (x : Got _). Some x.value) j, sym (ap (λ x. x.left) j))
fault-some None f t g e = absurd (let z : ◌≡◌ {A = ℕ} 0 1 = cc in omega arith)

flaw-some : {V : Type 0} (o : Option V) (f : Flaw) (v : V) → or_flaw o f ≡ Ok v → o ≡ Some v
flaw-some (Some x) f v e = ap (λ y. Some y) (ok-is _ _ e)
flaw-some None f v e = absurd (let z : ◌≡◌ {A = ℕ} 0 1 = cc in omega arith)

-- of an inverse, each text reads as its moment
pub text-reads : (text : ℕ → Option (List ℕ)) (read : List ℕ → Option ℕ) (m : ℕ) (xs : List ℕ) → ((ys : List ℕ) × (text m ≡ Some ys) × (read ys ≡ Some m)) → text m ≡ Some xs → read xs ≡ Some m
text-reads text read m xs h e = let j : h.0 ≡ xs = cc h.1 in subst (λ ys. read ys ≡ Some m) j h.2

late-in : (o : Option ℕ) (m : ℕ) → late o ≡ Some m → (o ≡ Some m) × (3155760000 ≤ m)
late-in None m e = absurd (let z : ◌≡◌ {A = ℕ} 0 1 = cc in omega arith)
late-in (Some n) m was =
    cond_both (leb 3155760000 n) (Some n) None (λ o. o ≡ Some m → (◌≡◌ {A = Option ℕ} (Some n) (Some m)) × (3155760000 ≤ m))
    (λ h e. let k : n ≡ m = cc in (e, subst (λ x. 3155760000 ≤ x) k (leb-true _ _ h)))
    (λ h e. absurd (let z : ◌≡◌ {A = ℕ} 0 1 = cc in omega arith))
    was

-- the tag of a time
time-tag : (t : ℕ) → (eqb t 23 || eqb t 24) ≡ true → (t ≡ 23) ⊎ (t ≡ 24)
time-tag t e = elim (cases_Bool (eqb t 23)) [ inl h ↦ inl (eqb-true t 23 h) | inr h ↦ inr (eqb-true t 24 (let k : (false || eqb t 24) ≡ true = rw h at e in k)) ]

-- what a time's content says
said : (t p m : ℕ) (w : List ℕ) (c : Piece) → (t ≡ 23) ⊎ (t ≡ 24) → Tagged t p w c → time_by t c.octets ≡ Some m → IsTime p w m
said t p m w c (inl h) k e =
    let f : utc_read c.octets ≡ Some m = subst (λ n. time_by n c.octets ≡ Some m) h e in
    let b = utc-inverse.writes_back c.octets m f in
    inl (c, subst (λ n. Tagged n p w c) h k, (omega (arith, b.0), b.1))
said t p m w c (inr h) k e =
    let f : late (general_read c.octets) ≡ Some m = subst (λ n. time_by n c.octets ≡ Some m) h e in
    let l = late-in (general_read c.octets) m f in
    let b = general-inverse.writes_back c.octets m l.0 in
    inr (c, subst (λ n. Tagged n p w c) h k, (l.1, b.0, b.1))

-- a time in front
time-front : (s : Left) (g : Got ℕ) (t : ℕ) (c : Piece) → (eqb t 23 || eqb t 24) ≡ true → Parsed (λ p w v. Tagged t p w c) s g → time_by t c.octets ≡ Some g.value → time_at s ≡ Ok g
unfolding time_at
time-front s g t c tag k e =
    let i : Got Thing = got (record { tag = t; offset = s.offset; content = c }) g.left in
    let e1 : item_at s ≡ Ok i = item-full s i (record { front = k.front; rest = k.rest; offset = k.offset; shape = k.shape }) in
    let e2 : timely t c.octets s.offset ≡ Ok g.value = ap (λ o. or_flaw o (flaw 7 s.offset)) e in
    rw e1 (cond-true (eqb t 23 || eqb t 24) _ _ tag ∙ ap (λ r. then r (λ m. Ok (got m g.left))) e2)

time-full : (s : Left) (g : Got ℕ) (w : List ℕ) → s.rest ≡ w ++ g.left.rest → g.left.offset ≡ s.offset + length w → IsTime s.offset w g.value → time_at s ≡ Ok g
time-full s g w r o (inl h) =
    let e = text-reads utc_text utc_read g.value h.0.octets (utc-inverse.reads_back g.value (omega (arith, h.2.0))) h.2.1 in
    time-front s g 23 h.0 refl (record { front = w; rest = r; offset = o; shape = h.1 }) e
time-full s g w r o (inr h) =
    let f = text-reads general_text general_read g.value h.0.octets (general-inverse.reads_back g.value h.2.1) h.2.2 in
    let e : late (general_read h.0.octets) ≡ Some g.value = ap late f ∙ cond-true (leb 3155760000 g.value) _ _ (le-leb _ _ h.2.0) in
    time-front s g 24 h.0 refl (record { front = w; rest = r; offset = o; shape = h.1 }) e

pub time-exact : ExactIf Always time_at IsTime
unfolding time_at
time-exact = record {
  sound = λ s g e.
      let q = bind_ok (item_at s) _ g e in
      let i = q.0.value in
      let k = item-sound s q.0 q.1 in
      let t = passed (eqb i.tag 23 || eqb i.tag 24) (flaw 6 s.offset) (then (timely i.tag i.content.octets s.offset) (λ m. Ok (got m q.0.left))) g q.2 in
      let m = then_ok (timely i.tag i.content.octets s.offset) _ g t.1 in
      let h = k.shape in
      let c : Tagged i.tag s.offset k.front i.content = record { len = h.len; means = h.means; octets = h.octets; stands = refl; offset = h.offset; low = h.low; neat = h.neat } in
      subst (λ v. Parsed IsTime s v) (ok-is _ _ m.2) (record {
        front = k.front;
        rest = k.rest;
        offset = k.offset;
        shape = said i.tag s.offset m.0 k.front i.content (time-tag i.tag t.0) c (flaw-some (time_by i.tag i.content.octets) (flaw 7 s.offset) m.0 m.1);
      });
  full = λ s g last k. time-full s g k.front k.rest k.offset k.shape;
}
