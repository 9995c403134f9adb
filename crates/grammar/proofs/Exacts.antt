-- An item is read exactly where one stands. Assumes nothing.
use Rattle.std.proofs.Common.{◌≡◌, ℕ, ◌+◌, ◌%◌, ◌≤◌, true, false, eqb, List, ◌∷◌, ◌++◌, length, get_or, take, drop, Some, None, Ok, Err, Option, sym, refl, ap, ◌∙◌, subst, append_assoc, arith, length-append, length-take-le, drop_at}
use lib.Seq.{take-append_seam, drop-append_seam}
use Rattle.std.proofs.lemmas.List.{take-append-drop}
use Rattle.std.proofs.lemmas.Bool.{ne_eqb, cond-false, cond_both}
use Rattle.refusals.specs.Refusals.{flaw}
use Rattle.items.specs.declared.item.Head.{Head}
use Rattle.der.specs.Reads.{Left, Got, got}
use Rattle.items.specs.Things.{Thing}
use Rattle.items.specs.Headers.{head_of, shortest}
use Rattle.der.specs.Items.{item_by, item_at}
use Rattle.grammar.specs.Items.{LengthIs, IsItem, Parsed}
use Rattle.grammar.proofs.Heads.{Headed, head-full, head-sound}

-- the item with a header of h octets and this content, and what is left behind it
abbrev item-got : ℕ → ℕ → ℕ → List ℕ → List ℕ → ℕ → Got Thing
item-got t p h c r n = got (record { tag = t; offset = p; content = record { octets = c; offset = p + h } }) (record { rest = r; offset = p + h + n })

-- an item in front, whatever follows it
pub item-front : (t p : ℕ) (len c r : List ℕ) → eqb (t % 32) 31 ≡ false → LengthIs len (length c) → shortest t c ≡ true
    → item_at (record { rest = t ∷ (len ++ (c ++ r)); offset = p }) ≡ Ok (item-got t p (1 + length len) c r (length c))
unfolding item_at
item-front t p len c r low means neat =
    let s : Left = record { rest = t ∷ (len ++ (c ++ r)); offset = p } in
    let fits : length c ≤ length (c ++ r) = simp length-append (omega arith) in
    let d : drop (1 + length len) (t ∷ (len ++ (c ++ r))) ≡ c ++ r = drop_at (t ∷ len) (c ++ r) (1 + length len) (omega arith) in
    cond-false (eqb (length s.rest) 0) (Err (flaw 6 p)) (item_by s (head_of s.rest)) (ne_eqb (length s.rest) 0 (λ z. omega arith)) ∙
    ap (item_by s) (head-full t len (length c) (c ++ r) low means fits) ∙ rw (d, take-append_seam c r, drop-append_seam c r, neat)

pub item-full : (s : Left) (g : Got Thing) → Parsed IsItem s g → item_at s ≡ Ok g
item-full s g k =
    let i = g.value in
    let c = i.content.octets in
    let len = k.shape.len in
    let r = g.left.rest in
    let e : s.rest ≡ i.tag ∷ (len ++ (c ++ r)) = k.rest ∙ (ap (λ w. w ++ r) k.shape.octets ∙ ap (λ w. i.tag ∷ w) (append_assoc len c r)) in
    let f = item-front i.tag s.offset len c r k.shape.low k.shape.means k.shape.neat in
    let q : g.left.offset ≡ s.offset + (1 + length len) + length c = omega (arith, k.offset, simp length-append at (ap length k.shape.octets)) in
    let n : ℕ = s.offset + (1 + length len) + length c in
    ap (λ xs. item_at (record { rest = xs; offset = s.offset })) e ∙ (f ∙
    (ap (λ x. Ok (got (record { tag = i.tag; offset = x; content = record { octets = c; offset = s.offset + (1 + length len) } }) (record { rest = r; offset = n }))) (sym k.shape.stands) ∙
    (ap (λ x. Ok (got (record { tag = i.tag; offset = i.offset; content = record { octets = c; offset = x } }) (record { rest = r; offset = n }))) (sym k.shape.offset) ∙
    ap (λ x. Ok (got i (record { rest = r; offset = x }))) (sym q))))

pub item-build : (t p : ℕ) (len body : List ℕ) (n : ℕ) → eqb (t % 32) 31 ≡ false → LengthIs len n → n ≤ length body → shortest t (take n body) ≡ true
    → Parsed IsItem (record { rest = t ∷ (len ++ body); offset = p }) (item-got t p (1 + length len) (take n body) (drop n body) n)
item-build t p len body n low means fits neat =
    let l : length (take n body) ≡ n = length-take-le n body fits in
    record {
      front = t ∷ (len ++ take n body);
      rest = ap (λ w. t ∷ w) (ap (λ w. len ++ w) (sym (take-append-drop n body)) ∙ sym (append_assoc len (take n body) (drop n body)));
      offset = simp length-append (omega arith);
      shape = record { len = len; means = subst (λ m. LengthIs len m) (sym l) means; octets = refl; stands = refl; offset = refl; low = low; neat = neat };
    }

item-with : (s : Left) (h : Head) (g : Got Thing) → Headed s.rest h → item_by s (Some h) ≡ Ok g → Parsed IsItem s g
item-with s h g k =
    let d : drop h.start s.rest ≡ k.body = ap (drop h.start) k.octets ∙ drop_at (k.tag ∷ k.len) k.body h.start (omega (arith, k.start)) in
    let t : get_or s.rest 0 0 ≡ k.tag = ap (λ xs. get_or xs 0 0) k.octets in
    let c = take h.len (drop h.start s.rest) in
    let x : Got Thing = item-got k.tag s.offset (1 + length k.len) (take h.len k.body) (drop h.len k.body) h.len in
    cond_both (shortest (get_or s.rest 0 0) c)
    (Ok (item-got (get_or s.rest 0 0) s.offset h.start c (drop h.len (drop h.start s.rest)) h.len))
    (Err (flaw 5 s.offset))
    (λ v. v ≡ Ok g → Parsed IsItem s g)
    (λ n e.
    let n2 : shortest k.tag (take h.len k.body) ≡ true = subst (λ y. shortest y (take h.len k.body) ≡ true) t (subst (λ y. shortest (get_or s.rest 0 0) (take h.len y) ≡ true) d n) in
    let b = item-build k.tag s.offset k.len k.body h.len k.low k.means k.fits n2 in
    let z = k.start in
    let y : x ≡ g = cc in
    subst (λ v. Parsed IsItem s v) y (subst (λ xs. Parsed IsItem (record { rest = xs; offset = s.offset }) x) (sym k.octets) b))
    (λ n e. absurd (let z : ◌≡◌ {A = ℕ} 0 1 = cc in omega arith))

item_by-sound : (s : Left) (o : Option Head) (g : Got Thing) → head_of s.rest ≡ o → item_by s o ≡ Ok g → Parsed IsItem s g
item_by-sound s None g was e = absurd (let z : ◌≡◌ {A = ℕ} 0 1 = cc in omega arith)
item_by-sound s (Some h) g was e = item-with s h g (head-sound s.rest h was) e

pub item-sound : (s : Left) (g : Got Thing) → item_at s ≡ Ok g → Parsed IsItem s g
unfolding item_at
item-sound s g =
    cond_both (eqb (length s.rest) 0) (Err (flaw 6 s.offset)) (item_by s (head_of s.rest)) (λ v. v ≡ Ok g → Parsed IsItem s g)
    (λ n e. absurd (let z : ◌≡◌ {A = ℕ} 0 1 = cc in omega arith))
    (λ n e. item_by-sound s (head_of s.rest) g refl e)
