-- An item is found at an offset exactly where it stands, and has one encoding. Assumes nothing.
use Rattle.std.proofs.Common.{◌≡◌, ℕ, ◌+◌, ◌-◌, ◌<◌, ◌≤◌, List, [], ◌∷◌, ◌++◌, length, get_or, take, drop, Ok, Err, Result, sym, refl, ap, ◌∙◌, subst, arith, length-append, length-drop, length-take-le, drop_at, MatchResult}
use Rattle.std.proofs.lemmas.List.{take-append-drop}
use Rattle.refusals.specs.declared.grounds.Fault.{Fault}
use Rattle.items.specs.declared.item.Item.{Item}
use Rattle.der.specs.Reads.{Left, got, seen}
use Rattle.items.specs.Things.{Thing, thing_of}
use Rattle.der.specs.Items.{item_at}
use Rattle.grammar.specs.Items.{LengthIs, IsItem}
use Rattle.grammar.specs.Items.LengthIs.{short, one, two}
use Rattle.grammar.specs.Law.{item_in, Stands, Octets, OneEncoding}
use Rattle.grammar.proofs.Exacts.{item-sound, item-full}
use Rattle.grammar.proofs.Reading.{bind_ok, ok-is}

-- where an item stands it is read
pub stands_read : (xs : List ℕ) (p : ℕ) (i : Thing) → Stands xs p i → item_in xs p ≡ Ok i
unfolding item_in
stands_read xs p i h =
    let d : drop p xs ≡ h.item ++ h.after = ap (drop p) h.octets ∙ drop_at h.before (h.item ++ h.after) p (sym h.at) in
    let e : item_at (record { rest = drop p xs; offset = p }) ≡ Ok (got i (record { rest = h.after; offset = p + length h.item }))
    = item-full _ _ (record { front = h.item; rest = d; offset = refl; shape = h.is }) in
    rw e refl

-- what is read stands there
pub read-stands : (xs : List ℕ) (p : ℕ) (i : Thing) → item_in xs p ≡ Ok i → Stands xs p i
unfolding item_in
read-stands xs p i e =
    let s : Left = record { rest = drop p xs; offset = p } in
    let q = bind_ok (item_at s) _ i e in
    let k = item-sound s q.0 q.1 in
    let l : length xs - p ≡ length k.front + length q.0.left.rest = sym (length-drop p xs) ∙ simp length-append at (ap length k.rest) in
    let f = ap length k.shape.octets in
    let n : p ≤ length xs = omega arith in
    record {
      before = take p xs;
      item = k.front;
      after = q.0.left.rest;
      octets = sym (take-append-drop p xs) ∙ ap (λ r. take p xs ++ r) k.rest;
      at = sym (length-take-le p xs n);
      is = subst (λ j. IsItem p k.front j) (ok-is _ _ q.2) k.shape;
    }

-- the third octet of a length, where it has three
third : (a b : ℕ) (t : ℕ) (c v : List ℕ) → Octets v → v ≡ t ∷ 130 ∷ a ∷ b ∷ c → b < 256
third a b t c v o e = subst (λ n. n < 256) (ap (λ u. get_or u 3 0) e) (o 3 (let l = ap length e in omega arith))

-- a length has one encoding
same_length : (t n : ℕ) (l m c : List ℕ) → LengthIs l n → LengthIs m n → Octets (t ∷ (l ++ c)) → Octets (t ∷ (m ++ c)) → l ≡ m
same_length t n _ _ c (short h) (short k) o q = refl
same_length t n _ _ c (short h) (one k) o q = absurd (omega arith)
same_length t n _ _ c (short h) (two e k) o q = absurd (omega arith)
same_length t n _ _ c (one h) (short k) o q = absurd (omega arith)
same_length t n _ _ c (one h) (one k) o q = refl
same_length t n _ _ c (one h) (two {a} {b} e k) o q = absurd (let d : n < 256 = o 2 (omega arith) in omega arith)
same_length t n _ _ c (two e h) (short k) o q = absurd (omega arith)
same_length t n _ _ c (two {a} {b} e h) (one k) o q = absurd (let d : n < 256 = q 2 (omega arith) in omega arith)
same_length t n _ _ c (two {a} {b} e h) (two {a = x} {b = y} f k) o q =
    let d = third a b t c _ o refl in
    let g = third x y t c _ q refl in
    let i : a ≡ x = omega arith in
    let j : b ≡ y = omega arith in
    ap (λ z. 130 ∷ z ∷ b ∷ []) i ∙ ap (λ z. 130 ∷ x ∷ z ∷ []) j

pub one-encoding : OneEncoding
one-encoding p q v w i j ov ow h k et ec =
    let c = i.content.octets in
    let m : LengthIs k.len (length c) = subst (λ x. LengthIs k.len (length x)) (sym ec) k.means in
    let e : w ≡ i.tag ∷ (k.len ++ c) = k.octets ∙ ap (λ x. x ∷ (k.len ++ j.content.octets)) (sym et) ∙ ap (λ x. i.tag ∷ (k.len ++ x)) (sym ec) in
    let l = same_length i.tag (length c) h.len k.len c h.means m (subst Octets h.octets ov) (subst Octets e ow) in
    h.octets ∙ ap (λ z. i.tag ∷ (z ++ c)) l ∙ sym e

pub lawful : (xs : List ℕ) (p : ℕ) (r : Result Item Fault) → seen thing_of r ≡ item_in xs p → MatchResult r (λ i. Stands xs p (thing_of i)) (λ _. (i : Thing) → Stands xs p i → ⊥)
lawful xs p (Ok i) e = read-stands xs p (thing_of i) (sym e)
lawful xs p (Err f) e = λ i h. let k = stands_read xs p i h in let z : ◌≡◌ {A = ℕ} 0 1 = cc in omega arith
