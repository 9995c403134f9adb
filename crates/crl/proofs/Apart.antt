-- A list's octets are fixed by its signed block, algorithm and signature. Assumes nothing.
use Rattle.std.proofs.Common.{◌≡◌, ℕ, ◌+◌, ◌<◌, List, [], ◌∷◌, ◌++◌, length, sym, refl, ap, ◌∙◌, subst, arith, length-append, get_or-append-add}
use Rattle.items.specs.Parts.{Piece}
use Rattle.algorithm.specs.Algorithms.{algorithm_octets}
use Rattle.list.specs.Lists.{Signed, Listing}
use Rattle.grammar.specs.Items.{Tagged}
use Rattle.grammar.specs.Law.{Octets}
use Rattle.grammar.proofs.Standings.{one-encoding}
use Rattle.crl.specs.Profile.{IsListBody}
use Rattle.crl.specs.Law.{ListsApart}

octets-right : (xs ys : List ℕ) → Octets (xs ++ ys) → Octets ys
octets-right xs ys o k h = subst (λ n. n < 256) (get_or-append-add xs ys k 0) (o (length xs + k) (simp length-append (omega arith)))

octets-tail : (x : ℕ) (xs : List ℕ) → Octets (x ∷ xs) → Octets xs
octets-tail x xs o = octets-right (x ∷ []) xs o

-- the same tag and content are the same octets, wherever they stand
same-octets : (t p q : ℕ) (v w : List ℕ) (c d : Piece) → Octets v → Octets w → Tagged t p v c → Tagged t q w d → c.octets ≡ d.octets → v ≡ w
same-octets t p q v w c d ov ow h k e = one-encoding p q v w _ _ ov ow h k refl e

-- the content of a list: signed block, algorithm, and a BIT STRING around the signature
record Parts (c : List ℕ) (v : Listing) : Type 0 where
  item : List ℕ
  content : Piece
  at : ℕ
  octets : c ≡ v.signed.item.octets ++ (algorithm_octets v.signed.held.algorithm ++ item)
  tagged : Tagged 3 at item content
  bits : content.octets ≡ 0 ∷ v.signature.octets.octets

parts : (p : ℕ) (c : List ℕ) (v : Listing) → IsListBody p c v → Parts c v
parts p c v h =
    let k = h.1.1.3 in
    let s = h.0 in
    let m = k.1.1.3 in
    let i = m.1 in
    let r2 = k.1.1.0 in
    let ev = m.2 in
    let es : s.item.octets ≡ h.1.0 = ap (λ x. x.item.octets) h.1.1.2.2.2 in
    let f : c ≡ s.item.octets ++ (algorithm_octets s.held.algorithm ++ r2) =
    h.1.1.1 ∙ (ap (λ x. x ++ h.1.1.0) (sym es) ∙ ap (λ x. s.item.octets ++ x) (k.1.1.1 ∙ ap (λ x. x ++ r2) k.1.1.2)) in
    let g : i.0.octets ≡ 0 ∷ m.0.octets.octets = i.2.1 ∙ ap (λ (x : Signed). 0 ∷ x.octets.octets) (sym i.2.3) in
    subst (λ x. Parts c x) (sym ev) (record { item = r2; content = i.0; at = _; octets = f; tagged = i.1; bits = g })

pub lists-apart : ListsApart
lists-apart xs ys v w ox oy h k es ea eg =
    let a = parts h.0.offset h.0.octets v h.2 in
    let b = parts k.0.offset k.0.octets w k.2 in
    let oc = octets-right h.1.len h.0.octets (octets-tail 48 _ (subst Octets h.1.octets ox)) in
    let od = octets-right k.1.len k.0.octets (octets-tail 48 _ (subst Octets k.1.octets oy)) in
    let oa = octets-right (algorithm_octets v.signed.held.algorithm) a.item (octets-right v.signed.item.octets _ (subst Octets a.octets oc)) in
    let ob = octets-right (algorithm_octets w.signed.held.algorithm) b.item (octets-right w.signed.item.octets _ (subst Octets b.octets od)) in
    let e3 : a.item ≡ b.item = same-octets 3 a.at b.at a.item b.item a.content b.content oa ob a.tagged b.tagged (a.bits ∙ (ap (λ z. 0 ∷ z) eg ∙ sym b.bits)) in
    let ec : h.0.octets ≡ k.0.octets =
    a.octets ∙ (ap (λ z. z ++ (algorithm_octets v.signed.held.algorithm ++ a.item)) es
    ∙ (ap (λ z. w.signed.item.octets ++ (algorithm_octets z ++ a.item)) ea
    ∙ (ap (λ z. w.signed.item.octets ++ (algorithm_octets w.signed.held.algorithm ++ z)) e3 ∙ sym b.octets))) in
    same-octets 48 0 0 xs ys h.0 k.0 ox oy h.1 k.1 ec
