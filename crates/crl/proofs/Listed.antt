-- Lists are read exactly where they stand. Assumes nothing.
use Rattle.std.proofs.Common.{◌≡◌, ℕ, ◌+◌, ◌≤◌, true, false, cond, ◌&&◌, eqb, leb, List, [], ◌∷◌, ◌++◌, length, drop, Some, None, Ok, Err, Option, sym, refl, ap, ◌∙◌, subst, arith}
use Rattle.std.specs.Str.{bytes_eq}
use Rattle.std.proofs.lemmas.Bool.{ne_eqb, eqb-true, eqb-false, and_parts, leb-true, le-leb, cond-true, cond-false, cond_both}
use Rattle.refusals.specs.Refusals.{flaw}
use Rattle.der.specs.Reads.{Left, Got, then, got}
use Rattle.items.specs.Parts.{Piece}
use Rattle.items.specs.Things.{Thing}
use Rattle.der.specs.Items.{item_at, raw_at, name_at, all_of}
use Rattle.elements.specs.Runs.{run_of}
use Rattle.telling.specs.declared.role.Context.TheVariants.{List as InList}
use Rattle.telling.specs.Tells.{Tells, silent}
use Rattle.der.specs.Reads.{or_fault}
use Rattle.extension.specs.Extensions.{extension_step}
use Rattle.entry.specs.Entries.{entry_at}
use Rattle.algorithm.specs.declared.identifiers.Algorithm.{Algorithm}
use Rattle.algorithm.specs.declared.identifiers.Algorithm.TheVariants.{Sha1WithRsa, Sha256WithRsa, HmacWithSha256}
use Rattle.algorithm.specs.Algorithms.{algorithm_octets, algorithm_in, algorithm_at, again_at}
use Rattle.block.specs.Blocks.{Numbered, Held, version_at, entries_at, numbered, told_in, told_at, context_at, block_at}
use Rattle.list.specs.Lists.{Listing, signed_at, signature_is, signature_at, body_at, list_at, list_of}
use Rattle.grammar.specs.Items.{IsItem, Parsed}
use Rattle.grammar.specs.Items.LengthIs.{short}
use Rattle.grammar.specs.Grammar.{ExactIf, InTag, Always, NotNext}
use Rattle.grammar.proofs.Exacts.{item-sound, item-full}
use Rattle.grammar.proofs.Reading.{bind_ok, then_ok, passed, barred, ok-is, between_is, next-is}
use Rattle.grammar.proofs.Combine.{seq, seqs, made, recast, in_whole, tested, inside, all_in, all-out, tag-long, maybe-next}
use Rattle.grammar.proofs.RunExact.{sequence-of}
use Rattle.crl.specs.Profile.{IsEntry, IsEntries, IsVersion, IsAlgorithm, IsName, AreNumbered, IsContext, IsBlock, IsSigned, IsSignature, IsListBody, IsList}
use Rattle.crl.proofs.Octets.{same-is, is_same}
use Rattle.crl.proofs.Timely.{fault-some, time-exact}
use Rattle.crl.proofs.Extends.{extensions-in, extensions-out}
use Rattle.crl.proofs.Entered.{entry-exact}

version-exact : ExactIf Always version_at IsVersion
unfolding version_at
version-exact = recast IsVersion (tested {t = 2} (λ c. bytes_eq c.octets (1 ∷ [])) (λ c. tt) (λ s. flaw 6 s.offset))
    (λ p w v h. (h.0, h.1, (same-is _ _ h.2.0, h.2.1)))
    (λ p w v h. (h.0, h.1, (is_same _ _ h.2.0, h.2.1)))

-- an algorithm is an item
algorithm-item : (p : ℕ) (a : Algorithm) → IsItem p (algorithm_octets a) (record { tag = 48; offset = p; content = record { octets = drop 2 (algorithm_octets a); offset = p + 2 } })
algorithm-item p Sha1WithRsa = record { len = 13 ∷ []; means = short (omega arith); octets = refl; stands = refl; offset = refl; low = refl; neat = refl }
algorithm-item p Sha256WithRsa = record { len = 13 ∷ []; means = short (omega arith); octets = refl; stands = refl; offset = refl; low = refl; neat = refl }
algorithm-item p HmacWithSha256 = record { len = 12 ∷ []; means = short (omega arith); octets = refl; stands = refl; offset = refl; low = refl; neat = refl }

-- an item as it stands, whatever its tag
raw-sound : (s : Left) (g : Got Piece) → raw_at s ≡ Ok g → Parsed (λ p w v. v ≡ record { octets = w; offset = p }) s g
unfolding raw_at
raw-sound s g e =
    let q = bind_ok (item_at s) _ g e in
    let k = item-sound s q.0 q.1 in
    subst (λ v. Parsed (λ p w v. v ≡ record { octets = w; offset = p }) s v) (ok-is _ _ q.2) (record { front = k.front; rest = k.rest; offset = k.offset; shape = between_is s q.0.left k.front k.rest })

raw-full : (s t : Left) (a : Algorithm) (w : List ℕ) → s.rest ≡ w ++ t.rest → t.offset ≡ s.offset + length w → w ≡ algorithm_octets a → raw_at s ≡ Ok (got (record { octets = algorithm_octets a; offset = s.offset }) t)
unfolding raw_at
raw-full s t a w r o h =
    let i : Thing = record { tag = 48; offset = s.offset; content = record { octets = drop 2 (algorithm_octets a); offset = s.offset + 2 } } in
    let e : item_at s ≡ Ok (got i t) = item-full s (got i t) (record { front = algorithm_octets a; rest = r ∙ ap (λ x. x ++ t.rest) h; offset = o ∙ ap (λ x. s.offset + length x) h; shape = algorithm-item s.offset a }) in
    rw e (ap (λ x. Ok (got x t)) (between_is s t (algorithm_octets a) (r ∙ ap (λ x. x ++ t.rest) h)))

algorithm-is : (xs : List ℕ) (a : Algorithm) → algorithm_in xs ≡ Some a → xs ≡ algorithm_octets a
unfolding algorithm_in
algorithm-is xs a =
    cond_both (bytes_eq xs (algorithm_octets Sha1WithRsa)) (Some Sha1WithRsa) _ (λ o. o ≡ Some a → xs ≡ algorithm_octets a)
    (λ h e. let k : Sha1WithRsa ≡ a = cc in same-is _ _ h ∙ ap algorithm_octets k)
    (λ n. cond_both (bytes_eq xs (algorithm_octets Sha256WithRsa)) (Some Sha256WithRsa) _ (λ o. o ≡ Some a → xs ≡ algorithm_octets a)
    (λ h e. let k : Sha256WithRsa ≡ a = cc in same-is _ _ h ∙ ap algorithm_octets k)
    (λ m. cond_both (bytes_eq xs (algorithm_octets HmacWithSha256)) (Some HmacWithSha256) None (λ o. o ≡ Some a → xs ≡ algorithm_octets a)
    (λ h e. let k : HmacWithSha256 ≡ a = cc in same-is _ _ h ∙ ap algorithm_octets k)
    (λ h e. absurd (let z : ◌≡◌ {A = ℕ} 0 1 = cc in omega arith))))

algorithm-found : (a : Algorithm) → algorithm_in (algorithm_octets a) ≡ Some a
unfolding algorithm_in
algorithm-found Sha1WithRsa = refl
algorithm-found Sha256WithRsa = refl
algorithm-found HmacWithSha256 = refl

algorithm-exact : ExactIf Always algorithm_at IsAlgorithm
unfolding algorithm_at
algorithm-exact = record {
  sound = λ s g e.
      let q = bind_ok (raw_at s) _ g e in
      let k = raw-sound s q.0 q.1 in
      let j = fault-some (algorithm_in q.0.value.octets) (flaw 6 s.offset) q.0.left g q.2 in
      record {
        front = k.front;
        rest = k.rest ∙ ap (λ x. k.front ++ x.rest) (sym j.1);
        offset = ap (λ x. x.offset) j.1 ∙ k.offset;
        shape = sym (ap (λ x. x.octets) k.shape) ∙ algorithm-is q.0.value.octets g.value j.0;
      };
  full = λ s g last k.
      let e = raw-full s g.left g.value k.front k.rest k.offset k.shape in
      rw e (ap (λ o. or_fault o (flaw 6 s.offset) g.left) (algorithm-found g.value));
}

again-exact : (a : Algorithm) → ExactIf Always (again_at a) (λ p w u. IsAlgorithm p w a)
unfolding again_at
again-exact a = record {
  sound = λ s g e.
      let q = bind_ok (raw_at s) _ g e in
      let k = raw-sound s q.0 q.1 in
      let p = passed (bytes_eq q.0.value.octets (algorithm_octets a)) (flaw 6 s.offset) (Ok (got tt q.0.left)) g q.2 in
      let j = ap (λ x. x.left) (ok-is _ _ p.1) in
      record {
        front = k.front;
        rest = k.rest ∙ ap (λ x. k.front ++ x.rest) j;
        offset = sym (ap (λ x. x.offset) j) ∙ k.offset;
        shape = sym (ap (λ x. x.octets) k.shape) ∙ same-is _ _ p.0;
      };
  full = λ s g last k.
      let e = raw-full s g.left a k.front k.rest k.offset k.shape in
      rw e (cond-true (bytes_eq (algorithm_octets a) (algorithm_octets a)) _ _ (is_same (algorithm_octets a) (algorithm_octets a) refl));
}

some-content : (n : ℕ) → eqb n 0 ≡ false → 1 ≤ n
some-content n h = let k = eqb-false n 0 h in omega arith

name-exact : ExactIf Always name_at IsName
unfolding name_at
name-exact = in_whole {t = 48} (λ s w u. cond (eqb (length w.content.octets) 0) (Err (flaw 6 w.content.offset)) (Ok (got w.item u))) (λ whole c v. (1 ≤ length c.octets) × (v ≡ whole))
    (λ s w u g e. let p = barred (eqb (length w.content.octets) 0) (flaw 6 w.content.offset) (Ok (got w.item u)) g e in let j = ok-is _ _ p.1 in ((some-content _ p.0, sym (ap (λ y. y.value) j)), sym (ap (λ y. y.left) j)))
    (λ s w u v q. cond-false (eqb (length w.content.octets) 0) _ _ (ne_eqb _ 0 (λ z. omega (arith, q.0))) ∙ ap (λ y. Ok (got y u)) (sym q.1))

entries-exact : ExactIf (NotNext 48) entries_at IsEntries
unfolding entries_at
entries-exact = maybe-next 48 (record { run = None; count = 0 }) (sequence-of entry_at IsEntry (λ c es. record { run = Some c; count = length es }) entry-exact (tag-long 48 _)) (λ p w v h. (h.0, h.1))

numbered-ok : (end : ℕ) (t : Tells) (o : Option Piece) (n : Numbered) → numbered end t o ≡ Ok n → (o ≡ Some n.number) × (n.expired ≡ t.expired)
numbered-ok end t None n e = absurd (let z : ◌≡◌ {A = ℕ} 0 1 = cc in omega arith)
numbered-ok end t (Some x) n e = let j = ok-is _ _ e in (ap (λ (y : Numbered). Some y.number) j, sym (ap (λ (y : Numbered). y.expired) j))

numbered-in : (c : Piece) (n : Numbered) → told_in c ≡ Ok n → AreNumbered c n
numbered-in c n e =
    let p = then_ok (run_of (extension_step InList) silent c) _ n e in
    let r = extensions-in InList c p.0 p.1 in
    let k = numbered-ok (c.offset + length c.octets) p.0.two p.0.two.number n p.2 in
    (p.0.two, (p.0.one, r.0, r.1), k.0, k.1)

numbered-out : (c : Piece) (n : Numbered) → AreNumbered c n → told_in c ≡ Ok n
numbered-out c n h =
    let e = extensions-out InList c (record { one = h.1.0; two = h.0 }) h.1.1 h.1.2 in
    rw e (ap (numbered (c.offset + length c.octets) h.0) h.2 ∙ ap (λ x. Ok (record { number = n.number; expired = x })) (sym h.3))

told-exact : ExactIf Always told_at (InTag 48 AreNumbered)
unfolding told_at
told-exact = inside {t = 48} told_in AreNumbered numbered-in numbered-out

context-exact : ExactIf Always context_at IsContext
unfolding context_at
context-exact = inside {t = 160} (all_of told_at) (λ c n. InTag 48 AreNumbered c.offset c.octets n) (all_in told-exact) (all-out told-exact tt)

block-exact : ExactIf Always block_at IsBlock
unfolding block_at
block-exact =
    seqs version-exact (λ version. seqs algorithm-exact (λ algorithm. seqs name-exact (λ issuer. seqs time-exact (λ this_update. seqs time-exact (λ next_update. seq {N1 = NotNext 48} entries-exact (λ entries.
    made (λ told. record { algorithm = algorithm; issuer = issuer; this_update = this_update; next_update = next_update; entries = entries; told = told }) context-exact)
    (λ x p w v r q l. next-is 160 48 p 0 w r q.1.0 q.1.1))))))

signed-exact : ExactIf Always signed_at IsSigned
unfolding signed_at
signed-exact = in_whole {t = 48} (λ s w u. then (all_of block_at w.content) (λ held. Ok (got (record { item = w.item; held = held }) u))) (λ whole c v. (h : Held) × IsBlock c.offset c.octets h × (v ≡ record { item = whole; held = h }))
    (λ s w u g e.
    let p = then_ok (all_of block_at w.content) _ g e in
    let j = ok-is _ _ p.2 in
    ((p.0, all_in block-exact w.content p.0 p.1, sym (ap (λ y. y.value) j)), sym (ap (λ y. y.left) j)))
    (λ s w u v q. let e = all-out block-exact tt w.content q.0 q.1 in rw e (ap (λ y. Ok (got y u)) (sym q.2)))

-- the content of a signature
signature-in : (xs : List ℕ) → signature_is xs ≡ true → (xs ≡ 0 ∷ drop 1 xs) × (1 ≤ length (drop 1 xs))
signature-in [] h = absurd (let k = leb-true 2 0 (and_parts (leb 2 0) (eqb 0 0) h).0 in omega arith)
signature-in (x ∷ xs) h =
    let p = and_parts (leb 2 (length (x ∷ xs))) (eqb x 0) h in
    (ap (λ y. y ∷ xs) (eqb-true x 0 p.1), let k = leb-true 2 (length (x ∷ xs)) p.0 in omega arith)

signature-exact : ExactIf Always signature_at IsSignature
unfolding signature_at
signature-exact = in_whole {t = 3}
    (λ s w u. cond (signature_is w.content.octets) (Ok (got (record { item = w.item; octets = record { octets = drop 1 w.content.octets; offset = w.content.offset + 1 } }) u)) (Err (flaw 6 s.offset)))
    (λ whole c v. (xs : List ℕ) × (c.octets ≡ 0 ∷ xs) × (1 ≤ length xs) × (v ≡ record { item = whole; octets = record { octets = xs; offset = c.offset + 1 } }))
    (λ s w u g e.
    let p = passed (signature_is w.content.octets) (flaw 6 s.offset) (Ok (got (record { item = w.item; octets = record { octets = drop 1 w.content.octets; offset = w.content.offset + 1 } }) u)) g e in
    let j = ok-is _ _ p.1 in
    let i = signature-in w.content.octets p.0 in
    ((drop 1 w.content.octets, i.0, i.1, sym (ap (λ y. y.value) j)), sym (ap (λ y. y.left) j)))
    (λ s w u v q.
    let b : signature_is (0 ∷ q.0) ≡ true = ap (λ x. x && true) (le-leb 2 (length (0 ∷ q.0)) (omega (arith, q.2))) in
    rw q.1 (cond-true (signature_is (0 ∷ q.0)) _ _ b ∙ ap (λ y. Ok (got y u)) (sym q.3)))

body-exact : ExactIf Always body_at IsListBody
unfolding body_at
body-exact = seqs signed-exact (λ signed. seqs (again-exact signed.held.algorithm) (λ again. made (λ signature. record { signed = signed; signature = signature }) signature-exact))

list-exact : ExactIf Always list_at (InTag 48 (λ c v. IsListBody c.offset c.octets v))
unfolding list_at
list-exact = inside {t = 48} (all_of body_at) (λ c v. IsListBody c.offset c.octets v) (all_in body-exact) (all-out body-exact tt)

pub list-in : (xs : List ℕ) (v : Listing) → list_of xs ≡ Ok v → IsList xs v
unfolding list_of
list-in xs v e = all_in list-exact (record { octets = xs; offset = 0 }) v e

pub list-out : (xs : List ℕ) (v : Listing) → IsList xs v → list_of xs ≡ Ok v
unfolding list_of
list-out xs v h = all-out list-exact tt (record { octets = xs; offset = 0 }) v h
