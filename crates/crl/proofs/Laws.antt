-- What a result that equals the meaning says by the law. Assumes nothing.
use Rattle.std.proofs.Common.{◌≡◌, ℕ, ltb, List, [], length, Some, Ok, Err, Result, sym, ap, ◌∙◌, subst, inl, inr, arith, MatchResult}
use Rattle.std.proofs.lemmas.Bool.{ltb-false, le-ltb, cond-false, cond_both}
use Rattle.refusals.specs.declared.grounds.Refusal.{Refusal}
use Rattle.refusals.specs.Refusals.{Flaw, refused}
use Rattle.items.specs.Parts.{Piece}
use Rattle.der.specs.Reads.{Both}
use Rattle.entry.specs.Entries.{Line, entry_at}
use Rattle.list.specs.declared.signed.RevocationList.{RevocationList}
use Rattle.block.specs.Blocks.{Lines, Held}
use Rattle.list.specs.Lists.{Listing, listing_of, list_of}
use Rattle.grammar.specs.Grammar.{Elements}
use Rattle.grammar.proofs.Combine.{tag-long}
use Rattle.grammar.proofs.RunExact.{plain_out}
use Rattle.crl.specs.Profile.{IsEntry, IsEntries}
use Rattle.crl.specs.Law.{in_list, read_of, answered, Keeps, lines_in, ok_or, EntriesStand}
use Rattle.crl.proofs.Entered.{entry-exact}
use Rattle.crl.proofs.Listed.{list-in, list-out}

in-list-ok : {V : Type 0} (r : Result V Flaw) (v : V) → in_list r ≡ Ok v → r ≡ Ok v
in-list-ok (Ok x) v e = let j : x ≡ v = cc in ap (λ y. Ok y) j
in-list-ok (Err f) v e = absurd (let z : ◌≡◌ {A = ℕ} 0 1 = cc in omega arith)

read-in : (xs : List ℕ) (v : Listing) → read_of xs ≡ Ok v → Keeps xs v
unfolding read_of
read-in xs v =
    cond_both (ltb 65535 (length xs)) (Err (refused 3 1 0)) (in_list (list_of xs)) (λ r. r ≡ Ok v → Keeps xs v)
    (λ h e. absurd (let z : ◌≡◌ {A = ℕ} 0 1 = cc in omega arith))
    (λ h e. record { short = ltb-false 65535 (length xs) h; list = list-in xs v (in-list-ok (list_of xs) v e) })

read_out : (xs : List ℕ) (v : Listing) → Keeps xs v → read_of xs ≡ Ok v
unfolding read_of
read_out xs v k = cond-false (ltb 65535 (length xs)) _ _ (le-ltb 65535 (length xs) k.short) ∙ ap in_list (list-out xs v k.list)

pub lawful : (xs : List ℕ) (r : Result RevocationList Refusal) → answered listing_of r ≡ read_of xs → MatchResult r (λ v. Keeps xs (listing_of v)) (λ _. (v : Listing) → Keeps xs v → ⊥)
lawful xs (Ok v) e = read-in xs (listing_of v) (sym e)
lawful xs (Err f) e = λ v h. let k = read_out xs v h in let z : ◌≡◌ {A = ℕ} 0 1 = cc in omega arith

-- the run of some entries
run-stands : (p : ℕ) (w : List ℕ) (l : Lines) (c : Piece) → IsEntries p w l → l.run ≡ Some c → Elements IsEntry c.offset c.octets (lines_in (Some c)) × (l.count ≡ length (lines_in (Some c)))
run-stands p w l c (inl h) e = absurd (let f = ap (λ (x : Lines). x.run) h.1 in let z : ◌≡◌ {A = ℕ} 0 1 = cc in omega arith)
run-stands p w l c (inr h) e =
    let es = h.2.0 in
    let f : l.run ≡ Some h.0 = ap (λ (x : Lines). x.run) h.2.2 in
    let j : h.0 ≡ c = cc in
    let k : Elements IsEntry c.offset c.octets es = subst (λ (x : Piece). Elements IsEntry x.offset x.octets es) j h.2.1 in
    let r : lines_in (Some c) ≡ es = ap (λ (q : Result (Both (List Line) (Unit {0})) Flaw). (ok_or (record { one = []; two = tt }) q).one) (plain_out entry_at IsEntry entry-exact (tag-long 48 _) c es k) in
    (subst (λ x. Elements IsEntry c.offset c.octets x) (sym r) k, ap (λ (x : Lines). x.count) h.2.2 ∙ ap length (sym r))

pub entries-stand : EntriesStand
entries-stand xs v c h e =
    let s = h.2 in
    let ev = s.1.1.3.1.1.3.2 in
    let b = s.1.1.2.2 in
    let i = b.1 in
    let t = i.1.1.3.1.1.3.1.1.3.1.1.3.1.1.3 in
    let f : v.signed.held.entries ≡ t.0 = ap (λ (x : Listing). x.signed.held.entries) ev ∙ (ap (λ x. x.held.entries) b.2 ∙ ap (λ (x : Held). x.entries) t.1.1.3.2) in
    let k = run-stands _ _ t.0 c t.1.1.2 (sym (ap (λ (x : Lines). x.run) f) ∙ e) in
    (k.0, ap (λ (x : Lines). x.count) f ∙ k.1)
