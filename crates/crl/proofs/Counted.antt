-- Entries that are counted off a run. Assumes nothing.
use Rattle.std.proofs.Common.{◌≡◌, ℕ, zero, suc, ◌+◌, ◌^◌, ◌<◌, ltb, List, [], ◌∷◌, ◌++◌, length, Some, None, Ok, Err, Option, Result, sym, refl, ap, ◌∙◌, append-nil, length-append, arith, rules}
use Rattle.std.specs.Iterator.{YieldsFirstBy, MakesProgress, item_count}
use Rattle.refusals.specs.Refusals.{Flaw}
use Rattle.items.specs.Parts.{Piece}
use Rattle.der.specs.Reads.{Got, mapped}
use Rattle.entry.specs.declared.entries.Entry.{Entry}
use Rattle.entry.specs.Entries.{Line, line_of}
use Rattle.crl.specs.Law.{entry_in, first_in, rest_in}
use Rattle.std.proofs.lemmas.Bool.{cond-true, lt-ltb}
use Rattle.grammar.specs.Grammar.{Elements}
use Rattle.crl.specs.Profile.{IsEntry}
use Rattle.crl.specs.Listed.{so_many, before_rest, EntriesYielded}
use Rattle.crl.proofs.Entered.{entry-exact}

-- where no entry stands, the run stays, and none is to come
rest-stays : (c : Piece) (x : Result (Got Line) Flaw) → None ≡ first_in x → rest_in c x ≡ c
rest-stays c (Ok g) e = absurd (search rules)
rest-stays c (Err f) e = refl

none-come : (n : ℕ) (c : Piece) → None ≡ first_in (entry_in c) → so_many n c ≡ []
unfolding so_many
none-come zero c e = refl
none-come (suc n) c e = ap (λ o. before_rest o (so_many n (rest_in c (entry_in c)))) (sym e)

one-comes : (n : ℕ) (c : Piece) (l : Line) → Some l ≡ first_in (entry_in c) → so_many (suc n) c ≡ l ∷ so_many n (rest_in c (entry_in c))
unfolding so_many
one-comes n c l e = ap (λ o. before_rest o (so_many n (rest_in c (entry_in c)))) (sym e)

pub none-left : (c : Piece) → so_many 0 c ≡ []
unfolding so_many
none-left c = refl

-- one step: the first entry of the run, and one fewer to come
pub steps : (n : ℕ) (c d : Piece) (r : Option Entry) → mapped line_of r ≡ first_in (entry_in c) → d ≡ rest_in c (entry_in c)
    → YieldsFirstBy line_of (λ (ls : List Line). ls) (so_many (suc n) c) r (so_many n d)
steps n c d None e h = (none-come (suc n) c e, ap (so_many n) (h ∙ rest-stays c (entry_in c) e) ∙ none-come n c e)
steps n c d (Some x) e h = one-comes n c (line_of x) e ∙ ap (λ p. line_of x ∷ so_many n p) (sym h)

-- a step that yields an entry leaves one fewer
pub goes : (can : List Line → Type 0) → ((ls : List Line) → can ls) → (s t : List Line) (r : Option Entry) → YieldsFirstBy line_of (λ (ls : List Line). ls) s r t
    → MakesProgress can (item_count (λ (ls : List Line). ls)) s r t
goes can h s t None y = record { on = λ _. tt; keeps = tt; rests = λ _. tt }
goes can h s t (Some x) y = let l = ap length y in record { on = λ _. (h t, tt, omega arith); keeps = h t; rests = λ _. tt }

-- where an entry stands in front of a run that has an end, the first step takes it and leaves the rest
front-taken : (p : ℕ) (u w r : List ℕ) (e : Line) → u ≡ w ++ r → IsEntry p w e → p + length u < 2 ^ 64
    → entry_in (record { octets = u; offset = p }) ≡ Ok (record { value = e; left = record { rest = r; offset = p + length w } })
unfolding entry_in
front-taken p u w r e was h k = cond-true (ltb (p + length u) (2 ^ 64)) _ _ (lt-ltb _ _ k) ∙ entry-exact.full _ _ tt (record { front = w; rest = was; offset = refl; shape = h })

yielded : (es : List Line) (p : ℕ) (u : List ℕ) → Elements IsEntry p u es → p + length u < 2 ^ 64 → so_many (length es) (record { octets = u; offset = p }) ≡ es
yielded [] p u h k = absurd h
yielded (e ∷ []) p u h k =
    let q = front-taken p u u [] e (sym (append-nil u)) h k in
    one-comes 0 (record { octets = u; offset = p }) e (sym (ap first_in q)) ∙ ap (λ ls. e ∷ ls) (none-left _)
yielded (e ∷ (x ∷ es)) p u h k =
    let c : Piece = record { octets = u; offset = p } in
    let q = front-taken p u h.0 h.1.0 e h.1.1 h.1.2 k in
    let l = ap length h.1.1 in
    one-comes (length (x ∷ es)) c e (sym (ap first_in q))
    ∙ ap (λ ls. e ∷ ls) (ap (λ z. so_many (length (x ∷ es)) (rest_in c z)) q ∙ yielded (x ∷ es) (p + length h.0) h.1.0 h.1.3 (omega (arith, length-append h.0 h.1.0)))

-- taking entries off a run yields those that stand in it
pub entries-yielded : EntriesYielded
entries-yielded c es h k = yielded es c.offset c.octets h k
