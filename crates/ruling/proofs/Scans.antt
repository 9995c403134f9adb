-- A serial cut at its size, and what folds over rulings and entries come to.
use Rattle.std.proofs.Common.{◌≡◌, ℕ, ◌+◌, min, cond, List, [], ◌∷◌, map, length, take, Option, sym, refl, ap, ◌∙◌, ⊎_elim, arith}
use Rattle.std.specs.Fn.{Called}
use Rattle.std.specs.Iterator.{Drains}
use Rattle.std.specs.List.{fold, FoldsTo, enumerate_from}
use Rattle.std.proofs.lemmas.Fn.{fold_over}
use Rattle.std.proofs.lemmas.Iterator.{YieldsList}
use Rattle.std.proofs.lemmas.List.{take_all}
use Rattle.std.proofs.lemmas.List.Sums.{fold_push}
use Rattle.std.proofs.lemmas.Bool.{cases_lt}
use denote.Param.Members.{Mut}
use Rattle.std.specs.Str.{bytes_eq}
use Rattle.ruling.specs.Cases.{Told, Dated, entry_of, serial_of, ruling_of}
use Rattle.ruling.specs.Rule.{earliest_in, earlier_of}
use Rattle.ruling.specs.Answers.{heard, moved}
use Rattle.ruling.specs.declared.cases.EntryLine.{EntryLine}
use Rattle.ruling.specs.declared.cases.Ruling.{Ruling}

-- the octets of a line are 20, so that a greater size takes no more
pub take-size : (m n : ℕ) (xs : List ℕ) → length xs ≡ 20 → m ≡ min n 20 → take m xs ≡ take n xs
take-size m n xs h e =
    ⊎_elim (λ lt. ap (λ k. take k xs) (omega arith)) (λ le. take_all m xs (omega arith) ∙ sym (take_all n xs (omega arith)))
    (cases_lt n 20)

-- what a chain folds to, as `view` sees it, by what each call gives
pub folded_by : {S A B F C D : Type 0} {steps : S → Option A → S → Type 0} {v : A → B} {g : Mut F (C × (A × Unit {0})) C} {s : S} {all : List B}
    → (view : C → D) (h : D → B → D) (f : F) (init r : C)
    → (xs : List A) × (q : F) × Drains steps s xs × FoldsTo {P = F × C} (λ a x b. Called g a.0 (a.1, (x, tt)) b.1 b.0) (f, init) xs (q, r)
    → YieldsList steps v s all
    → ((a : C) (x : A) (b : C) (q : F) → Called g f (a, (x, tt)) b q → (view b ≡ h (view a) (v x)) × (q ≡ f))
    → view r ≡ fold h (view init) all
folded_by {S} {A} {B} {F} {C} {D} {steps} {v} {g} {s} {all} view h f init r ran y step =
    fold_over steps v g (λ ys c. view c ≡ fold h (view init) ys) f
    (λ ys a x b q e k.
    let m = step a x b q k in
    (m.0 ∙ ap (λ d. h d (v x)) e ∙ sym (fold_push h (view init) ys (v x)), m.1))
    s all init r y.runs refl ran

-- each ruling heard with its list's number
pub heard_folded : (k : ℕ) (rs : List Ruling) (a : Told)
    → fold (λ t p. moved p.0 (ruling_of p.1) t) a (enumerate_from k rs) ≡ heard k (map ruling_of rs) a
unfolding heard
heard_folded k [] a = refl
heard_folded k (r ∷ rs) a = heard_folded (k + 1) rs (moved k (ruling_of r) a)

-- the earliest of a serial's entries, entry by entry
pub earliest_folded : (s : List ℕ) (es : List EntryLine) (found : Option Dated)
    → fold (λ t e. cond (bytes_eq (serial_of e) s) (earlier_of t (entry_of e)) t) found es ≡ earliest_in s (map entry_of es) found
unfolding earliest_in
earliest_folded s [] found = refl
earliest_folded s (e ∷ es) found = earliest_folded s es (cond (bytes_eq (serial_of e) s) (earlier_of found (entry_of e)) found)
