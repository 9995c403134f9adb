-- Texts that have a form, and digits laid into it.
use Rattle.std.proofs.Common.{◌≡◌, ℕ, zero, suc, Bool, true, false, cond, ◌&&◌, ◌||◌, eqb, ltb, List, [], ◌∷◌, length, get_or, sym, refl, ap, ◌∙◌, inl, inr, arith}
use Rattle.std.specs.List.{list_all, zip}
use Rattle.std.proofs.lemmas.Bool.{cases_Bool, and_parts, and_from, both_ways, eqb-true, eq-eqb, le-ltb, cond-true, cond-false}
use Rattle.std.proofs.lemmas.Bool.Decides.{nat_tests}
use Rattle.moment.specs.Forms.{digit, fills, fits, lay, before}

pub fits-length : (form xs : List ℕ) → fits form xs ≡ true → length xs ≡ length form
unfolding fits
fits-length [] [] e = refl
fits-length [] (x ∷ xs) e = absurd (both_ways false refl e)
fits-length (f ∷ fs) [] e = absurd (both_ways false refl e)
fits-length (f ∷ fs) (x ∷ xs) e = ap suc (fits-length fs xs (and_parts (fills f x) (fits fs xs) e).1)

pub longer_fits_not : (form xs : List ℕ) → (length form ≡ length xs → ⊥) → eqb (length form) (length xs) ≡ fits form xs
longer_fits_not form xs n =
    elim (cases_Bool (fits form xs)) [ inl t ↦ absurd (n (sym (fits-length form xs t))) | inr f ↦ grind (arith, nat_tests) ]

-- what fits a form has a digit where the form has a 0
pub digit_at : (form xs : List ℕ) (k : ℕ) → fits form xs ≡ true → get_or form k 0 ≡ 48 → digit (get_or xs k 0) ≡ true
unfolding fits
digit_at [] xs k e z = absurd (omega arith)
digit_at (f ∷ fs) [] k e z = absurd (both_ways false refl e)
digit_at (f ∷ fs) (x ∷ xs) zero e z =
    sym (cond-true (eqb f 48) (digit x) (eqb x f) (eq-eqb f 48 z)) ∙ (and_parts (fills f x) (fits fs xs) e).0
digit_at (f ∷ fs) (x ∷ xs) (suc k) e z = digit_at fs xs k (and_parts (fills f x) (fits fs xs) e).1 z

-- a text as long as its form fits it where each octet may stand in its place
pub fits_by_all : (form xs : List ℕ) → length form ≡ length xs → list_all (λ p. fills p.0 p.1) (zip form xs) ≡ fits form xs
unfolding fits
fits_by_all [] [] e = refl
fits_by_all [] (x ∷ xs) e = absurd (omega arith)
fits_by_all (f ∷ fs) [] e = absurd (omega arith)
fits_by_all (f ∷ fs) (x ∷ xs) e = ap (λ b. fills f x && b) (fits_by_all fs xs (omega arith))

-- how many digits a form takes
abbrev pub slots : List ℕ → ℕ
slots [] = 0
slots (f ∷ fs) = cond (eqb f 48) (suc (slots fs)) (slots fs)

abbrev pub all_digits : List ℕ → Bool
all_digits [] = true
all_digits (d ∷ ds) = digit d && all_digits ds

-- a 0 of a form takes a digit, and any other octet itself
pub laid-fits : (form ds : List ℕ) → slots form ≡ length ds → all_digits ds ≡ true → fits form (lay form ds) ≡ true
unfolding fits lay
laid-fits [] ds e a = refl
laid-fits (f ∷ fs) [] e a =
    elim (cases_Bool (eqb f 48)) [
      | inl t ↦ absurd (let n = cond-true (eqb f 48) (suc (slots fs)) (slots fs) t in omega arith)
      | inr t ↦
          let n = cond-false (eqb f 48) (suc (slots fs)) (slots fs) t in
          and_from (fills f f) _ (cond-false (eqb f 48) (digit f) (eqb f f) t ∙ eq-eqb f f refl)
          (laid-fits fs [] (omega arith) a)
    ]
laid-fits (f ∷ fs) (d ∷ ds) e a =
    elim (cases_Bool (eqb f 48)) [
      | inl t ↦
          let n = cond-true (eqb f 48) (suc (slots fs)) (slots fs) t in
          let p = and_parts (digit d) (all_digits ds) a in
          ap (fits (f ∷ fs)) (cond-true (eqb f 48) (d ∷ lay fs ds) (f ∷ lay fs (d ∷ ds)) t)
          ∙ and_from (fills f d) _ (cond-true (eqb f 48) (digit d) (eqb d f) t ∙ p.0)
          (laid-fits fs ds (omega arith) p.1)
      | inr t ↦
          let n = cond-false (eqb f 48) (suc (slots fs)) (slots fs) t in
          ap (fits (f ∷ fs)) (cond-false (eqb f 48) (d ∷ lay fs ds) (f ∷ lay fs (d ∷ ds)) t)
          ∙ and_from (fills f f) _ (cond-false (eqb f 48) (digit f) (eqb f f) t ∙ eq-eqb f f refl)
          (laid-fits fs (d ∷ ds) (omega arith) a)
    ]

-- what a text has where its form has zeros
abbrev pub bare : List ℕ → List ℕ → List ℕ
bare [] xs = []
bare (f ∷ fs) [] = []
bare (f ∷ fs) (x ∷ xs) = cond (eqb f 48) (x ∷ bare fs xs) (bare fs xs)

lay-other : (f : ℕ) (fs ds : List ℕ) → eqb f 48 ≡ false → lay (f ∷ fs) ds ≡ f ∷ lay fs ds
unfolding lay
lay-other f fs [] t = refl
lay-other f fs (d ∷ ds) t = cond-false (eqb f 48) (d ∷ lay fs ds) (f ∷ lay fs (d ∷ ds)) t

-- a text is its form with its digits
pub laid-bare : (form xs : List ℕ) → fits form xs ≡ true → lay form (bare form xs) ≡ xs
unfolding fits lay
laid-bare [] [] e = refl
laid-bare [] (x ∷ xs) e = absurd (both_ways false refl e)
laid-bare (f ∷ fs) [] e = absurd (both_ways false refl e)
laid-bare (f ∷ fs) (x ∷ xs) e =
    let p = and_parts (fills f x) (fits fs xs) e in
    elim (cases_Bool (eqb f 48)) [
      | inl t ↦
          ap (lay (f ∷ fs)) (cond-true (eqb f 48) (x ∷ bare fs xs) (bare fs xs) t)
          ∙ cond-true (eqb f 48) (x ∷ lay fs (bare fs xs)) (f ∷ lay fs (x ∷ bare fs xs)) t
          ∙ ap (λ ys. x ∷ ys) (laid-bare fs xs p.1)
      | inr t ↦
          let g : x ≡ f = eqb-true x f (sym (cond-false (eqb f 48) (digit x) (eqb x f) t) ∙ p.0) in
          ap (lay (f ∷ fs)) (cond-false (eqb f 48) (x ∷ bare fs xs) (bare fs xs) t)
          ∙ lay-other f fs (bare fs xs) t
          ∙ ap (λ y. y ∷ lay fs (bare fs xs)) (sym g)
          ∙ ap (λ ys. x ∷ ys) (laid-bare fs xs p.1)
    ]

same_first : (x : ℕ) (xs ys : List ℕ) → before (x ∷ xs) (x ∷ ys) ≡ before xs ys
same_first x xs ys =
    ap (λ c. c || (eqb x x && before xs ys)) (le-ltb x x (omega arith)) ∙ ap (λ c. c && before xs ys) (eq-eqb x x refl)

-- the order of texts of one form is the order of their digits
pub laid-order : (form ds es : List ℕ) → slots form ≡ length ds → slots form ≡ length es
    → before (lay form ds) (lay form es) ≡ before ds es
unfolding lay
laid-order [] [] [] a b = refl
laid-order [] (d ∷ ds) es a b = absurd (omega arith)
laid-order [] [] (e ∷ es) a b = absurd (omega arith)
laid-order (f ∷ fs) [] [] a b =
    elim (cases_Bool (eqb f 48)) [
      | inl t ↦ absurd (let n = cond-true (eqb f 48) (suc (slots fs)) (slots fs) t in omega arith)
      | inr t ↦
          let n = cond-false (eqb f 48) (suc (slots fs)) (slots fs) t in
          same_first f (lay fs []) (lay fs []) ∙ laid-order fs [] [] (omega arith) (omega arith)
    ]
laid-order (f ∷ fs) [] (e ∷ es) a b = absurd (omega arith)
laid-order (f ∷ fs) (d ∷ ds) [] a b = absurd (omega arith)
laid-order (f ∷ fs) (d ∷ ds) (e ∷ es) a b =
    elim (cases_Bool (eqb f 48)) [
      | inl t ↦
          let n = cond-true (eqb f 48) (suc (slots fs)) (slots fs) t in
          let g = laid-order fs ds es (omega arith) (omega arith) in
          ap (λ xs. before xs (lay (f ∷ fs) (e ∷ es))) (cond-true (eqb f 48) (d ∷ lay fs ds) (f ∷ lay fs (d ∷ ds)) t)
          ∙ ap (before (d ∷ lay fs ds)) (cond-true (eqb f 48) (e ∷ lay fs es) (f ∷ lay fs (e ∷ es)) t)
          ∙ ap (λ c. ltb d e || (eqb d e && c)) g
      | inr t ↦
          let n = cond-false (eqb f 48) (suc (slots fs)) (slots fs) t in
          ap (λ xs. before xs (lay (f ∷ fs) (e ∷ es))) (lay-other f fs (d ∷ ds) t)
          ∙ ap (before (f ∷ lay fs (d ∷ ds))) (lay-other f fs (e ∷ es) t)
          ∙ same_first f (lay fs (d ∷ ds)) (lay fs (e ∷ es))
          ∙ laid-order fs (d ∷ ds) (e ∷ es) (omega arith) (omega arith)
    ]
