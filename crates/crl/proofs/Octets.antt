-- Octets that are the same. Assumes nothing.
use Rattle.std.proofs.Common.{◌≡◌, ℕ, true, ◌&&◌, eqb, List, [], ◌∷◌, refl, ap, ◌∙◌, subst, arith}
use Rattle.std.specs.Str.{bytes_eq}
use Rattle.std.proofs.lemmas.Bool.{and_parts, eqb-true, eq-eqb}

pub same-is : (xs ys : List ℕ) → bytes_eq xs ys ≡ true → xs ≡ ys
same-is [] [] h = refl
same-is [] (y ∷ ys) h = absurd (let z : ◌≡◌ {A = ℕ} 0 1 = cc in omega arith)
same-is (x ∷ xs) [] h = absurd (let z : ◌≡◌ {A = ℕ} 0 1 = cc in omega arith)
same-is (x ∷ xs) (y ∷ ys) h =
    let p = and_parts (eqb x y) (bytes_eq xs ys) h in
    let e = eqb-true x y p.0 in
    let f = same-is xs ys p.1 in cc

self : (xs : List ℕ) → bytes_eq xs xs ≡ true
self [] = refl
self (x ∷ xs) = ap (λ b. b && bytes_eq xs xs) (eq-eqb x x refl) ∙ self xs

pub is_same : (xs ys : List ℕ) → xs ≡ ys → bytes_eq xs ys ≡ true
is_same xs ys h = subst (λ ys. bytes_eq xs ys ≡ true) h (self xs)
