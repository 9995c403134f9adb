-- A header is read exactly where one stands. Assumes nothing.
use Rattle.std.proofs.Common.{◌≡◌, ℕ, ◌+◌, ◌*◌, ◌%◌, ◌<◌, ◌≤◌, false, eqb, ltb, List, [], ◌∷◌, ◌++◌, length, Some, sym, refl, subst, inl, inr, arith}
use Rattle.std.proofs.lemmas.Bool.Decides.{nat_tests}
use Rattle.std.proofs.lemmas.Bool.{cases_Bool, ltb-true, eqb-true}
use Rattle.items.specs.declared.item.Head.{Head}
use Rattle.items.specs.Headers.{head_of}
use Rattle.grammar.specs.Items.{LengthIs}
use Rattle.grammar.specs.Items.LengthIs.{short, one, two}

pub head-full : (t : ℕ) (len : List ℕ) (n : ℕ) (ys : List ℕ) → eqb (t % 32) 31 ≡ false → LengthIs len n → n ≤ length ys → head_of (t ∷ (len ++ ys)) ≡ Some (record { start = 1 + length len; len = n })
head-full t _ n ys low (short h) fits = grind (arith, nat_tests)
head-full t _ n ys low (one h) fits = grind (arith, nat_tests)
head-full t _ n ys low (two {a} {b} e h) fits = grind (arith, nat_tests)

pub record Headed (xs : List ℕ) (h : Head) : Type 0 where
  pub tag : ℕ
  pub len : List ℕ
  pub body : List ℕ
  pub octets : xs ≡ tag ∷ (len ++ body)
  pub low : eqb (tag % 32) 31 ≡ false
  pub means : LengthIs len h.len
  pub start : h.start ≡ 1 + length len
  pub fits : h.len ≤ length body

head-short : (t n : ℕ) (ys : List ℕ) (h : Head) → head_of (t ∷ n ∷ ys) ≡ Some h → n < 128 → Headed (t ∷ n ∷ ys) h
head-short t n ys h e p =
    let k : h.len ≡ n = grind (arith, nat_tests) in
    record { tag = t; len = n ∷ []; body = ys; octets = refl; low = grind (arith, nat_tests); means = subst (λ m. LengthIs (n ∷ []) m) (sym k) (short p); start = grind (arith, nat_tests); fits = grind (arith, nat_tests) }

head-one : (t : ℕ) (ys : List ℕ) (h : Head) → head_of (t ∷ 129 ∷ ys) ≡ Some h → Headed (t ∷ 129 ∷ ys) h
head-one t [] h e = absurd (let z : ◌≡◌ {A = ℕ} 0 1 = grind (arith, nat_tests) in omega arith)
head-one t (y ∷ ys) h e =
    let k : h.len ≡ y = grind (arith, nat_tests) in
    let l : 128 ≤ y = grind (arith, nat_tests) in
    record { tag = t; len = 129 ∷ y ∷ []; body = ys; octets = refl; low = grind (arith, nat_tests); means = subst (λ m. LengthIs (129 ∷ y ∷ []) m) (sym k) (one l); start = grind (arith, nat_tests); fits = grind (arith, nat_tests) }

head-two : (t : ℕ) (ys : List ℕ) (h : Head) → head_of (t ∷ 130 ∷ ys) ≡ Some h → Headed (t ∷ 130 ∷ ys) h
head-two t [] h e = absurd (let z : ◌≡◌ {A = ℕ} 0 1 = grind (arith, nat_tests) in omega arith)
head-two t (y ∷ []) h e = absurd (let z : ◌≡◌ {A = ℕ} 0 1 = grind (arith, nat_tests) in omega arith)
head-two t (y ∷ x ∷ ys) h e =
    let k : h.len ≡ y * 256 + x = grind (arith, nat_tests) in
    let l : 256 ≤ y * 256 + x = grind (arith, nat_tests) in
    record { tag = t; len = 130 ∷ y ∷ x ∷ []; body = ys; octets = refl; low = grind (arith, nat_tests); means = two k (omega arith); start = grind (arith, nat_tests); fits = grind (arith, nat_tests) }

pub head-sound : (xs : List ℕ) (h : Head) → head_of xs ≡ Some h → Headed xs h
head-sound [] h e = absurd (let z : ◌≡◌ {A = ℕ} 0 1 = grind (arith, nat_tests) in omega arith)
head-sound (t ∷ []) h e = absurd (let z : ◌≡◌ {A = ℕ} 0 1 = grind (arith, nat_tests) in omega arith)
head-sound (t ∷ n ∷ ys) h e =
    elim (cases_Bool (ltb n 128)) [
      | inl p ↦ head-short t n ys h e (ltb-true n 128 p)
      | inr p ↦ elim (cases_Bool (eqb n 129)) [
        | inl q ↦ let k : n ≡ 129 = eqb-true n 129 q in subst (λ m. Headed (t ∷ m ∷ ys) h) (sym k) (head-one t ys h (subst (λ m. head_of (t ∷ m ∷ ys) ≡ Some h) k e))
        | inr q ↦ elim (cases_Bool (eqb n 130)) [
          | inl r ↦ let k : n ≡ 130 = eqb-true n 130 r in subst (λ m. Headed (t ∷ m ∷ ys) h) (sym k) (head-two t ys h (subst (λ m. head_of (t ∷ m ∷ ys) ≡ Some h) k e))
          | inr r ↦ absurd (let z : ◌≡◌ {A = ℕ} 0 1 = grind (arith, nat_tests) in omega arith)
        ]
      ]
    ]
