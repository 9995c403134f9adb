-- The last step that begins by x is the one that holds x.
use Rattle.std.proofs.Common.{◌≡◌, ℕ, zero, suc, ◌+◌, ◌-◌, ◌<◌, ◌≤◌, leb, Some, None, Option, refl, ap, subst, inl, inr, arith}
use Rattle.std.specs.Option.{MatchOption, unwrap_or}
use Rattle.std.proofs.lemmas.Bool.{cond_both, leb-true, leb-false, cases_lt, cases_order}
use Rattle.calendar.specs.Last.{last_within}

pub last-le : (S : ℕ → ℕ) (n x : ℕ) → last_within S n x ≤ n
unfolding last_within
last-le S zero x = omega arith
last-le S (suc n) x =
    cond_both (leb (S (suc n)) x) (suc n) (last_within S n x) (λ k. k ≤ suc n)
    (λ e. omega arith)
    (λ e. let h = last-le S n x in omega arith)

pub last-begun : (S : ℕ → ℕ) (n x : ℕ) → S 0 ≤ x → S (last_within S n x) ≤ x
unfolding last_within
last-begun S zero x h = h
last-begun S (suc n) x h =
    cond_both (leb (S (suc n)) x) (suc n) (last_within S n x) (λ k. S k ≤ x)
    (λ e. leb-true _ _ e)
    (λ e. last-begun S n x h)

pub last-open : (S : ℕ → ℕ) (n x : ℕ) → x < S (suc n) → x < S (suc (last_within S n x))
unfolding last_within
last-open S zero x h = h
last-open S (suc n) x h =
    cond_both (leb (S (suc n)) x) (suc n) (last_within S n x) (λ k. x < S (suc k))
    (λ e. h)
    (λ e. last-open S n x (leb-false _ _ e))

abbrev pub Rises : (ℕ → ℕ) → Type 0
Rises S = (k : ℕ) → S k ≤ S (suc k)

rise : (S : ℕ → ℕ) → Rises S → (a d b : ℕ) → b ≡ a + d → S a ≤ S b
rise S up a zero b e =
    let h : S a ≤ S a = omega arith in
    subst (λ k. S a ≤ S k) (let i : a ≡ b = omega arith in i) h
rise S up a (suc d) b e =
    let h = rise S up a d (a + d) refl in
    let u = up (a + d) in
    let w : S a ≤ S (suc (a + d)) = omega arith in
    subst (λ k. S a ≤ S k) (let i : suc (a + d) ≡ b = omega arith in i) w

pub rises : (S : ℕ → ℕ) → Rises S → (a b : ℕ) → a ≤ b → S a ≤ S b
rises S up a b h = rise S up a (b - a) b (omega arith)

one-step : (S : ℕ → ℕ) → Rises S → (a b x : ℕ)
    → S a ≤ x → x < S (suc a) → S b ≤ x → x < S (suc b) → a ≡ b
one-step S up a b x la ua lb ub =
    elim (cases_order a b) [
      | inl e ↦ e
      | inr (inl h) ↦ absurd (let r = rises S up (suc a) b h in omega arith)
      | inr (inr h) ↦ absurd (let r = rises S up (suc b) a h in omega arith)
    ]

-- the step that holds x is the last that begins by x
pub last-is : (S : ℕ → ℕ) → Rises S → (n k x : ℕ)
    → S 0 ≤ x → x < S (suc n) → S k ≤ x → x < S (suc k) → k ≡ last_within S n x
last-is S up n k x z t l u = one-step S up k (last_within S n x) x l u (last-begun S n x z) (last-open S n x t)

-- each step from a up to before i ends by x
abbrev pub EndBy : (ℕ → ℕ) → ℕ → ℕ → ℕ → Type 0
EndBy S x a i = (k : ℕ) → a ≤ k → k < i → S (k + 1) ≤ x

begun_after : (S : ℕ → ℕ) (x a i : ℕ) → a ≤ i → S a ≤ x → EndBy S x a i → S i ≤ x
begun_after S x a i le h all =
    elim (cases_lt a i) [
      | inl l ↦
          let e : i - 1 + 1 ≡ i = omega arith in
          let b = all (i - 1) (omega arith) (omega arith) in
          omega (arith, ap S e)
      | inr l ↦ let e : i ≡ a = omega arith in omega (arith, ap S e)
    ]

-- the first step from a on that ends after x, or n, is the one that holds x
pub first_holds : (S : ℕ → ℕ) (x a n : ℕ) → a ≤ n → S a ≤ x → x < S (n + 1) → (r : Option ℕ)
    → MatchOption r (EndBy S x a n) (λ i. (a ≤ i) × (i < n) × (x < S (i + 1)) × EndBy S x a i)
    → (a ≤ unwrap_or r n) × (unwrap_or r n ≤ n) × (S (unwrap_or r n) ≤ x) × (x < S (unwrap_or r n + 1))
first_holds S x a n le h u None all = (le, omega arith, begun_after S x a n le h all, u)
first_holds S x a n le h u (Some i) f = (f.0, omega (arith, f.1), begun_after S x a i f.0 h f.3, f.2)
