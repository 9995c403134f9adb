-- One element more of a run, and of the memory that keeps its elements. Assumes nothing.
use Rattle.std.proofs.Common.{◌≡◌, ℕ, suc, ◌+◌, ◌≤◌, ltb, List, [], ◌∷◌, ◌++◌, length, set, Some, None, Ok, Err, Result, sym, refl, ap, ◌∙◌, subst, inl, inr, append_assoc, append-nil, arith, length-append}
use Rattle.std.proofs.lemmas.Bool.{cases_lt, lt-ltb, le-ltb, cond-true, cond-false}
use Rattle.refusals.specs.declared.grounds.Fault.{Fault}
use Rattle.der.specs.Reads.{Left}
use Rattle.elements.specs.Runs.{Walked, Onward, laid, kept}
use Rattle.elements.specs.Runs.Ran.{last, stopped, more}

pub laid_none : {E : Type 0} (out : List E) → laid [] out ≡ out
unfolding laid
laid_none out = refl

kept-past : {E : Type 0} (d : E) (out : List E) (n : ℕ) (e : E) → kept (d ∷ out) (suc n) e ≡ d ∷ kept out n e
kept-past d out n e =
    elim (cases_lt n (length out)) [
      | inl h ↦ cond-true (ltb (suc n) (suc (length out))) _ _ (lt-ltb _ _ (omega arith)) ∙ ap (λ w. d ∷ w) (sym (cond-true (ltb n (length out)) (set out n e) out (lt-ltb _ _ h)))
      | inr h ↦ cond-false (ltb (suc n) (suc (length out))) _ _ (le-ltb _ _ (omega arith)) ∙ ap (λ w. d ∷ w) (sym (cond-false (ltb n (length out)) (set out n e) out (le-ltb _ _ h)))
    ]

-- the memory keeps one element more, where it has a place for it
pub laid_more : {E : Type 0} (es : List E) (e : E) (out : List E) → kept (laid es out) (length es) e ≡ laid (es ++ e ∷ []) out
unfolding laid
laid_more [] e [] = refl
laid_more [] e (x ∷ out) = cond-true (ltb 0 (suc (length out))) (e ∷ out) (x ∷ out) (lt-ltb 0 (suc (length out)) (omega arith))
laid_more (d ∷ es) e [] = cond-false (ltb (suc (length es)) 0) _ _ (le-ltb _ 0 (omega arith))
laid_more (d ∷ es) e (x ∷ out) = kept-past d (laid es out) (length es) e ∙ ap (λ w. d ∷ w) (laid_more es e out)

module _ {S E : Type 0} (M : S → Left → Result E Fault → S → Left → Type 0) (a : S) (s : Left) (out : List E) where
  pub onward-none : Onward M a s 0 a s out out
  onward-none = ([], refl, (λ es o z u r. r), sym (laid_none out))

  module _ (n : ℕ) (b : S) (t : Left) (now : List E) (o : Onward M a s n b t out now) (r : Result E Fault) (c : S) (u : Left) (m : M b t r c u) where
    -- what the memory holds after one more
    next-now : (e : E) → kept now n e ≡ laid (o.0 ++ e ∷ []) out
    next-now e = ap (λ k. kept now k e) o.1 ∙ ap (λ w. kept w (length o.0) e) o.3 ∙ laid_more o.0 e out

    pub onward-more : (e : E) → r ≡ Ok e → length u.rest + 2 ≤ length t.rest → 1 ≤ length u.rest → Onward M a s (n + 1) c u out (kept now n e)
    onward-more e was l h = (
      o.0 ++ e ∷ [],
      simp length-append (omega (arith, o.1)),
      (λ es x z v k. let j = o.2 (e ∷ es) x z v (more (subst (λ q. M b t q c u) was m) l h k) in rw append_assoc j),
      next-now e,
    )

    pub onward-last : (e : E) → r ≡ Ok e → length u.rest ≡ 0 → Walked M a s (Ok (n + 1)) c u out (kept now n e)
    onward-last e was h =
        (o.0 ++ e ∷ [], simp length-append (omega (arith, o.1)), o.2 (e ∷ []) None c u (last (subst (λ q. M b t q c u) was m) h), next-now e)

    pub onward-stop : (f : Fault) → r ≡ Err f → Walked M a s (Err f) c u out now
    onward-stop f was = (o.0 ++ [], o.2 [] (Some f) c u (stopped (subst (λ q. M b t q c u) was m)), o.3 ∙ ap (λ es. laid es out) (sym (append-nil o.0)))
