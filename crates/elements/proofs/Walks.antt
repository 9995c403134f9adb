-- A walk whose kind is a function, told by that function. Assumes nothing.
use Rattle.std.proofs.Common.{◌≡◌, ℕ, zero, suc, ◌≤◌, cond, eqb, List, [], ◌∷◌, map, length, Some, None, Ok, Err, Result, sym, ap, ◌∙◌, arith}
use Rattle.std.proofs.lemmas.Bool.{eq-eqb, ne_eqb, cond-true, cond-false}
use Rattle.refusals.specs.declared.grounds.Fault.{Fault}
use Rattle.refusals.specs.Refusals.{Flaw, flaw_of}
use Rattle.der.specs.Reads.{Left, Got, Both, bind, told_both}
use Rattle.elements.specs.Runs.{Ran, Walked, run_at, consed, laid}
use Rattle.elements.specs.Runs.Ran.{last, stopped, more}

module _ {S E V T : Type 0} (f : E → V) (g : S → T) (m : T → Left → Result (Got (Both V T)) Flaw) where
  -- the kind that is the function's graph
  abbrev graph : S → Left → Result E Fault → S → Left → Type 0
  graph a s r b t = told_both f g r b t ≡ m (g a) s

  -- what the first element makes of a run
  first : (k : ℕ) (a : S) (s : Left) (r : Result E Fault) (b : S) (t : Left) → graph a s r b t
      → run_at (suc k) m (g a) s ≡ bind (told_both f g r b t) (λ v t. cond (eqb (length t.rest) 0) (Ok (record { one = v.one ∷ []; two = v.two })) (consed v.one (run_at k m v.two t)))
  unfolding run_at
  first k a s r b t h = ap (λ r. bind r (λ v t. cond (eqb (length t.rest) 0) (Ok (record { one = v.one ∷ []; two = v.two })) (consed v.one (run_at k m v.two t)))) (sym h)

  run_end : (a : S) (s : Left) (es : List E) (z : S) (u : Left) → Ran graph a s es None z u → (k : ℕ) → length s.rest ≤ k → run_at (suc k) m (g a) s ≡ Ok (record { one = map f es; two = g z })
  run_end a s _ z u (last {e = e} {t = t} h0 h) k le = first k a s (Ok e) z t h0 ∙ cond-true (eqb (length t.rest) 0) _ _ (eq-eqb _ 0 h)
  run_end a s _ z u (more {e = e} {b = b} {t = t} {es = es} h0 l h ran) zero le = absurd (omega arith)
  run_end a s _ z u (more {e = e} {b = b} {t = t} {es = es} h0 l h ran) (suc k) le =
      first (suc k) a s (Ok e) b t h0 ∙ (cond-false (eqb (length t.rest) 0) _ _ (ne_eqb _ 0 (λ q. omega arith)) ∙ ap (consed (f e)) (run_end b t es z u ran k (omega arith)))

  run-stop : (a : S) (s : Left) (es : List E) (x : Fault) (z : S) (u : Left) → Ran graph a s es (Some x) z u → (k : ℕ) → length s.rest ≤ k → run_at (suc k) m (g a) s ≡ Err (flaw_of x)
  run-stop a s _ x z u (stopped {t = t} h0) k le = first k a s (Err x) z t h0
  run-stop a s _ x z u (more {e = e} {b = b} {t = t} {es = es} h0 l h ran) zero le = absurd (omega arith)
  run-stop a s _ x z u (more {e = e} {b = b} {t = t} {es = es} h0 l h ran) (suc k) le =
      first (suc k) a s (Ok e) b t h0 ∙ (cond-false (eqb (length t.rest) 0) _ _ (ne_eqb _ 0 (λ q. omega arith)) ∙ ap (consed (f e)) (run-stop b t es x z u ran k (omega arith)))

  pub walk-ok : (a : S) (s : Left) (n : ℕ) (z : S) (u : Left) (before after : List E) → Walked graph a s (Ok n) z u before after
      → (es : List E) × (n ≡ length es) × (run_at (suc (length s.rest)) m (g a) s ≡ Ok (record { one = map f es; two = g z })) × (after ≡ laid es before)
  walk-ok a s n z u before after w = (w.0, w.1, run_end a s w.0 z u w.2 (length s.rest) (omega arith), w.3)

  pub walk-err : (a : S) (s : Left) (x : Fault) (z : S) (u : Left) (before after : List E) → Walked graph a s (Err x) z u before after → run_at (suc (length s.rest)) m (g a) s ≡ Err (flaw_of x)
  walk-err a s x z u before after w = run-stop a s w.0 x z u w.1 (length s.rest) (omega arith)
