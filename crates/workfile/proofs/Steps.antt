-- One line more of a work file.
use Rattle.std.proofs.Common.{◌≡◌, ℕ, ◌+◌, ◌≤◌, Bool, true, false, cond, List, [], ◌∷◌, ◌++◌, length, sym, refl, ap, ◌∙◌, subst, inl, inr, append_assoc, append-nil, arith}
use Rattle.tokens.specs.Lines.{in_line, onto, lines}
use Rattle.tokens.specs.Words.{words}
use Rattle.workfile.specs.declared.commands.Command.{Command}
use Rattle.workfile.specs.declared.reading.Flaw.{Flaw}
use Rattle.workfile.specs.Files.{Found, Adds}

-- Whatever the lines from number n on add, the whole text has after what is found above them.
abbrev pub Carries : List (List ℕ) → ℕ → List (List ℕ) → List Command → List Flaw → Type 0
Carries all n left commands flaws = (cs : List Command) (fs : List Flaw) → Found n left cs fs → Found 1 all (commands ++ cs) (flaws ++ fs)

at-lists : (all : List (List ℕ)) (cs ds : List Command) (fs gs : List Flaw) → cs ≡ ds → fs ≡ gs → Found 1 all cs fs → Found 1 all ds gs
at-lists all cs ds fs gs p q h = subst (λ (x : List Flaw). Found 1 all ds x) q (subst (λ (x : List Command). Found 1 all x fs) p h)

-- Above the first line nothing is found.
pub no_line : (all left : List (List ℕ)) (n : ℕ) (commands : List Command) (flaws : List Flaw) → left ≡ all → n ≡ 0 → commands ≡ [] → flaws ≡ [] → Carries all (n + 1) left commands flaws
no_line all left n commands flaws e z c f cs fs h = rw (c, f) (rw (z, e) at h)

pub one_line : (all : List (List ℕ)) (n : ℕ) (line : List ℕ) (left : List (List ℕ)) (commands commands' : List Command) (flaws flaws' : List Flaw) → Adds n (words line) commands flaws commands' flaws' → Carries all n (line ∷ left) commands flaws → Carries all (n + 1) left commands' flaws'
one_line all n line left commands commands' flaws flaws' (inl s) carries cs fs h =
    at-lists all _ _ _ _ (ap (λ (x : List Command). x ++ cs) (sym s.1)) (ap (λ (x : List Flaw). x ++ fs) (sym s.2)) (carries cs fs (inl (s.0, h)))
one_line all n line left commands commands' flaws flaws' (inr (inl a)) carries cs fs h =
    at-lists all _ _ _ _ (sym (append_assoc commands (a.0 ∷ []) cs) ∙ ap (λ (x : List Command). x ++ cs) (sym a.2)) (ap (λ (x : List Flaw). x ++ fs) (sym a.3)) (carries (a.0 ∷ cs) fs (inr (inl (a.0, cs, refl, a.1, h))))
one_line all n line left commands commands' flaws flaws' (inr (inr b)) carries cs fs h =
    at-lists all _ _ _ _ (ap (λ (x : List Command). x ++ cs) (sym b.3)) (sym (append_assoc flaws (b.0 ∷ []) fs) ∙ ap (λ (x : List Flaw). x ++ fs) (sym b.4)) (carries cs (b.0 ∷ fs) (inr (inr (b.0, fs, refl, b.1, b.2, h))))

-- Behind the last line nothing is added.
pub all_lines : (all : List (List ℕ)) (n : ℕ) (left : List (List ℕ)) (commands : List Command) (flaws : List Flaw) → left ≡ [] → Carries all n left commands flaws → Found 1 all commands flaws
all_lines all n left commands flaws e carries =
    at-lists all _ _ _ _ (append-nil commands) (append-nil flaws) (subst (λ (ls : List (List ℕ)). Carries all n ls commands flaws) e carries [] [] (refl, refl))

longer : (v : Bool) (b n : ℕ) (ls : List (List ℕ)) → length ls ≤ n → length (cond v (onto b ls) ([] ∷ ls)) ≤ n + 1
longer true b n [] h = omega arith
longer true b n (l ∷ ls) h = omega arith
longer false b n ls h = omega arith

-- No text has more lines than octets.
pub length-lines : (text : List ℕ) → length (lines text) ≤ length text
unfolding lines
length-lines [] = omega arith
length-lines (b ∷ bs) = omega (arith, longer (in_line b) b (length bs) (lines bs) (length-lines bs))
