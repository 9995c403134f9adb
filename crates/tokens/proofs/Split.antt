-- Where a text is cut into its first line and the rest, and a line into its first word and the rest.
use Rattle.std.proofs.Common.{◌≡◌, ℕ, suc, ◌+◌, ◌<◌, Bool, true, false, cond, not, List, [], ◌∷◌, length, take, drop, sym, refl, ap, ◌∙◌, add-one, arith, length-drop}
use Rattle.std.proofs.lemmas.List.{length-take-le}
use Rattle.std.specs.List.{before_first, position_or_len}
use Rattle.tokens.proofs.Scans.{run-prefix_len, run-within, run-behind}
use Rattle.tokens.specs.Runs.{run}
use Rattle.tokens.specs.Lines.{in_line, onto, lines}
use Rattle.tokens.specs.Words.{is_blank, in_word, words}

line_step : (v : Bool) (b : ℕ) (ds : List ℕ) (k : ℕ) → onto b (lines ds) ≡ (b ∷ take k ds) ∷ lines (drop (suc k) ds) → cond v (onto b (lines ds)) ([] ∷ lines ds) ≡ take (cond v (suc k) 0) (b ∷ ds) ∷ lines (drop (suc (cond v (suc k) 0)) (b ∷ ds))
line_step true b ds k h = h
line_step false b ds k h = refl

pub first-line : (xs : List ℕ) → 0 < length xs → lines xs ≡ take (run in_line xs) xs ∷ lines (drop (suc (run in_line xs)) xs)
unfolding lines run
first-line [] h = absurd (omega arith)
first-line (b ∷ []) h = line_step (in_line b) b [] 0 refl
first-line (b ∷ c ∷ cs) h = line_step (in_line b) b (c ∷ cs) (run in_line (c ∷ cs)) (ap (onto b) (first-line (c ∷ cs) (omega arith)))

skip_step : (v : Bool) (b : ℕ) (ds : List ℕ) (k : ℕ) (ws : List (List ℕ)) → words ds ≡ words (drop k ds) → (v ≡ false → ws ≡ words (b ∷ ds)) → cond (not v) ws (words ds) ≡ words (drop (cond v (suc k) 0) (b ∷ ds))
skip_step true b ds k ws h w = h
skip_step false b ds k ws h w = w refl

-- Blanks at the front are no part of a word.
pub skipped : (xs : List ℕ) → words xs ≡ words (drop (run is_blank xs) xs)
unfolding words run
skipped [] = refl
skipped (b ∷ []) = skip_step (is_blank b) b [] 0 ((b ∷ []) ∷ []) refl (λ e. ap (λ v. cond (not v) ((b ∷ []) ∷ []) []) (sym e))
skipped (b ∷ c ∷ cs) =
    let ws = cond (in_word c) (onto b (words (c ∷ cs))) ((b ∷ []) ∷ words (c ∷ cs)) in
    skip_step (is_blank b) b (c ∷ cs) (run is_blank (c ∷ cs)) ws (skipped (c ∷ cs)) (λ e. ap (λ v. cond (not v) ws (words (c ∷ cs))) (sym e))

word-step : (v w : Bool) (b : ℕ) (ds : List ℕ) (k : ℕ) → v ≡ true → (w ≡ true → words ds ≡ take k ds ∷ words (drop k ds)) → (w ≡ false → k ≡ 0) → cond v (cond w (onto b (words ds)) ((b ∷ []) ∷ words ds)) (words ds) ≡ take (cond v (suc k) 0) (b ∷ ds) ∷ words (drop (cond v (suc k) 0) (b ∷ ds))
word-step true true b ds k e h z = ap (onto b) (h refl)
word-step true false b ds k e h z = ap (λ n. (b ∷ take n ds) ∷ words (drop n ds)) (sym (z refl))
word-step false w b ds k e h z = let q : ◌≡◌ {A = ℕ} 0 1 = cc in absurd (omega arith)

inside : (v : Bool) (k : ℕ) → 0 < cond v (suc k) 0 → v ≡ true
inside true k h = refl
inside false k h = absurd (omega arith)

-- A run of octets that are no blanks is the first word.
pub first_word : (xs : List ℕ) → 0 < run in_word xs → words xs ≡ take (run in_word xs) xs ∷ words (drop (run in_word xs) xs)
unfolding words run
first_word [] h = absurd (omega arith)
first_word (b ∷ []) h = ap (λ v. cond v ((b ∷ []) ∷ []) []) (inside (in_word b) 0 h) ∙ ap (λ v. take (cond v 1 0) (b ∷ []) ∷ words (drop (cond v 1 0) (b ∷ []))) (sym (inside (in_word b) 0 h))
first_word (b ∷ c ∷ cs) h =
    let k = run in_word cs in
    word-step (in_word b) (in_word c) b (c ∷ cs) (run in_word (c ∷ cs)) (inside (in_word b) (run in_word (c ∷ cs)) h)
    (λ e. let q : run in_word (c ∷ cs) ≡ suc k = ap (λ v. cond v (suc k) 0) e in first_word (c ∷ cs) (omega arith))
    (λ e. ap (λ v. cond v (suc k) 0) e)

neither : (v : Bool) (j k : ℕ) → cond v (suc j) 0 ≡ 0 → cond (not v) (suc k) 0 ≡ 0 → ⊥
neither true j k p q = omega arith
neither false j k p q = omega arith

-- Where neither a blank nor a word begins, nothing is left.
no_word : (xs : List ℕ) → run is_blank xs ≡ 0 → run in_word xs ≡ 0 → words xs ≡ []
unfolding words run
no_word [] h k = refl
no_word (b ∷ bs) h k = absurd (neither (is_blank b) (run is_blank bs) (run in_word bs) h k)

-- The two cuts, as `cut_line` and `next_word` make them.
pub cut-falls : (xs after : List ℕ) → after ≡ drop (run in_line xs + 1) xs → 0 < length xs → length after < length xs
cut-falls xs after e h = rw (e, length-drop) (omega arith)

pub cut_parts : (xs line after : List ℕ) → line ≡ take (run in_line xs) xs → after ≡ drop (run in_line xs + 1) xs → 0 < length xs → lines xs ≡ line ∷ lines after
cut_parts xs line after f b h = first-line xs h ∙ (λ i. sym f i ∷ lines (sym (b ∙ ap (λ n. drop n xs) (add-one (run in_line xs))) i))

not-in_word : (b : ℕ) → not (in_word b) ≡ is_blank b
not-in_word b = elim (is_blank b) as (λ v. not (not v) ≡ v) [ true ↦ refl | false ↦ refl ]

pub no-word-left : (xs from word after : List ℕ) → from ≡ drop (position_or_len in_word xs) xs → word ≡ before_first is_blank from → after ≡ drop (position_or_len is_blank from) from → length word ≡ 0 → (words xs ≡ []) × (words after ≡ [])
no-word-left xs from word after f w a z =
    let blanks = run-prefix_len is_blank (λ b. not (in_word b)) not-in_word xs in
    let long = run-prefix_len in_word in_word (λ b. refl) from in
    let none : run is_blank from ≡ 0 = ap (run is_blank) (f ∙ ap (λ n. drop n xs) blanks) ∙ run-behind is_blank xs in
    let short : run in_word from ≡ 0 = sym (ap length (w ∙ ap (λ n. take n from) long) ∙ length-take-le (run in_word from) from (run-within in_word from)) ∙ z in
    let end : words from ≡ [] = no_word from none short in
    (skipped xs ∙ ap (λ n. words (drop n xs)) (sym blanks) ∙ ap words (sym f) ∙ end, ap words (a ∙ ap (λ n. drop n from) (long ∙ short)) ∙ end)

pub next-word-is : (xs from word after : List ℕ) → from ≡ drop (position_or_len in_word xs) xs → word ≡ before_first is_blank from → after ≡ drop (position_or_len is_blank from) from → 0 < length word → words xs ≡ word ∷ words after
next-word-is xs from word after f w a h =
    let blanks = run-prefix_len is_blank (λ b. not (in_word b)) not-in_word xs in
    let end = run-prefix_len in_word in_word (λ b. refl) from in
    let front : word ≡ take (run in_word from) from = w ∙ ap (λ n. take n from) end in
    let long : length word ≡ run in_word from = ap length front ∙ length-take-le (run in_word from) from (run-within in_word from) in
    skipped xs ∙ ap (λ n. words (drop n xs)) (sym blanks) ∙ ap words (sym f) ∙ first_word from (omega arith) ∙ (λ i. sym front i ∷ words (sym (a ∙ ap (λ n. drop n from) end) i))
