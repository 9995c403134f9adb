-- The texts of entries, one by one. Assumes nothing.
use Rattle.std.proofs.Common.{◌≡◌, ℕ, zero, suc, List, [], ◌∷◌, ◌++◌, Some, None, Option, refl, ap}
use Rattle.items.specs.Parts.{Piece}
use Rattle.entry.specs.Entries.{Line}
use Rattle.crl.specs.Law.{entry_in, first_in, rest_in}
use Rattle.crl.specs.Listed.{so_many, before_rest, lines_listed}
use Rattle.report.specs.Said.{line_text, first_text, run_text, entries_text}

-- the texts of entries, in their order
unfoldable pub lines_text : List Line → List ℕ
lines_text [] = []
lines_text (l ∷ ls) = line_text l ++ lines_text ls

pub lines-none : lines_text [] ≡ []
unfolding lines_text
lines-none = refl

pub lines-more : (l : Line) (ls : List Line) → lines_text (l ∷ ls) ≡ line_text l ++ lines_text ls
unfolding lines_text
lines-more l ls = refl

first-more : (o : Option Line) (ls : List Line) (bs : List ℕ) → bs ≡ lines_text ls → first_text o bs ≡ lines_text (before_rest o ls)
unfolding lines_text
first-more None ls bs e = refl
first-more (Some l) ls bs e = ap (λ z. line_text l ++ z) e

run-lines : (n : ℕ) (c : Piece) → run_text n c ≡ lines_text (so_many n c)
unfolding run_text so_many lines_text
run-lines zero c = refl
run-lines (suc n) c = first-more (first_in (entry_in c)) (so_many n (rest_in c (entry_in c))) _ (run-lines n (rest_in c (entry_in c)))

-- the text of a list's entries is that of its lines
pub entries-lines : (o : Option Piece) (n : ℕ) → entries_text o n ≡ lines_text (lines_listed o n)
unfolding lines_text
entries-lines None n = refl
entries-lines (Some c) n = run-lines n c
