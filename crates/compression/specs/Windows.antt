-- What a `Window` holds, and what is left to do after it.
use Rattle.std.specs.Prelude.{◌≡◌, ℕ, ◌+◌, List, ◌++◌, length}
use Rattle.compression.specs.Block.{schedule, rounds}
use Rattle.compression.specs.declared.schedule.Window.{Window}

-- its sixteen words, in order
abbrev pub words_in : Window → List ℕ
words_in s = s.w0 ++ (s.w1 ++ (s.w2 ++ s.w3))

-- the rounds of the constants k lead from s to t: what is left after t gives what all that is left after s gives
pub record Leads (s t : Window) (k : List ℕ) : Type 0 where
  pub long : length (words_in t) ≡ 16
  pub left : (n : ℕ) (ks : List ℕ) → rounds ks (schedule n (words_in t)) t.v ≡ rounds (k ++ ks) (schedule (length k + n) (words_in s)) s.v
