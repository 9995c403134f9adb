-- What is read of a whole work file: its commands and its flaws, each in the order of its lines.
use Rattle.std.specs.Prelude.{◌≡◌, ℕ, ◌+◌, ◌⊎◌, List, [], ◌∷◌, ◌++◌}
use Rattle.tokens.specs.Words.{words}
use Rattle.workfile.specs.declared.commands.Command.{Command}
use Rattle.workfile.specs.declared.reading.Flaw.{Flaw}
use Rattle.workfile.specs.Lines.{Silent, Asks, Wrong}

-- Every line from number n on is passed over, is the next command, or has the next flaw, under its own number.
abbrev pub Found : ℕ → List (List ℕ) → List Command → List Flaw → Type 0
Found n [] commands flaws = (commands ≡ []) × (flaws ≡ [])
Found n (line ∷ lines) commands flaws = (Silent (words line) × Found (n + 1) lines commands flaws) ⊎ ((command : Command) × (others : List Command) × (commands ≡ command ∷ others) × Asks (words line) command × Found (n + 1) lines others flaws) ⊎ ((flaw : Flaw) × (others : List Flaw) × (flaws ≡ flaw ∷ others) × (flaw.line ≡ n) × Wrong (words line) flaw.fault × Found (n + 1) lines commands others)

-- What the line of number n adds to the commands and the flaws.
abbrev pub Adds : ℕ → List (List ℕ) → List Command → List Flaw → List Command → List Flaw → Type 0
Adds n ws commands flaws commands' flaws' = (Silent ws × (commands' ≡ commands) × (flaws' ≡ flaws)) ⊎ ((command : Command) × Asks ws command × (commands' ≡ commands ++ command ∷ []) × (flaws' ≡ flaws)) ⊎ ((flaw : Flaw) × (flaw.line ≡ n) × Wrong ws flaw.fault × (commands' ≡ commands) × (flaws' ≡ flaws ++ flaw ∷ []))
