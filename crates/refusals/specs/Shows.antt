-- What is shown of a refused input. Assumes nothing.
use Rattle.std.specs.Prelude.{ℕ, List, [], drop}
use Rattle.refusals.specs.declared.grounds.Input.{Input}
use Rattle.refusals.specs.declared.grounds.Input.TheVariants.{Neither, List as InList, Roll}

-- the rest of the refused input from the offset on: empty for neither input, and past the end
abbrev pub shown : Input → ℕ → List ℕ → List ℕ → List ℕ
shown Neither p list roll = []
shown InList p list roll = drop p list
shown Roll p list roll = drop p roll
