-- What is printed of the commands of a work file.
use Rattle.std.specs.Prelude.{ℕ, cond, List, [], ◌∷◌, ◌++◌, length, drop, Ok, Err, vec_items, string_bytes, codes, decimal, Result, ◌==◌}
use Rattle.std.specs.List.{flat_map}
use Rattle.refusals.specs.Refusals.{Refused}
use Rattle.list.specs.Lists.{Listing}
use Rattle.crl.specs.Law.{read_of}
use Rattle.report.specs.Said.{list_text, refused_text}
use Rattle.workfile.specs.declared.commands.Command.{Command}
use Rattle.workfile.specs.declared.commands.Command.TheVariants.{Inspect}
use Rattle.workfile.specs.declared.reading.Work.{Work}

-- The octets from the place of a refusal on, where it stands in the list.
abbrev pub rest_of : Refused → List ℕ → List ℕ
rest_of r octets = cond (r.input == 1) (drop r.offset octets) []

-- What is said of a list that is read by itself, by what reading it gives.
abbrev pub answer_text : List ℕ → List ℕ → Result Listing Refused → List ℕ
answer_text label octets (Ok v) = codes "inspect " ++ (label ++ (codes ": " ++ (decimal (length octets) ++ (codes " octets" ++ list_text v))))
answer_text label octets (Err r) = codes "inspect" ++ (32 ∷ (label ++ (codes ": " ++ refused_text r (rest_of r octets))))

unfoldable pub inspect_text : List ℕ → List ℕ → List ℕ
inspect_text label octets = answer_text label octets (read_of octets)

-- A command's text ends with a line break.
abbrev pub command_text : Command → List ℕ
command_text (Inspect list label) = inspect_text (string_bytes label) (vec_items list) ++ (10 ∷ [])

-- The texts of commands in their order.
unfoldable pub all_text : List Command → List ℕ
all_text cs = flat_map command_text cs

-- The texts of works in their order.
unfoldable pub works_text : List Work → List ℕ
works_text ws = flat_map (λ w. all_text (vec_items w.commands)) ws
