-- The messages of faulty lines.
use Rattle.std.specs.Prelude.{ℕ, List, Some, None, codes, decimal, Option}
use Rattle.std.specs.Fmt.{option_append}
use Rattle.workfile.specs.declared.faults.Fault.{Fault}
use Rattle.workfile.specs.declared.faults.Fault.TheVariants.{NoCommand, MissingWord, ExtraWord, NotText, NotHex, Unreadable, Memory}

-- Why a file cannot be read is the system's to say.
abbrev pub fault_text : Fault → Option (List ℕ)
fault_text NoCommand = Some (codes "no such command")
fault_text MissingWord = Some (codes "a word is missing")
fault_text ExtraWord = Some (codes "a word too many")
fault_text NotText = Some (codes "a path or a label that is not UTF-8")
fault_text NotHex = Some (codes "hex: takes an even number of hex digits")
fault_text (Unreadable e) = None
fault_text Memory = Some (codes "not enough memory")

-- The number of the line comes first.
abbrev pub flaw_text : ℕ → Fault → Option (List ℕ)
flaw_text n fault = option_append (Some (codes "line ")) (option_append (Some (decimal n)) (option_append (Some (codes ": ")) (fault_text fault)))
