-- What the words of one line ask for, and what is wrong with those that ask for nothing.
use Rattle.std.specs.Prelude.{◌≡◌, ℕ, ◌<◌, ◌⊎◌, List, [], ◌∷◌, ◌++◌, length, Some, None, vec_items, string_bytes, codes, IsUtf8, ◌≢◌, Result, MatchResult}
use Rattle.tokens.specs.Hex.{unhexed}
use Rattle.workfile.specs.declared.commands.Command.{Command}
use Rattle.workfile.specs.declared.commands.Command.TheVariants.{Inspect}
use Rattle.workfile.specs.declared.commands.Source.{Source}
use Rattle.workfile.specs.declared.commands.Source.TheVariants.{Hex, Path}
use Rattle.workfile.specs.declared.commands.Verb.{Verb}
use Rattle.workfile.specs.declared.commands.Verb.TheVariants as verb
use Rattle.workfile.specs.declared.faults.Fault.{Fault}
use Rattle.workfile.specs.declared.faults.Fault.TheVariants.{NoCommand, MissingWord, ExtraWord, NotText, NotHex, Unreadable, Memory}

-- A line without words, or one whose first word begins with #, octet 35.
abbrev pub Silent : List (List ℕ) → Type 0
Silent [] = Unit {0}
Silent (w ∷ ws) = (rest : List ℕ) × (w ≡ 35 ∷ rest)

-- A word that gives its octets itself: hex: and what follows.
abbrev pub Marked : List ℕ → List ℕ → Type 0
Marked word digits = word ≡ codes "hex:" ++ digits

abbrev pub Unmarked : List ℕ → Type 0
Unmarked word = (digits : List ℕ) → Marked word digits → ⊥

-- A word as the source of octets.
abbrev pub Given : List ℕ → Source → Type 0
Given word (Hex digits) = Marked word digits.now
Given word (Path path) = (word ≡ path.now) × Unmarked word

-- What reading a word as a source gives.
abbrev pub ReadsSource : List ℕ → Result Source Fault → Type 0
ReadsSource word r = MatchResult r (Given word) (λ e. (e ≡ NotText) × (IsUtf8 word → ⊥))

-- The octets of a source. Those of a file are no value that can be named here.
abbrev pub Loaded : Source → List ℕ → Type 0
Loaded (Hex digits) octets = unhexed digits.now ≡ Some octets
Loaded (Path path) octets = Unit {0}

-- A file that cannot be read.
abbrev pub Unread : Fault → Type 0
Unread NoCommand = ⊥
Unread MissingWord = ⊥
Unread ExtraWord = ⊥
Unread NotText = ⊥
Unread NotHex = ⊥
Unread (Unreadable e) = Unit {0}
Unread Memory = ⊥

-- Why a source has none: its digits are no octets, or its file cannot be read, or memory is wanting.
abbrev pub Unloaded : Source → Fault → Type 0
Unloaded (Hex digits) fault = (fault ≡ Memory) ⊎ ((fault ≡ NotHex) × (unhexed digits.now ≡ None))
Unloaded (Path path) fault = Unread fault

-- What stands for the label where the line has none.
abbrev pub name_of : Source → List ℕ
name_of (Hex digits) = codes "hex"
name_of (Path path) = path.now

-- The label that the words begin with, or else the name of the source, and the words behind it.
abbrev pub Labelled : Source → List (List ℕ) → List ℕ → List (List ℕ) → Type 0
Labelled source ws label after = ((ws ≡ []) × (label ≡ name_of source) × (after ≡ [])) ⊎ (ws ≡ label ∷ after)

-- One of the words is no text.
abbrev pub Unprintable : List (List ℕ) → Type 0
Unprintable ws = (front : List (List ℕ)) × (word : List ℕ) × (back : List (List ℕ)) × (ws ≡ front ++ word ∷ back) × (IsUtf8 word → ⊥)

-- The words behind `inspect`: octets, and at most a label.
abbrev pub Inspects : List (List ℕ) → Command → Type 0
Inspects ws (Inspect list label) = (word : List ℕ) × (more : List (List ℕ)) × (source : Source) × (ws ≡ word ∷ more) × Given word source × Loaded source (vec_items list) × Labelled source more (string_bytes label) []

-- What is wrong with them.
abbrev pub NotInspects : List (List ℕ) → Fault → Type 0
NotInspects ws NoCommand = ⊥
NotInspects ws MissingWord = ws ≡ []
NotInspects ws ExtraWord = 2 < length ws
NotInspects ws NotText = Unprintable ws
NotInspects ws NotHex = (digits : List ℕ) × (more : List (List ℕ)) × (ws ≡ (codes "hex:" ++ digits) ∷ more) × (unhexed digits ≡ None)
NotInspects ws (Unreadable e) = (word : List ℕ) × (more : List (List ℕ)) × (ws ≡ word ∷ more) × Unmarked word
NotInspects ws Memory = Unit {0}

abbrev pub verb_word : Verb → List ℕ
verb_word verb.Inspect = codes "inspect"

-- What reading a word as the first word of a command gives.
abbrev pub ReadsVerb : List ℕ → Result Verb Fault → Type 0
ReadsVerb word r = MatchResult r (λ v. word ≡ verb_word v) (λ e. (e ≡ NoCommand) × ((v : Verb) → word ≢ verb_word v))

-- The command that the words of a line ask for.
abbrev pub Asks : List (List ℕ) → Command → Type 0
Asks ws command = (more : List (List ℕ)) × (ws ≡ codes "inspect" ∷ more) × Inspects more command

-- What is wrong with the words of a line that is no command.
abbrev pub Wrong : List (List ℕ) → Fault → Type 0
Wrong ws fault = (word : List ℕ) × (more : List (List ℕ)) × (ws ≡ word ∷ more) × (((fault ≡ NoCommand) × (Silent ws → ⊥) × ((v : Verb) → word ≢ verb_word v)) ⊎ ((word ≡ codes "inspect") × NotInspects more fault))
