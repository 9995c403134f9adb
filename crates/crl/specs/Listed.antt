-- The entries of a run, one by one. Assumes nothing.
use Rattle.std.specs.Prelude.{◌≡◌, ℕ, zero, suc, List, [], ◌∷◌, length, Some, None, Option}
use Rattle.items.specs.Parts.{Piece, HasEnd}
use Rattle.grammar.specs.Grammar.{Elements}
use Rattle.crl.specs.Profile.{IsEntry}
use Rattle.entry.specs.Entries.{Line}
use Rattle.crl.specs.Law.{entry_in, first_in, rest_in}

-- an entry if there is one, before what comes after it
abbrev pub before_rest : Option Line → List Line → List Line
before_rest None rest = []
before_rest (Some e) rest = e ∷ rest

-- so many entries off the front of a run, in its order, up to where no entry stands
unfoldable pub so_many : ℕ → Piece → List Line
so_many zero c = []
so_many (suc n) c = before_rest (first_in (entry_in c)) (so_many n (rest_in c (entry_in c)))

abbrev pub lines_listed : Option Piece → ℕ → List Line
lines_listed None n = []
lines_listed (Some c) n = so_many n c

-- Where entries stand in a run, one after the other up to its end, taking as many off it yields them, in their order.
abbrev pub EntriesYielded : Type 0
EntriesYielded = (c : Piece) (es : List Line) → Elements IsEntry c.offset c.octets es → HasEnd c → lines_listed (Some c) (length es) ≡ es
