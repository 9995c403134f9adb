-- The three identifiers, and what an extension is. Assumes nothing.
use Rattle.std.specs.Prelude.{ℕ, cond, List, [], ◌∷◌}
use Rattle.std.specs.Str.{bytes_eq}
use Rattle.telling.specs.declared.role.Context.{Context}
use Rattle.telling.specs.declared.role.Context.TheVariants.{List as InList, Entry as InEntry}
use Rattle.telling.specs.declared.role.Role.{Role}
use Rattle.telling.specs.declared.role.Role.TheVariants.{Number, Expired, Reason, Other}

-- cRLNumber
abbrev pub number_identifier : List ℕ
number_identifier = 85 ∷ 29 ∷ 20 ∷ []

-- reasonCode
abbrev pub reason_identifier : List ℕ
reason_identifier = 85 ∷ 29 ∷ 21 ∷ []

-- expiredCertsOnCRL
abbrev pub expired_identifier : List ℕ
expired_identifier = 85 ∷ 29 ∷ 60 ∷ []

-- number and expiredCertsOnCRL are read in a list, the reason in an entry
abbrev pub role_of : Context → List ℕ → Role
role_of InList xs = cond (bytes_eq xs number_identifier) Number (cond (bytes_eq xs expired_identifier) Expired Other)
role_of InEntry xs = cond (bytes_eq xs reason_identifier) Reason Other
