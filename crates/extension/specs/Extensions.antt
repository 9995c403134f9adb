-- Extensions. Assumes nothing.
use Rattle.std.specs.Prelude.{ℕ, Bool, true, false, cond, ◌&&◌, [], ◌∷◌, Ok, Err, Result}
use Rattle.std.specs.Str.{bytes_eq}
use Rattle.refusals.specs.Refusals.{Flaw, flaw}
use Rattle.der.specs.Reads.{Left, Got, Both, Reads, got, bind, then}
use Rattle.items.specs.Parts.{Piece, piece_of}
use Rattle.der.specs.Items.{expect_at, all_of, next_is}
use Rattle.telling.specs.declared.role.Context.{Context}
use Rattle.telling.specs.declared.role.Role.{Role}
use Rattle.telling.specs.declared.role.Role.TheVariants.{Number, Expired, Reason, Other}
use Rattle.extension.specs.declared.extensions.Extension.{Extension}
use Rattle.extension.specs.declared.extensions.Before.{Before}
use Rattle.elements.specs.Runs.{run_of}
use Rattle.telling.specs.Roles.{role_of}
use Rattle.telling.specs.Tells.{Tells, tells_of, silent, stood_in, merged}
use Rattle.extension.specs.Values.{value_by}

-- what an extension says
pub record Extn : Type 0 where
  pub identifier : Piece
  pub critical : Bool
  pub content : Piece
  pub tells : Tells

abbrev pub extension_of : Extension → Extn
extension_of e = record { identifier = piece_of e.identifier; critical = e.critical; content = piece_of e.content; tells = tells_of e.told }

abbrev pub before_tells : {P : Type 0} → Before P → Tells
before_tells a = tells_of a.told

-- nothing is read out of an extension with this role
abbrev pub unread : Role → Bool
unread Number = false
unread Expired = false
unread Reason = false
unread Other = true

-- the flag of a critical extension, 01 01 FF, or nothing
unfoldable pub flag_at : Reads Bool
flag_at s =
    cond (next_is 1 s)
    (bind (expect_at 1 s) (λ c t. cond (bytes_eq c.octets (255 ∷ [])) (Ok (got true t)) (Err (flaw 6 s.offset))))
    (Ok (got false s))

-- the content of the extension whose tag stands at an offset: identifier, flag if any, OCTET STRING.
-- Two faults stand at the extension itself: one that is read has stood before; one that is not read is critical.
unfoldable pub body_at : Context → Tells → ℕ → Reads Extn
body_at context before at s =
    bind (expect_at 6 s) (λ identifier t.
    cond (stood_in before (role_of context identifier.octets)) (Err (flaw 6 at))
    (bind (flag_at t) (λ critical u.
    cond (critical && unread (role_of context identifier.octets)) (Err (flaw 10 at))
    (bind (expect_at 4 u) (λ content w.
    then (value_by (role_of context identifier.octets) content) (λ tells.
    Ok (got (record { identifier = identifier; critical = critical; content = content; tells = tells }) w)))))))

-- an extension, where these were told before it
unfoldable pub extension_at : Context → Tells → Reads Extn
extension_at context before s = bind (expect_at 48 s) (λ c t. then (all_of (body_at context before s.offset) c) (λ e. Ok (got e t)))

-- an extension in its run, and what is told then
abbrev pub extension_step : Context → Tells → Left → Result (Got (Both Extn Tells)) Flaw
extension_step context before s = bind (extension_at context before s) (λ e t. Ok (got (record { one = e; two = merged before e.tells }) t))

-- what a part tells that is a run of extensions
unfoldable pub told_by : Context → Piece → Result Tells Flaw
told_by context c = then (run_of (extension_step context) silent c) (λ v. Ok v.two)
