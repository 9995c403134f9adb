-- Extensions as they are written. Assumes nothing.
use Rattle.std.specs.Prelude.{◌≡◌, ℕ, Bool, true, false, ◌&&◌, List, [], ◌∷◌, ◌++◌, Ok}
use Rattle.items.specs.Parts.{Piece}
use Rattle.der.specs.Reads.{mapped}
use Rattle.telling.specs.declared.role.Context.{Context}
use Rattle.telling.specs.Roles.{role_of}
use Rattle.telling.specs.Tells.{Tells, stood_in}
use Rattle.extension.specs.Values.{value_by}
use Rattle.extension.specs.Extensions.{Extn, unread}
use Rattle.encode.specs.Der.{der}
use Rattle.writable.specs.declared.extensions.Bare.{Bare}

-- 01 01 FF, or nothing
abbrev pub flag_octets : Bool → List ℕ
flag_octets true = 1 ∷ 1 ∷ 255 ∷ []
flag_octets false = []

-- OBJECT IDENTIFIER, flag if any, OCTET STRING
unfoldable pub extension_content : List ℕ → Bool → List ℕ → List ℕ
extension_content identifier critical content = der 6 identifier ++ (flag_octets critical ++ der 4 content)

unfoldable pub extension_octets : List ℕ → Bool → List ℕ → List ℕ
extension_octets identifier critical content = der 48 (extension_content identifier critical content)

-- an extension without its offsets, by its octets
abbrev pub bare_content : Bare → List ℕ
bare_content b = extension_content b.identifier.now b.critical b.content.now

abbrev pub bare_octets : Bare → List ℕ
bare_octets b = extension_octets b.identifier.now b.critical b.content.now

pub record BareOf (e : Extn) (b : Bare) : Type 0 where
  pub identifier : b.identifier.now ≡ e.identifier.octets
  pub critical : b.critical ≡ e.critical
  pub content : b.content.now ≡ e.content.octets

-- the same values told, offsets aside
pub record AlikeTells (a b : Tells) : Type 0 where
  pub number : mapped (λ (p : Piece). p.octets) a.number ≡ mapped (λ (p : Piece). p.octets) b.number
  pub expired : a.expired ≡ b.expired
  pub reason : a.reason ≡ b.reason

-- the same extension, offsets aside
pub record AlikeExtn (a b : Extn) : Type 0 where
  pub identifier : a.identifier.octets ≡ b.identifier.octets
  pub critical : a.critical ≡ b.critical
  pub content : a.content.octets ≡ b.content.octets
  pub tells : AlikeTells a.tells b.tells

-- An extension may stand after those that told this: it tells what its content says, has not stood before, and is
-- critical only if it is read.
pub record MayStand (context : Context) (before : Tells) (e : Extn) : Type 0 where
  pub says : value_by (role_of context e.identifier.octets) e.content ≡ Ok e.tells
  pub fresh : stood_in before (role_of context e.identifier.octets) ≡ false
  pub known : (e.critical && unread (role_of context e.identifier.octets)) ≡ false
