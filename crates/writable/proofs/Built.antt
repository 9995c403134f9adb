-- What is written as an extension is one, and reads back. Assumes nothing.
use Rattle.std.proofs.Common.{◌≡◌, ℕ, ◌+◌, ◌<◌, ◌≤◌, Bool, true, false, ◌&&◌, List, [], ◌∷◌, ◌++◌, length, Some, None, Ok, Err, Result, sym, refl, ap, ◌∙◌, subst, inl, inr, arith, MatchResult}
use Rattle.refusals.specs.declared.grounds.Fault.{Fault}
use Rattle.der.specs.Reads.{Left, Got, Both, got, told_both}
use Rattle.items.specs.Parts.{Piece}
use Rattle.telling.specs.declared.role.Context.{Context}
use Rattle.telling.specs.declared.role.Role.{Role}
use Rattle.telling.specs.declared.role.Role.TheVariants.{Number, Expired, Reason, Other}
use Rattle.telling.specs.Roles.{role_of}
use Rattle.telling.specs.Tells.{Tells, stood_in, merged}
use Rattle.extension.specs.Extensions.{Extn, extension_of, unread, extension_step}
use Rattle.extension.specs.declared.extensions.Extension.{Extension}
use Rattle.grammar.specs.Items.{Tagged}
use Rattle.crl.specs.Profile.{IsFlag, IsValue, IsExtension}
use Rattle.crl.proofs.Tellings.{Adds, stood-once, adds-merged}
use Rattle.crl.proofs.Extends.{value_in, extension-value, step-exact}
use Rattle.encode.specs.Der.{der, length_octets}
use Rattle.encode.proofs.Ders.{items-written}
use Rattle.writable.specs.Extensions.{flag_octets, extension_content, extension_octets, AlikeTells, AlikeExtn, MayStand}
use Rattle.writable.proofs.Lengths.{lengths}

-- the content of an item that is written at an offset
abbrev pub within : ℕ → List ℕ → Piece
within p xs = record { octets = xs; offset = p + (1 + length (length_octets (length xs))) }

-- the same item at another offset
moved_item : (t : ℕ) (c d n : Piece) → c.octets ≡ d.octets → Tagged t c.offset c.octets n → (m : Piece) × Tagged t d.offset d.octets m
moved_item t c d n e h = (
  record { octets = n.octets; offset = d.offset + (1 + length h.len) },
  record { len = h.len; means = h.means; octets = sym e ∙ h.octets; stands = refl; offset = refl; low = h.low; neat = h.neat },
)

-- a value tells the same wherever it stands
pub value-moved : (r : Role) (c d : Piece) (t : Tells) → c.octets ≡ d.octets → IsValue r c t → (x : Tells) × IsValue r d x × AlikeTells x t
unfolding moved_item
value-moved Number c d t e h =
    let m = moved_item 2 c d h.0 e h.1 in (
      record { number = Some m.0; expired = None; reason = None },
      (m.0, m.1, (h.2.0, refl)),
      subst (λ y. AlikeTells (record { number = Some m.0; expired = None; reason = None }) y) (sym h.2.1) (record { number = refl; expired = refl; reason = refl }),
    )
value-moved Expired c d t e h =
    let m = moved_item 24 c d h.0 e h.1 in
    (t, (m.0, m.1, (h.2.0, h.2.1, h.2.2, h.2.3)), record { number = refl; expired = refl; reason = refl })
value-moved Reason c d t e h =
    let m = moved_item 10 c d h.0 e h.1 in
    (t, (m.0, m.1, (h.2.0, h.2.1, h.2.2, h.2.3)), record { number = refl; expired = refl; reason = refl })
value-moved Other c d t e h = (t, h, record { number = refl; expired = refl; reason = refl })

flag-item : (p : ℕ) → Tagged 1 p (1 ∷ 1 ∷ 255 ∷ []) (within p (255 ∷ []))
unfolding der
flag-item p = items-written 1 p (255 ∷ []) refl refl (omega arith)

flag-built : (p : ℕ) (b : Bool) → IsFlag p (flag_octets b) b
flag-built p true = inr (within p (255 ∷ []), flag-item p, (refl, refl))
flag-built p false = inl (refl, refl)

-- an extension that tells what its content says, written at an offset
pub extension-built : (context : Context) (p : ℕ) (e : Extn) → length (extension_octets e.identifier.octets e.critical e.content.octets) ≤ 65535
    → IsValue (role_of context e.identifier.octets) e.content e.tells → (e.critical && unread (role_of context e.identifier.octets)) ≡ false
    → (x : Extn) × IsExtension context p (extension_octets e.identifier.octets e.critical e.content.octets) x × AlikeExtn x e
unfolding extension_octets extension_content
extension-built context p e short says known =
    let id = e.identifier.octets in
    let b = e.critical in
    let ct = e.content.octets in
    let l = lengths id b ct in
    let body = within p (der 6 id ++ (flag_octets b ++ der 4 ct)) in
    let s1 : length (extension_content id b ct) < 65536 = omega arith in
    let s2 : length id < 65536 = omega arith in
    let s3 : length ct < 65536 = omega arith in
    let q = body.offset + length (der 6 id) in
    let i = within body.offset id in
    let c = within (q + length (flag_octets b)) ct in
    let v = value-moved (role_of context id) e.content c e.tells refl says in (
      record { identifier = i; critical = b; content = c; tells = v.0 },
      (
        body,
        items-written 48 p _ refl refl s1,
        (
          i,
          (
            der 6 id,
            (
              flag_octets b ++ der 4 ct,
              refl,
              items-written 6 body.offset id refl refl s2,
              (b, (flag_octets b, (der 4 ct, refl, flag-built q b, (known, (c, items-written 4 (q + length (flag_octets b)) ct refl refl s3, (v.0, v.1, refl)))))),
            ),
          ),
        ),
      ),
      record { identifier = refl; critical = refl; content = refl; tells = v.2 },
    )

-- reading it gives it back
pub extension-back : (context : Context) (a : Tells) (p : ℕ) (rest : List ℕ) (e : Extn) → length (extension_octets e.identifier.octets e.critical e.content.octets) ≤ 65535 → MayStand context a e
    → (x : Extn) × ((z : Tells) × ((o : ℕ) × (extension_step context a (record { rest = extension_octets e.identifier.octets e.critical e.content.octets ++ rest; offset = p }) ≡ Ok (got (record { one = x; two = z }) (record { rest = rest; offset = o }))) × AlikeExtn x e))
extension-back context a p rest e short m =
    let k = extension-built context p e short (value_in (role_of context e.identifier.octets) e.content e.tells m.says) m.known in
    let x = k.0 in
    let w = extension_octets e.identifier.octets e.critical e.content.octets in
    let v = extension-value context p w x k.1 in
    let f = subst (λ ys. stood_in a (role_of context ys) ≡ false) (sym k.2.identifier) m.fresh in
    let ad : Adds a x (merged a x.tells) = adds-merged a x (stood-once (role_of context x.identifier.octets) x.content a x.tells v f) in
    (x, (merged a x.tells, (p + length w, (step-exact context a).full _ _ tt (record { front = w; rest = refl; offset = refl; shape = (k.1, ad) }), k.2)))

-- what a reading that tells this gives
pub told_back : {E V S T : Type 0} (f : E → V) (g : S → T) (P : E → Type 0) (r : Result E Fault) (b : S) (t : Left) (x : V) (z : T) (s : Left)
    → told_both f g r b t ≡ Ok (got (record { one = x; two = z }) s) → ((y : E) → f y ≡ x → t ≡ s → P y) → MatchResult r P (λ _. ⊥)
told_back {E} {V} {S} {T} f g P (Ok y) b t x z s e k =
    let j : ◌≡◌ {A = Got (Both V T)} (got (record { one = f y; two = g b }) t) (got (record { one = x; two = z }) s) = cc in
    k y (ap (λ (q : Got (Both V T)). q.value.one) j) (ap (λ (q : Got (Both V T)). q.left) j)
told_back {E} {V} {S} {T} f g P (Err y) b t x z s e k = let z : ◌≡◌ {A = ℕ} 0 1 = cc in omega arith

-- an extension that was written reads back, in either context
pub extension-reads : {S : Type 0} (context : Context) (g : S → Tells) (e : Extn) → length (extension_octets e.identifier.octets e.critical e.content.octets) ≤ 65535
    → (a : S) (p : ℕ) (rest : List ℕ) (r : Result Extension Fault) (b : S) (t : Left) → MayStand context (g a) e
    → told_both extension_of g r b t ≡ extension_step context (g a) (record { rest = extension_octets e.identifier.octets e.critical e.content.octets ++ rest; offset = p })
    → MatchResult r (λ y. AlikeExtn (extension_of y) e × (t.rest ≡ rest)) (λ _. ⊥)
extension-reads context g e short a p rest r b t m h =
    let k = extension-back context (g a) p rest e short m in
    told_back extension_of g (λ y. AlikeExtn (extension_of y) e × (t.rest ≡ rest)) r b t k.0 k.1.0 (record { rest = rest; offset = k.1.1.0 }) (h ∙ k.1.1.1)
    (λ y ey et. (subst (λ x. AlikeExtn x e) (sym ey) k.1.1.2, ap (λ q. q.rest) et))
