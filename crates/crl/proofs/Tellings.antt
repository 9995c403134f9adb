-- What extensions tell one after the other is what they tell together. Assumes nothing.
use Rattle.std.proofs.Common.{◌≡◌, ℕ, Bool, true, false, ◌&&◌, List, [], ◌∷◌, ◌++◌, length, is_some, Some, None, Option, sym, refl, ap, ◌∙◌, subst, append_assoc, append-nil, arith}
use Rattle.items.specs.Parts.{Piece}
use Rattle.telling.specs.declared.role.Role.{Role}
use Rattle.telling.specs.declared.role.Role.TheVariants.{Number, Expired, Reason, Other}
use Rattle.telling.specs.Tells.{Tells, silent, stood_in, or_else, merged}
use Rattle.extension.specs.Extensions.{Extn}
use Rattle.grammar.specs.Grammar.{Folds}
use Rattle.crl.specs.Profile.{listed, all_told, Together, IsValue}

-- one more telling: what was told before, then what is told now, none twice
pub record Adds (a : Tells) (e : Extn) (b : Tells) : Type 0 where
  pub number : listed a.number ++ listed e.tells.number ≡ listed b.number
  pub expired : listed a.expired ++ listed e.tells.expired ≡ listed b.expired
  pub reason : listed a.reason ++ listed e.tells.reason ≡ listed b.reason

-- a value that is told twice, and one that is not
abbrev twice : {V : Type 0} → Option V → Option V → Bool
twice o e = is_some o && is_some e

listed-one : {V : Type 0} (o b : Option V) → listed o ≡ listed b → o ≡ b
listed-one None None h = refl
listed-one None (Some y) h = absurd (let z : ◌≡◌ {A = ℕ} 0 1 = ap length h in omega arith)
listed-one (Some x) None h = absurd (let z : ◌≡◌ {A = ℕ} 1 0 = ap length h in omega arith)
listed-one (Some x) (Some y) h = let k : x ≡ y = cc in ap (λ v. Some v) k

once-listed : {V : Type 0} (o e : Option V) → twice o e ≡ false → listed o ++ listed e ≡ listed (or_else e o)
once-listed None None h = refl
once-listed None (Some y) h = refl
once-listed (Some x) None h = refl
once-listed (Some x) (Some y) h = absurd (let z : ◌≡◌ {A = ℕ} 0 1 = cc in omega arith)

-- no list of none or one has two
none-twice : {V : Type 0} (o e z : Option V) (rest : List V) → listed o ++ (listed e ++ rest) ≡ listed z → twice o e ≡ false
none-twice None e z rest h = refl
none-twice (Some x) None z rest h = refl
none-twice (Some x) (Some y) None rest h = absurd (let k = ap length h in omega arith)
none-twice (Some x) (Some y) (Some v) rest h = absurd (let k = ap length h in omega arith)

-- what one telling adds is what is merged
added : {V : Type 0} (o e b : Option V) → listed o ++ listed e ≡ listed b → (twice o e ≡ false) × (b ≡ or_else e o)
added o e b h =
    let t = none-twice o e b [] (ap (λ r. listed o ++ r) (append-nil (listed e)) ∙ h) in
    (t, sym (listed-one (or_else e o) b (sym (once-listed o e t) ∙ h)))

and_no : (b : Bool) → (b && false) ≡ false
and_no true = refl
and_no false = refl

and_yes : (b : Bool) → (b && true) ≡ false → b ≡ false
and_yes true h = h
and_yes false h = refl

-- nothing is told twice
abbrev pub Once : Tells → Tells → Type 0
Once a t = (twice a.number t.number ≡ false) × (twice a.expired t.expired ≡ false) × (twice a.reason t.reason ≡ false)

-- a role tells at most the one of the three that bears its name
pub stood-once : (r : Role) (c : Piece) (a t : Tells) → IsValue r c t → stood_in a r ≡ false → Once a t
stood-once Number c a t v s = subst (Once a) (sym v.2.1) (ap (λ b. b && true) s, and_no _, and_no _)
stood-once Expired c a t v s = subst (Once a) (sym v.2.3) (and_no _, ap (λ b. b && true) s, and_no _)
stood-once Reason c a t v s = subst (Once a) (sym v.2.3) (and_no _, and_no _, ap (λ b. b && true) s)
stood-once Other c a t v s = subst (Once a) (sym v) (and_no _, and_no _, and_no _)

pub once-stood : (r : Role) (c : Piece) (a t : Tells) → IsValue r c t → Once a t → stood_in a r ≡ false
once-stood Number c a t v o = and_yes _ (subst (Once a) v.2.1 o).0
once-stood Expired c a t v o = and_yes _ (subst (Once a) v.2.3 o).1
once-stood Reason c a t v o = and_yes _ (subst (Once a) v.2.3 o).2
once-stood Other c a t v o = refl

pub adds-merged : (a : Tells) (e : Extn) → Once a e.tells → Adds a e (merged a e.tells)
adds-merged a e o =
    let t = e.tells in
    record { number = once-listed a.number t.number o.0; expired = once-listed a.expired t.expired o.1; reason = once-listed a.reason t.reason o.2 }

pub adds-once : (a : Tells) (e : Extn) (b : Tells) → Adds a e b → Once a e.tells × (merged a e.tells ≡ b)
adds-once a e b h =
    let n = added a.number e.tells.number b.number h.number in
    let x = added a.expired e.tells.expired b.expired h.expired in
    let r = added a.reason e.tells.reason b.reason h.reason in
    let t = e.tells in (
      (n.0, x.0, r.0),
      ap (λ v. record { number = v; expired = or_else t.expired a.expired; reason = or_else t.reason a.reason }) (sym n.1)
          ∙ (ap (λ v. record { number = b.number; expired = v; reason = or_else t.reason a.reason }) (sym x.1)
          ∙ ap (λ v. record { number = b.number; expired = b.expired; reason = v }) (sym r.1)),
    )

-- one after the other, from a state
record From (a : Tells) (es : List Extn) (z : Tells) : Type 0 where
  number : listed a.number ++ all_told (λ x. x.number) es ≡ listed z.number
  expired : listed a.expired ++ all_told (λ x. x.expired) es ≡ listed z.expired
  reason : listed a.reason ++ all_told (λ x. x.reason) es ≡ listed z.reason

-- one more in front
joined : {V : Type 0} (o e b : Option V) (rest all : List V) → listed o ++ listed e ≡ listed b → listed b ++ rest ≡ all → listed o ++ (listed e ++ rest) ≡ all
joined o e b rest all h k = sym (append_assoc (listed o) (listed e) rest) ∙ (ap (λ w. w ++ rest) h ∙ k)

folds-from : (es : List Extn) (a z : Tells) → Folds Adds a es z → From a es z
folds-from [] a z h = record {
  number = append-nil (listed a.number) ∙ ap (λ (t : Tells). listed t.number) h;
  expired = append-nil (listed a.expired) ∙ ap (λ (t : Tells). listed t.expired) h;
  reason = append-nil (listed a.reason) ∙ ap (λ (t : Tells). listed t.reason) h;
}
folds-from (e ∷ es) a z h =
    let b = h.0 in
    let k = folds-from es b z h.2 in
    record {
      number = joined a.number e.tells.number b.number _ _ h.1.number k.number;
      expired = joined a.expired e.tells.expired b.expired _ _ h.1.expired k.expired;
      reason = joined a.reason e.tells.reason b.reason _ _ h.1.reason k.reason;
    }

-- what is left behind the one in front
behind : {V : Type 0} (o e : Option V) (rest all : List V) → twice o e ≡ false → listed o ++ (listed e ++ rest) ≡ all → listed (or_else e o) ++ rest ≡ all
behind o e rest all t h = ap (λ w. w ++ rest) (sym (once-listed o e t)) ∙ (append_assoc (listed o) (listed e) rest ∙ h)

from-folds : (es : List Extn) (a z : Tells) → From a es z → Folds Adds a es z
from-folds [] a z h =
    let n = listed-one a.number z.number (sym (append-nil (listed a.number)) ∙ h.number) in
    let x = listed-one a.expired z.expired (sym (append-nil (listed a.expired)) ∙ h.expired) in
    let r = listed-one a.reason z.reason (sym (append-nil (listed a.reason)) ∙ h.reason) in
    ap (λ v. record { number = v; expired = a.expired; reason = a.reason }) n
    ∙ (ap (λ v. record { number = z.number; expired = v; reason = a.reason }) x ∙ ap (λ v. record { number = z.number; expired = z.expired; reason = v }) r)
from-folds (e ∷ es) a z h =
    let t = e.tells in
    let n = none-twice a.number t.number z.number _ h.number in
    let x = none-twice a.expired t.expired z.expired _ h.expired in
    let r = none-twice a.reason t.reason z.reason _ h.reason in (
      merged a t,
      adds-merged a e (n, x, r),
      from-folds es (merged a t) z (record {
        number = behind a.number t.number _ _ n h.number;
        expired = behind a.expired t.expired _ _ x h.expired;
        reason = behind a.reason t.reason _ _ r h.reason;
      }),
    )

pub folds-together : (es : List Extn) (z : Tells) → Folds Adds silent es z → Together es z
folds-together es z h = let k = folds-from es silent z h in record { number = k.number; expired = k.expired; reason = k.reason }

pub together-folds : (es : List Extn) (z : Tells) → Together es z → Folds Adds silent es z
together-folds es z h = from-folds es silent z (record { number = h.number; expired = h.expired; reason = h.reason })
