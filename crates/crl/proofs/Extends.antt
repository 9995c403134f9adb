-- Extensions are read exactly where they stand. Assumes nothing.
use Rattle.std.proofs.Common.{◌≡◌, ℕ, ◌≤◌, Bool, true, false, ◌&&◌, eqb, List, [], ◌∷◌, length, Some, None, Ok, Option, sym, refl, ap, ◌∙◌, subst, arith}
use Rattle.std.specs.Str.{bytes_eq}
use Rattle.std.proofs.lemmas.Bool.{eqb-true, cond-true, cond_both}
use Rattle.refusals.specs.Refusals.{Flaw, flaw}
use Rattle.der.specs.Reads.{Left, Both, bind, then, got}
use Rattle.items.specs.Parts.{Piece}
use Rattle.der.specs.Items.{expect_at, all_of}
use Rattle.elements.specs.Runs.{run_of}
use Rattle.moment.specs.Texts.{general_text, general_read}
use Rattle.moment.proofs.Inverses.{general-inverse}
use Rattle.telling.specs.declared.role.Context.{Context}
use Rattle.telling.specs.declared.role.Role.{Role}
use Rattle.telling.specs.declared.role.Role.TheVariants.{Number, Expired, Reason, Other}
use Rattle.telling.specs.Reasons.{admitted, reason_from, reason_in}
use Rattle.telling.specs.Roles.{role_of}
use Rattle.telling.specs.Tells.{Tells, silent, stood_in, merged}
use Rattle.der.specs.Reads.{or_fault}
use Rattle.extension.specs.Values.{number_is, number_at, expired_at, reason_at, value_at, value_by}
use Rattle.extension.specs.Extensions.{Extn, unread, flag_at, body_at, extension_at, extension_step}
use Rattle.grammar.specs.Items.{Tagged}
use Rattle.grammar.specs.Grammar.{InTag, Elements, ExactIf, Always, NotNext}
use Rattle.grammar.proofs.Reading.{then_ok, ok-is, expect-sound, expect-full, next-is}
use Rattle.grammar.proofs.Combine.{seq, seqs, made, guarded, recast, in-tag, tested, all_in, all-out, tag-long, maybe-next}
use Rattle.grammar.proofs.RunExact.{run_in, run_out}
use Rattle.crl.specs.Profile.{IsFlag, IsValue, IsExtensionBody, IsExtension, Together}
use Rattle.crl.proofs.Octets.{same-is, is_same}
use Rattle.crl.proofs.Timely.{fault-some, text-reads}
use Rattle.crl.proofs.Tellings.{Adds, stood-once, once-stood, adds-merged, adds-once, folds-together, together-folds}

-- the flag
pub flag-exact : ExactIf (NotNext 1) flag_at IsFlag
unfolding flag_at
flag-exact = maybe-next 1 false
    (recast (InTag 1 (λ c v. (c.octets ≡ 255 ∷ []) × (v ≡ true))) (tested {t = 1} (λ c. bytes_eq c.octets (255 ∷ [])) (λ c. true) (λ s. flaw 6 s.offset))
    (λ p w v h. (h.0, h.1, (same-is _ _ h.2.0, h.2.1)))
    (λ p w v h. (h.0, h.1, (is_same _ _ h.2.0, h.2.1))))
    (λ p w v h. (h.0, h.1))

-- the number
number-exact : ExactIf Always (value_at Number) (InTag 2 (λ n t. (number_is n.octets ≡ true) × (t ≡ record { number = Some n; expired = None; reason = None })))
unfolding number_at
number-exact = recast _ (made (λ n. record { number = Some n; expired = None; reason = None }) (tested {t = 2} (λ c. number_is c.octets) (λ c. c) (λ s. flaw 6 s.offset)))
    (λ p w v h. (h.1.0, h.1.1, (h.1.2.0, h.2 ∙ ap (λ n. record { number = Some n; expired = None; reason = None }) h.1.2.1)))
    (λ p w v h. (h.0, (h.0, h.1, (h.2.0, refl)), h.2.1))

-- a content that some reading of it gives a value for
optional-exact : {V : Type 0} {t : ℕ} (F : Piece → Option V) (x : Left → Flaw) → ExactIf Always (λ s. bind (expect_at t s) (λ c u. or_fault (F c) (x s) u)) (InTag t (λ c v. F c ≡ Some v))
optional-exact {V} {t} F x = in-tag {t = t} {G = λ s c u. or_fault (F c) (x s) u} {Q = λ c v. F c ≡ Some v}
    (λ s c u g e. fault-some (F c) (x s) u g e)
    (λ s c u v q. ap (λ o. or_fault o (x s) u) q)

expired-exact : ExactIf Always (value_at Expired) (InTag 24 (λ e t. (m : ℕ) × (m ≤ 254033452799) × (general_text m ≡ Some e.octets) × (t ≡ record { number = None; expired = Some m; reason = None })))
unfolding expired_at
expired-exact = recast _ (made (λ m. record { number = None; expired = Some m; reason = None }) (optional-exact {t = 24} (λ c. general_read c.octets) (λ s. flaw 7 s.offset)))
    (λ p w v h. let b = general-inverse.writes_back h.1.0.octets h.0 h.1.2 in (h.1.0, h.1.1, (h.0, b.0, b.1, h.2)))
    (λ p w v h. let m = h.2.0 in (m, (h.0, h.1, text-reads general_text general_read m h.0.octets (general-inverse.reads_back m h.2.1) h.2.2), h.2.3))

-- the one octet of a reason
reason-in : (xs : List ℕ) (n : ℕ) → reason_in xs ≡ Some n → (xs ≡ n ∷ []) × (admitted n ≡ true)
reason-in [] n e = absurd (let z : ◌≡◌ {A = ℕ} 0 1 = cc in omega arith)
reason-in (x ∷ []) n was =
    cond_both (admitted x) (Some x) None (λ o. o ≡ Some n → (x ∷ [] ≡ n ∷ []) × (admitted n ≡ true))
    (λ h e. let k : x ≡ n = cc in (ap (λ y. y ∷ []) k, subst (λ y. admitted y ≡ true) k h))
    (λ h e. absurd (let z : ◌≡◌ {A = ℕ} 0 1 = cc in omega arith))
    was
reason-in (x ∷ (y ∷ xs)) n was =
    cond_both (eqb (length (x ∷ (y ∷ xs))) 1) (reason_from x) None (λ o. o ≡ Some n → (x ∷ (y ∷ xs) ≡ n ∷ []) × (admitted n ≡ true))
    (λ h e. absurd (let k = eqb-true _ 1 h in omega arith))
    (λ h e. absurd (let z : ◌≡◌ {A = ℕ} 0 1 = cc in omega arith))
    was

reason-exact : ExactIf Always (value_at Reason) (InTag 10 (λ e t. (n : ℕ) × (e.octets ≡ n ∷ []) × (admitted n ≡ true) × (t ≡ record { number = None; expired = None; reason = Some n })))
unfolding reason_at
reason-exact = recast _ (made (λ n. record { number = None; expired = None; reason = Some n }) (optional-exact {t = 10} (λ c. reason_in c.octets) (λ s. flaw 9 s.offset)))
    (λ p w v h. let b = reason-in h.1.0.octets h.0 h.1.2 in (h.1.0, h.1.1, (h.0, b.0, b.1, h.2)))
    (λ p w v h. let n = h.2.0 in (n, (h.0, h.1, ap reason_in h.2.1 ∙ cond-true (admitted n) _ _ h.2.2), h.2.3))

pub value_in : (r : Role) (c : Piece) (t : Tells) → value_by r c ≡ Ok t → IsValue r c t
value_in Number c t e = all_in number-exact c t e
value_in Expired c t e = all_in expired-exact c t e
value_in Reason c t e = all_in reason-exact c t e
value_in Other c t e = sym (ok-is _ _ e)

value_out : (r : Role) (c : Piece) (t : Tells) → IsValue r c t → value_by r c ≡ Ok t
value_out Number c t h = all-out number-exact tt c t h
value_out Expired c t h = all-out expired-exact tt c t h
value_out Reason c t h = all-out reason-exact tt c t h
value_out Other c t h = ap (λ x. Ok x) (sym h)

-- the content of an extension, where these were told before it
abbrev Fresh : Context → Tells → Extn → Type 0
Fresh context a e = stood_in a (role_of context e.identifier.octets) ≡ false

body-exact : (context : Context) (a : Tells) (at : ℕ) → ExactIf Always (body_at context a at) (λ p w e. IsExtensionBody context p w e × Fresh context a e)
unfolding body_at
body-exact context a at =
    let Content : Piece → Bool → Piece → Extn → Type 0 = λ identifier critical content e.
    (t : Tells) × IsValue (role_of context identifier.octets) content t × (e ≡ record { identifier = identifier; critical = critical; content = content; tells = t }) in
    let content-exact : (identifier : Piece) (critical : Bool) → ExactIf Always
    (λ s. bind (expect_at 4 s) (λ content w. then (value_by (role_of context identifier.octets) content) (λ tells. Ok (got (record { identifier = identifier; critical = critical; content = content; tells = tells }) w))))
    (InTag 4 (Content identifier critical))
    = λ identifier critical. in-tag {t = 4}
    {G = λ s content w. then (value_by (role_of context identifier.octets) content) (λ tells. Ok (got (record { identifier = identifier; critical = critical; content = content; tells = tells }) w))}
    {Q = Content identifier critical}
    (λ s c u g e. let p = then_ok (value_by (role_of context identifier.octets) c) _ g e in let j = ok-is _ _ p.2 in
    ((p.0, value_in (role_of context identifier.octets) c p.0 p.1, sym (ap (λ y. y.value) j)), sym (ap (λ y. y.left) j)))
    (λ s c u v q. let e = value_out (role_of context identifier.octets) c q.0 q.1 in rw e (ap (λ y. Ok (got y u)) (sym q.2))) in
    recast (λ p w e. IsExtensionBody context p w e × Fresh context a e)
    (seqs {m = expect_at 6} {R = Tagged 6} (record { sound = expect-sound 6; full = λ s g last k. expect-full 6 s g k }) (λ identifier.
    guarded (stood_in a (role_of context identifier.octets)) (flaw 6 at)
    (seq {N1 = NotNext 1} flag-exact (λ critical.
    guarded (critical && unread (role_of context identifier.octets)) (flaw 10 at) (content-exact identifier critical))
    (λ x p w v r q l. next-is 4 1 p 0 w r q.1.0 q.1.1))))
    (λ p w e h.
    let i = h.0 in
    let b = h.1.1.3 in
    let k = b.1 in
    let d = k.1.1.3 in (
      (i, (h.1.0, (h.1.1.0, h.1.1.1, h.1.1.2, k))),
      subst (λ (x : Piece). stood_in a (role_of context x.octets) ≡ false) (sym (ap (λ (x : Extn). x.identifier) d.1.2.2)) b.0,
    ))
    (λ p w e h.
    let k = h.0 in
    let d = k.1.1.3.1.1.3 in (
      k.0,
      (
        k.1.0,
        (
          k.1.1.0,
          k.1.1.1,
          k.1.1.2,
          (subst (λ (x : Piece). stood_in a (role_of context x.octets) ≡ false) (ap (λ (x : Extn). x.identifier) d.1.2.2) h.1, k.1.1.3),
        ),
      ),
    ))

extension-exact : (context : Context) (a : Tells) → ExactIf Always (extension_at context a) (λ p w e. IsExtension context p w e × Fresh context a e)
unfolding extension_at
extension-exact context a = recast (λ p w e. IsExtension context p w e × Fresh context a e)
    (in-tag {t = 48} {G = λ s c u. then (all_of (body_at context a s.offset) c) (λ e. Ok (got e u))} {Q = λ c e. IsExtensionBody context c.offset c.octets e × Fresh context a e}
    (λ s c u g e. let p = then_ok (all_of (body_at context a s.offset) c) _ g e in let j = ok-is _ _ p.2 in
    (subst (λ v. IsExtensionBody context c.offset c.octets v × Fresh context a v) (ap (λ y. y.value) j) (all_in (body-exact context a s.offset) c p.0 p.1), sym (ap (λ y. y.left) j)))
    (λ s c u v q. let e = all-out (body-exact context a s.offset) tt c v q in rw e refl))
    (λ p w e h. ((h.0, h.1, h.2.0), h.2.1))
    (λ p w e h. (h.0.0, h.0.1, (h.0.2, h.1)))

-- the value of an extension, whatever else it says
pub extension-value : (context : Context) (p : ℕ) (w : List ℕ) (e : Extn) → IsExtension context p w e → IsValue (role_of context e.identifier.octets) e.content e.tells
extension-value context p w e h =
    let k = h.2 in
    let d = k.1.1.3.1.1.3.1 in
    let c : Piece = d.0 in
    let t : Tells = d.2.0 in
    let q = d.2.2 in
    let x : Extn = record { identifier = k.0; critical = k.1.1.3.0; content = c; tells = t } in
    subst (λ (v : Extn). IsValue (role_of context v.identifier.octets) v.content v.tells) (sym q) d.2.1

-- an extension in its run
pub step-exact : (context : Context) (a : Tells) → ExactIf Always (extension_step context a) (λ p w x. IsExtension context p w x.one × Adds a x.one x.two)
step-exact context a = recast (λ p w (x : Both Extn Tells). IsExtension context p w x.one × Adds a x.one x.two)
    (made (λ e. record { one = e; two = merged a e.tells }) (extension-exact context a))
    (λ p w x h.
    let e = h.0 in
    let v = extension-value context p w e h.1.0 in
    let o = stood-once (role_of context e.identifier.octets) e.content a e.tells v h.1.1 in
    subst (λ (y : Both Extn Tells). IsExtension context p w y.one × Adds a y.one y.two) (sym h.2) (h.1.0, adds-merged a e o))
    (λ p w x h.
    let e = x.one in
    let v = extension-value context p w e h.0 in
    let o = adds-once a e x.two h.1 in
    (e, (h.0, once-stood (role_of context e.identifier.octets) e.content a e.tells v o.0), ap (λ t. record { one = e; two = t }) (sym o.1)))

-- a run of extensions is read exactly where they stand and tell nothing twice
pub extensions-in : (context : Context) (c : Piece) (x : Both (List Extn) Tells) → run_of (extension_step context) silent c ≡ Ok x → Elements (IsExtension context) c.offset c.octets x.one × Together x.one x.two
extensions-in context c x e =
    let r = run_in (extension_step context) (IsExtension context) Adds (step-exact context) (tag-long 48 _) c silent x e in
    (r.0, folds-together x.one x.two r.1)

pub extensions-out : (context : Context) (c : Piece) (x : Both (List Extn) Tells) → Elements (IsExtension context) c.offset c.octets x.one → Together x.one x.two → run_of (extension_step context) silent c ≡ Ok x
extensions-out context c x h t = run_out (extension_step context) (IsExtension context) Adds (step-exact context) (tag-long 48 _) c silent x h (together-folds x.one x.two t)
