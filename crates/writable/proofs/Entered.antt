-- What is written as an entry is one, and reads back. Assumes nothing.
use Rattle.std.proofs.Common.{◌≡◌, ℕ, ◌+◌, ◌<◌, ◌≤◌, true, false, List, [], ◌∷◌, ◌++◌, length, Some, None, Ok, Option, Result, sym, refl, ap, ◌∙◌, subst, inl, inr, append-nil, arith, length-append, MatchResult}
use Rattle.refusals.specs.declared.grounds.Fault.{Fault}
use Rattle.elements.specs.declared.walk.Plain.{Plain}
use Rattle.elements.specs.Names.{plain_of}
use Rattle.der.specs.Reads.{Left, got, told_both, mapped}
use Rattle.items.specs.Parts.{Piece}
use Rattle.telling.specs.declared.reason.Reason.{Reason}
use Rattle.telling.specs.declared.reason.Reason.TheVariants.{KeyCompromise, CaCompromise, AffiliationChanged, Superseded, CessationOfOperation, PrivilegeWithdrawn, AaCompromise}
use Rattle.telling.specs.declared.role.Context.TheVariants.{Entry as InEntry}
use Rattle.telling.specs.Reasons.{reason_number, admitted}
use Rattle.telling.specs.Roles.{reason_identifier}
use Rattle.extension.specs.Extensions.{Extn}
use Rattle.entry.specs.declared.entries.Entry.{Entry}
use Rattle.entry.specs.Entries.{Line, line_of, entry_step, entry_at}
use Rattle.grammar.specs.Items.{Tagged}
use Rattle.crl.specs.Profile.{IsReasons, IsEntry}
use Rattle.crl.proofs.Entered.{entry-exact}
use Rattle.encode.specs.Der.{der, length_octets}
use Rattle.encode.proofs.Ders.{length-der, items-written}
use Rattle.writable.specs.Extensions.{extension_content, extension_octets}
use Rattle.writable.specs.Entries.{time_octets, reason_octets, entry_content, entry_octets, AlikeLine, MayBeListed}
use Rattle.writable.proofs.Lengths.{der-within}
use Rattle.writable.proofs.Built.{within, extension-built, told_back}
use Rattle.writable.proofs.Timed.{time-within, time-built}

-- the octets of a reason, however it is called
pub reason-length : (n : ℕ) → length (reason_octets (Some n)) ≡ 14
unfolding der extension_content extension_octets
reason-length n = refl

pub reason-inner : (n : ℕ) → length (extension_octets reason_identifier false (10 ∷ 1 ∷ n ∷ [])) ≡ 12
unfolding der extension_content extension_octets
reason-inner n = refl

pub reason-within : (o : Option ℕ) → length (reason_octets o) ≤ 14
reason-within None = omega arith
reason-within (Some n) = omega (arith, reason-length n)

-- the lengths of an entry and of its parts
pub record Lengths (e : Line) : Type 0 where
  pub whole : length (entry_octets e) ≡ 1 + length (length_octets (length (entry_content e))) + length (entry_content e)
  pub inner : length (entry_content e) ≡ length (der 2 e.serial.octets) + (length (time_octets e.date) + length (reason_octets e.reason))
  pub low : length e.serial.octets + 2 ≤ length (der 2 e.serial.octets)
  pub high : length (der 2 e.serial.octets) ≤ length e.serial.octets + 4
  pub time : length (time_octets e.date) ≤ 17
  pub reason : length (reason_octets e.reason) ≤ 14

pub entry-lengths : (e : Line) → Lengths e
unfolding entry_octets entry_content
entry-lengths e = record {
  whole = length-der 48 (entry_content e);
  inner = length-append (der 2 e.serial.octets) _ ∙ ap (λ n. length (der 2 e.serial.octets) + n) (length-append (time_octets e.date) (reason_octets e.reason));
  low = (der-within 2 e.serial.octets).0;
  high = (der-within 2 e.serial.octets).1;
  time = time-within e.date;
  reason = reason-within e.reason;
}

pub entry_length : (e : Line) → length (entry_octets e) ≡ length (der 48 (entry_content e))
unfolding entry_octets
entry_length e = refl

reason-admitted : (r : Reason) → admitted (reason_number r) ≡ true
reason-admitted KeyCompromise = refl
reason-admitted CaCompromise = refl
reason-admitted AffiliationChanged = refl
reason-admitted Superseded = refl
reason-admitted CessationOfOperation = refl
reason-admitted PrivilegeWithdrawn = refl
reason-admitted AaCompromise = refl

-- the extension of a reason, at no place in particular
abbrev reason-extension : ℕ → Extn
reason-extension n = record { identifier = record { octets = reason_identifier; offset = 0 }; critical = false; content = record { octets = 10 ∷ 1 ∷ n ∷ []; offset = 0 }; tells = record { number = None; expired = None; reason = Some n } }

reason-value : (n : ℕ) → admitted n ≡ true → (c : Piece) × Tagged 10 0 (10 ∷ 1 ∷ n ∷ []) c × (c.octets ≡ n ∷ [])
unfolding der
reason-value n h = (within 0 (n ∷ []), items-written 10 0 (n ∷ []) refl refl (omega arith), refl)

reason-built : (p : ℕ) (o : Option Reason) → IsReasons p (reason_octets (mapped reason_number o)) (mapped reason_number o)
reason-built p None = inl (refl, refl)
reason-built p (Some r) =
    let n = reason_number r in
    let v = reason-value n (reason-admitted r) in
    let c = within p (extension_octets reason_identifier false (10 ∷ 1 ∷ n ∷ [])) in
    let i = reason-inner n in
    let k = extension-built InEntry c.offset (reason-extension n) (omega arith) (v.0, v.1, (n, v.2, reason-admitted r, refl)) refl in
    let t = k.0.tells in
    inr (
      c,
      items-written 48 p _ refl refl (omega arith),
      (t, (k.0 ∷ [], k.1, record { number = append-nil _; expired = append-nil _; reason = append-nil _ }), sym k.2.tells.reason),
    )

-- an entry that may be listed, written at an offset
entry-built : (p : ℕ) (s : Piece) (m : ℕ) (o : Option Reason) → length (entry_octets (record { serial = s; date = m; reason = mapped reason_number o })) ≤ 65535
    → MayBeListed (record { serial = s; date = m; reason = mapped reason_number o })
    → (x : Line) × IsEntry p (entry_octets (record { serial = s; date = m; reason = mapped reason_number o })) x × AlikeLine x (record { serial = s; date = m; reason = mapped reason_number o })
unfolding entry_octets entry_content
entry-built p s m o short may =
    let xs = s.octets in
    let r = mapped reason_number o in
    let e : Line = record { serial = s; date = m; reason = r } in
    let l = entry-lengths e in
    let s1 : length (entry_content e) < 65536 = omega arith in
    let s2 : length xs < 65536 = omega arith in
    let body = within p (der 2 xs ++ (time_octets m ++ reason_octets r)) in
    let i = within body.offset xs in
    let q = body.offset + length (der 2 xs) in (
      record { serial = i; date = m; reason = r },
      (
        body,
        items-written 48 p _ refl refl s1,
        (
          i,
          (
            der 2 xs,
            (
              time_octets m ++ reason_octets r,
              refl,
              (i, items-written 2 body.offset xs refl may.integer s2, (may.serial, refl)),
              (m, (time_octets m, (reason_octets r, refl, time-built q m may.date, (r, reason-built (q + length (time_octets m)) o, refl)))),
            ),
          ),
        ),
      ),
      record { serial = refl; date = refl; reason = refl },
    )

-- an entry that was written reads back
pub entry-reads : (e : Entry) → length (entry_octets (line_of e)) ≤ 65535
    → (a : Plain) (p : ℕ) (rest : List ℕ) (r : Result Entry Fault) (b : Plain) (t : Left) → MayBeListed (line_of e)
    → told_both line_of plain_of r b t ≡ entry_step (plain_of a) (record { rest = entry_octets (line_of e) ++ rest; offset = p })
    → MatchResult r (λ y. AlikeLine (line_of y) (line_of e) × (t.rest ≡ rest)) (λ _. ⊥)
entry-reads e short a p rest r b t may h =
    let w = entry_octets (line_of e) in
    let k = entry-built p (line_of e).serial e.date e.reason short may in
    let s : Left = record { rest = w ++ rest; offset = p } in
    let u : Left = record { rest = rest; offset = p + length w } in
    let f : entry_at s ≡ Ok (got k.0 u) = entry-exact.full s (got k.0 u) tt (record { front = w; rest = refl; offset = refl; shape = k.1 }) in
    let g : entry_step tt s ≡ Ok (got (record { one = k.0; two = tt }) u) = rw f refl in
    told_back line_of plain_of (λ y. AlikeLine (line_of y) (line_of e) × (t.rest ≡ rest)) r b t k.0 tt u (h ∙ g)
    (λ y ey et. (subst (λ x. AlikeLine x (line_of e)) (sym ey) k.2, ap (λ q. q.rest) et))
