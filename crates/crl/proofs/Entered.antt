-- Entries are read exactly where they stand. Assumes nothing.
use Rattle.std.proofs.Common.{◌≡◌, None, Ok, sym, refl, ap}
use Rattle.refusals.specs.Refusals.{flaw}
use Rattle.der.specs.Reads.{then, got}
use Rattle.der.specs.Items.{all_of}
use Rattle.elements.specs.Runs.{run_of}
use Rattle.telling.specs.declared.role.Context.TheVariants.{Entry as InEntry}
use Rattle.telling.specs.Tells.{Tells, silent}
use Rattle.extension.specs.Extensions.{extension_step}
use Rattle.entry.specs.Entries.{serial_is, serial_at, reasons_at, entry_body_at, entry_at}
use Rattle.grammar.specs.Grammar.{ExactIf, Always, Last}
use Rattle.grammar.proofs.Reading.{then_ok, ok-is}
use Rattle.grammar.proofs.Combine.{seqs, made, in-tag, tested, inside, all_in, all-out, tag-long, maybe-last}
use Rattle.crl.specs.Profile.{AreExtensions, IsSerial, IsReasons, IsEntryBody, IsEntry}
use Rattle.crl.proofs.Timely.{time-exact}
use Rattle.crl.proofs.Extends.{extensions-in, extensions-out}

serial-exact : ExactIf Always serial_at IsSerial
unfolding serial_at
serial-exact = tested {t = 2} (λ c. serial_is c.octets) (λ c. c) (λ s. flaw 6 s.offset)

reasons-exact : ExactIf Last reasons_at IsReasons
unfolding reasons_at
reasons-exact = maybe-last None
    (in-tag {t = 48} {G = λ s c u. then (run_of (extension_step InEntry) silent c) (λ v. Ok (got v.two.reason u))} {Q = λ c r. (t : Tells) × AreExtensions InEntry c t × (r ≡ t.reason)}
    (λ s c u g e.
    let p = then_ok (run_of (extension_step InEntry) silent c) _ g e in
    let j = ok-is _ _ p.2 in
    let r = extensions-in InEntry c p.0 p.1 in
    ((p.0.two, (p.0.one, r.0, r.1), sym (ap (λ y. y.value) j)), sym (ap (λ y. y.left) j)))
    (λ s c u v q.
    let e = extensions-out InEntry c (record { one = q.1.0; two = q.0 }) q.1.1 q.1.2 in
    rw e (ap (λ y. Ok (got y u)) (sym q.2))))
    (tag-long 48 _)

entry-body-exact : ExactIf Last entry_body_at IsEntryBody
unfolding entry_body_at
entry-body-exact = seqs serial-exact (λ serial. seqs time-exact (λ date. made (λ reason. record { serial = serial; date = date; reason = reason }) reasons-exact))

pub entry-exact : ExactIf Always entry_at IsEntry
unfolding entry_at
entry-exact = inside {t = 48} (all_of entry_body_at) (λ c e. IsEntryBody c.offset c.octets e) (all_in entry-body-exact) (all-out entry-body-exact refl)
