use Rattle.std.proofs.Common.{length, Some, sym, ap, ◌∙◌, arith}
use Rattle.der.specs.Reads.{mapped}
use Rattle.telling.specs.Reasons.{reason_number}
use Rattle.encode.proofs.Overs.{none, moved, item}
use Rattle.writable.specs.Entries.{reason_octets}
use Rattle.writable.proofs.Entered.{reason-length, reason-inner}
use Rattle.writable.proofs.entries.put_reason.Goals as goal

pub put_head-start-requires-clause-room : goal.put_head-start-requires-clause-room
put_head-start-requires-clause-room c =
    let l = ap (λ o. length (reason_octets (mapped reason_number o))) c.in-Some.is ∙ reason-length (reason_number c.in-Some.found) in
    omega arith

pub put-requires : goal.put-requires
put-requires c =
    let l = ap (λ o. length (reason_octets (mapped reason_number o))) c.in-Some.is ∙ reason-length (reason_number c.in-Some.found) in
    let i = reason-inner c.from.result in
    record { room = omega (arith, c.put_head-start.ensures.end_is, c.put_head-start.auto.out); short = omega arith }

pub returns-in-None : goal.returns-in-None
returns-in-None c = moved (sym (ap (λ o. reason_octets (mapped reason_number o)) c.in-None.is)) (none _ _)

pub returns-in-Some : goal.returns-in-Some
returns-in-Some c =
    moved (ap (λ n. reason_octets (Some n)) c.from.ensures ∙ sym (ap (λ o. reason_octets (mapped reason_number o)) c.in-Some.is))
    (item (sym (reason-inner c.from.result)) c.put_head-start.ensures c.put.ensures)
