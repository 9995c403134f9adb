use Rattle.std.proofs.Common.{refl, arith}
use Rattle.der.specs.Reads.{mapped}
use Rattle.telling.specs.Reasons.{reason_number}
use Rattle.entry.specs.Entries.{line_of}
use Rattle.writable.proofs.Timed.{time-within}
use Rattle.writable.proofs.Entered.{reason-within, entry-lengths}
use Rattle.writable.proofs.entries.content_size.Goals as goal

pub overflow_add-result : goal.overflow_add-result
overflow_add-result c = omega (arith, time-within c.args.entry.now.date, reason-within (mapped reason_number c.args.entry.now.reason))

pub overflow_add-result-2 : goal.overflow_add-result-2
overflow_add-result-2 c = omega (arith, time-within c.args.entry.now.date, reason-within (mapped reason_number c.args.entry.now.reason))

pub returns : goal.returns
returns c =
    let e = line_of c.args.entry.now in
    let t = time-within e.date in
    let r = reason-within e.reason in
    let l = entry-lengths e in
    let a = c.item_size.ensures.whole 2 e.serial.octets refl in
    record { whole = omega arith; bound = (omega arith, omega arith) }
