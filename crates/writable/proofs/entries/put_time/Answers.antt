use Rattle.std.proofs.Common.{length, sym, ap, arith}
use Rattle.encode.proofs.Overs.{moved}
use Rattle.writable.proofs.Timed.{utc-length, general-length, utc-octets, general-octets, no-octets}
use Rattle.writable.proofs.entries.put_time.Goals as goal

pub put_item-requires-clause-room : goal.put_item-requires-clause-room
put_item-requires-clause-room c =
    let e = sym c.in-Some.ensures in
    let l = ap length (utc-octets c.args.date _ e) in
    let k = utc-length c.args.date _ e in
    omega arith

pub put_item-requires-in-Some-general_text-clause-room : goal.put_item-requires-in-Some-general_text-clause-room
put_item-requires-in-Some-general_text-clause-room c =
    let e = sym c.in-None.ensures in
    let f = sym c.in-Some-general_text.ensures.text in
    let l = ap length (general-octets c.args.date _ e f) in
    let k = general-length c.args.date _ f in
    omega arith

pub put_item-requires-in-None-general_text-clause-room : goal.put_item-requires-in-None-general_text-clause-room
put_item-requires-in-None-general_text-clause-room c =
    let l = ap length (no-octets c.args.date (sym c.in-None.ensures) (sym c.in-None-general_text.ensures.text)) in
    omega arith

pub returns-in-Some : goal.returns-in-Some
returns-in-Some c = moved (sym (utc-octets c.args.date _ (sym c.in-Some.ensures))) c.put_item.ensures.put

pub returns-in-Some-general_text : goal.returns-in-Some-general_text
returns-in-Some-general_text c = moved (sym (general-octets c.args.date _ (sym c.in-None.ensures) (sym c.in-Some-general_text.ensures.text))) c.put_item-in-Some-general_text.ensures.put

pub returns-in-None-general_text : goal.returns-in-None-general_text
returns-in-None-general_text c = moved (sym (no-octets c.args.date (sym c.in-None.ensures) (sym c.in-None-general_text.ensures.text))) c.put_item-in-None-general_text.ensures.put
