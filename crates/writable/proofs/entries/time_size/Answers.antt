use Rattle.std.proofs.Common.{[], length, sym, refl, ap, arith}
use Rattle.writable.proofs.Timed.{utc-length, general-length, utc-octets, general-octets, no-octets, short-item}
use Rattle.writable.proofs.entries.time_size.Goals as goal

pub returns-in-Some : goal.returns-in-Some
returns-in-Some c =
    let e = sym c.in-Some.ensures in
    let l = ap length (utc-octets c.args.date _ e) in
    let k = short-item 23 c.in-Some.field-0 13 (utc-length c.args.date _ e) (omega arith) in
    omega arith

pub returns-in-Some-general_text : goal.returns-in-Some-general_text
returns-in-Some-general_text c =
    let e = sym c.in-None.ensures in
    let f = sym c.in-Some-general_text.ensures.text in
    let l = ap length (general-octets c.args.date _ e f) in
    let k = short-item 24 c.in-Some-general_text.field-0 15 (general-length c.args.date _ f) (omega arith) in
    omega arith

pub returns-in-None-general_text : goal.returns-in-None-general_text
returns-in-None-general_text c =
    let l = ap length (no-octets c.args.date (sym c.in-None.ensures) (sym c.in-None-general_text.ensures.text)) in
    let k = short-item 24 [] 0 refl (omega arith) in
    omega arith
