use Rattle.std.proofs.Common.{length, ap, arith}
use Rattle.entry.specs.Entries.{line_of}
use Rattle.encode.specs.Der.{length_octets}
use Rattle.encode.proofs.Overs.{then, item}
use Rattle.writable.specs.Entries.{entry_content, entry_octets}
use Rattle.writable.proofs.Entered.{entry-lengths, entry-reads}
use Rattle.writable.proofs.entries.EntryWritablePlain.put.Goals as goal

pub content_size-requires : goal.content_size-requires
content_size-requires c = let l = entry-lengths (line_of c.args.self.now) in omega arith

pub put_head-start-requires : goal.put_head-start-requires
put_head-start-requires c =
    let s = (line_of c.args.self.now).serial in
    let l = entry-lengths (line_of c.args.self.now) in
    let e = c.content_size.ensures.whole in
    let h = ap (λ n. length (length_octets n)) e in
    record { room = omega arith; short = omega arith }

pub put_item-date-requires : goal.put_item-date-requires
put_item-date-requires c =
    let s = (line_of c.args.self.now).serial in
    let l = entry-lengths (line_of c.args.self.now) in
    let e = c.content_size.ensures.whole in
    let h = ap (λ n. length (length_octets n)) e in
    record { room = omega (arith, c.put_head-start.ensures.end_is, c.put_head-start.auto.out); short = omega arith }

pub put_time-reason-requires : goal.put_time-reason-requires
put_time-reason-requires c =
    let s = (line_of c.args.self.now).serial in
    let l = entry-lengths (line_of c.args.self.now) in
    let e = c.content_size.ensures.whole in
    let h = ap (λ n. length (length_octets n)) e in
    omega (arith, c.put_head-start.ensures.end_is, c.put_head-start.auto.out, c.put_item-date.ensures.put.end_is, c.put_item-date.auto.out)

pub put_reason-requires : goal.put_reason-requires
put_reason-requires c =
    let s = (line_of c.args.self.now).serial in
    let l = entry-lengths (line_of c.args.self.now) in
    let e = c.content_size.ensures.whole in
    let h = ap (λ n. length (length_octets n)) e in
    omega (arith, c.put_head-start.ensures.end_is, c.put_head-start.auto.out, c.put_item-date.ensures.put.end_is, c.put_item-date.auto.out, c.put_time-reason.ensures.end_is, c.put_time-reason.auto.out)

pub returns : goal.returns
unfolding entry_octets entry_content
returns c =
    let s = (line_of c.args.self.now).serial in
    let e = c.content_size.ensures.whole in
    record {
      put = item e c.put_head-start.ensures (then c.put_item-date.ensures.put (then c.put_time-reason.ensures c.put_reason.ensures));
      back = entry-reads c.args.self.now c.requires.short;
    }
