use Rattle.std.proofs.Common.{length, ap, arith}
use Rattle.encode.proofs.Overs.{then, moved, item}
use Rattle.writable.specs.Extensions.{extension_content, extension_octets}
use Rattle.writable.proofs.Lengths.{lengths, bare-lengths}
use Rattle.writable.proofs.extensions.Bare.put.Goals as goal

pub content_size-requires : goal.content_size-requires
content_size-requires c =
    let b = c.args.self.now in
    let l = lengths b.identifier.now b.critical b.content.now in
    (omega arith, omega arith)

pub put_head-start-requires : goal.put_head-start-requires
put_head-start-requires c =
    let e = c.content_size.ensures.whole in
    let l = bare-lengths c.args.self.now _ e in
    record { room = omega arith; short = omega arith }

pub put_item-flag-requires : goal.put_item-flag-requires
put_item-flag-requires c =
    let e = c.content_size.ensures.whole in
    let l = bare-lengths c.args.self.now _ e in
    record { room = omega (arith, c.put_head-start.ensures.end_is, c.put_head-start.auto.out); short = omega arith }

pub put-value-requires : goal.put-value-requires
put-value-requires c =
    let e = c.content_size.ensures.whole in
    let l = bare-lengths c.args.self.now _ e in
    let f = ap length c.flag_octets.ensures in
    omega (arith, c.put_head-start.ensures.end_is, c.put_head-start.auto.out, c.put_item-flag.ensures.put.end_is, c.put_item-flag.auto.out)

pub put_item-requires : goal.put_item-requires
put_item-requires c =
    let e = c.content_size.ensures.whole in
    let l = bare-lengths c.args.self.now _ e in
    let f = ap length c.flag_octets.ensures in
    record {
      room = omega (arith, c.put_head-start.ensures.end_is, c.put_head-start.auto.out, c.put_item-flag.ensures.put.end_is, c.put_item-flag.auto.out, c.put-value.ensures.end_is, c.put-value.auto.out);
      short = omega arith;
    }

pub returns : goal.returns
unfolding extension_octets extension_content
returns c =
    item c.content_size.ensures.whole c.put_head-start.ensures (then c.put_item-flag.ensures.put (then (moved c.flag_octets.ensures c.put-value.ensures) c.put_item.ensures.put))
