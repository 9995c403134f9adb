use Rattle.std.proofs.Common.{length, refl, ap, arith}
use Rattle.writable.proofs.Lengths.{length-content}
use Rattle.writable.proofs.extensions.Bare.content_size.Goals as goal

pub returns-clause-whole : goal.returns-clause-whole
returns-clause-whole c =
    let xs = c.args.self.now.identifier.now in
    let ys = c.args.self.now.content.now in
    let f = ap length c.flag_octets.ensures in
    let a = c.item_size.ensures.whole 6 xs refl in
    let b = c.item_size-2.ensures.whole 4 ys refl in
    let l = length-content xs c.args.self.now.critical ys in
    omega arith
