use Rattle.std.proofs.Common.{refl, arith}
use Rattle.encode.proofs.Overs.{item}
use Rattle.encode.proofs.Ders.{length-der, items-written}
use Rattle.encode.proofs.put.put_item.Goals as goal

pub put_head-start-requires : goal.put_head-start-requires
put_head-start-requires c = record { room = omega (arith, length-der c.args.tag c.args.content.now, c.requires.room); short = c.requires.short }

pub put-requires : goal.put-requires
put-requires c = omega (arith, length-der c.args.tag c.args.content.now, c.requires.room, c.put_head-start.ensures.end_is)

pub returns : goal.returns
returns c = record { put = item refl c.put_head-start.ensures c.put.ensures; law = items-written }
