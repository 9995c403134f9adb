use Rattle.std.proofs.Common.{rules}
use Rattle.compression.proofs.WindowLaws.{leads-four}
use Rattle.compression.proofs.block.four.Goals as goal

pub returns : goal.returns
returns c =
    leads-four c.args.s c.next_four.result c.four_rounds.result c.args.k.now
    (search rules) (search rules) (search rules) (search rules) (search rules) c.told-k c.next_four.ensures c.four_rounds.ensures
