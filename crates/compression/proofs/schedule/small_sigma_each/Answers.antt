use Rattle.std.proofs.Common.{rules}
use Rattle.compression.proofs.LaneLaws.{small-each}
use Rattle.compression.proofs.schedule.small_sigma_each.Goals as goal

pub returns : goal.returns
returns g c = small-each g.row.P g.row.Q g.row.S c.args.x _ _ (search rules) c.rotate_each.ensures c.rotate_each-2.ensures
