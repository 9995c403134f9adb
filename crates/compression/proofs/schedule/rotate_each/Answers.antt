use Rattle.std.proofs.Common.{rules}
use Rattle.compression.proofs.LaneLaws.{rotate-each}
use Rattle.compression.proofs.schedule.rotate_each.Goals as goal

pub returns : goal.returns
returns g c = rotate-each g.row.N c.args.x (search rules)
