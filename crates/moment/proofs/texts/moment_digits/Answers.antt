use Rattle.std.proofs.Common.{sym, ◌∙◌}
use Rattle.moment.proofs.Writing.{four-digit-year}
use Rattle.moment.proofs.texts.moment_digits.Goals as goal

pub map-requires : goal.map-requires
map-requires c x e = four-digit-year c.args.m x (sym e ∙ c.time_of.ensures.time)
