use Rattle.std.proofs.Common.{[], refl}
use Rattle.digest.specs.Sha256.{absorbed}
use Rattle.digest.proofs.hash.sha256.Goals as goal

pub returns : goal.returns
unfolding absorbed
returns c = c.finish.ensures [] refl refl
