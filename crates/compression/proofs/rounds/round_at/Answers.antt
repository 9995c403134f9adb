use Rattle.std.proofs.Common.{ℕ, get_or}
use Rattle.compression.specs.Words.{Σ0, Σ1}
use Rattle.compression.specs.Block.{round}
use Rattle.compression.proofs.WordLaws.{round-by-sums}
use Rattle.compression.proofs.rounds.round_at.Goals as goal

pub returns : goal.returns
unfolding round Σ0 Σ1
returns c =
    let at : ℕ → ℕ = λ i. get_or c.args.v i 0 in
    round-by-sums c.args.kw (at 0) (at 1) (at 2) (at 3) (at 4) (at 5) (at 6) (at 7) c.choose.result c.majority.result
    c.big_sigma-2.result c.big_sigma.result c.choose.ensures c.majority.ensures c.big_sigma-2.ensures c.big_sigma.ensures
