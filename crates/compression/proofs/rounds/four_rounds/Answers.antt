use Rattle.std.proofs.Common.{◌≡◌, ℕ, List, sym, ◌∙◌, rules}
use Rattle.std.specs.List.{fold}
use lib.Lanes.{zip2}
use Rattle.compression.specs.Words.{plus}
use Rattle.compression.specs.Block.{round}
use Rattle.compression.proofs.BlockLaws.{rounds-fold}
use Rattle.compression.proofs.rounds.four_rounds.Goals as goal

pub returns : goal.returns
returns c =
    let e : c.fold.result ≡ fold (λ (u : List ℕ) (x : ℕ). round 0 x u) c.args.v (zip2 plus c.args.k.now c.args.w) = search rules in
    e ∙ sym (rounds-fold c.args.k.now c.args.w c.args.v)
