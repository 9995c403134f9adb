use Rattle.std.proofs.Common.{◌≡◌, ℕ, ◌+◌, ◌/◌, List, ◌++◌, length, take, sym, ap, ◌∙◌, ap₂, arith}
use Rattle.std.specs.Simd.{first_chunks}
use Rattle.std.specs.List.{flat_map}
use Rattle.std.proofs.lemmas.List.{take_all}
use lib.Lanes.{zip2}
use Rattle.compression.specs.Words.{plus}
use Rattle.compression.specs.Constants.{constants}
use Rattle.compression.specs.Block.{rounds, schedule, compress}
use Rattle.compression.specs.Windows.{words_in}
use Rattle.compression.proofs.BlockLaws.{schedule-none}
use Rattle.compression.proofs.WindowLaws.{joined}
use Rattle.compression.proofs.block.compress.Goals as goal

pub returns : goal.returns
unfolding compress
returns c =
    let s = c.loop-k.s in
    let start = c.start-s.result in
    let last = c.split_at.result.1.now in
    let sixteens = c.as_chunks.result.0.now in
    let cut : sixteens ≡ first_chunks 16 3 (take 48 constants) =
    c.as_chunks.ensures.front ∙ ap (λ (x : List ℕ). first_chunks 16 (length x / 16) x) c.split_at.ensures.front in
    let done : flat_map (λ x. x) (take c.loop-k.k-index sixteens) ≡ take 48 constants =
    ap (flat_map (λ x. x)) (take_all c.loop-k.k-index sixteens (omega arith) ∙ cut) ∙ joined 16 3 (take 48 constants) in
    ap (zip2 plus c.args.h)
    (c.last_sixteen.ensures ∙ ap (λ (ws : List ℕ). rounds last ws s.v) (sym (schedule-none (words_in s)))
    ∙ c.loop-k.invariant.left 0 last
    ∙ ap₂ (λ (x y : List ℕ). rounds (x ++ y) (schedule (length x + 0) (words_in start)) start.v) done c.split_at.ensures.back
    ∙ ap₂ (λ (ws v : List ℕ). rounds constants (schedule 48 ws) v) c.start-s.ensures.words c.start-s.ensures.state)
