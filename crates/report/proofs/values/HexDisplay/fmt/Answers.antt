use Rattle.std.proofs.Common.{refl, arith}
use Rattle.std.proofs.Output.{writes_in_calls_nil, has_written_append, has_written_of_eq}
use Rattle.report.specs.Values.{hexed}
use Rattle.report.proofs.Hexes.{hexed-more}
use Rattle.report.proofs.values.HexDisplay.fmt.Goals as goal

pub loop-b-init : goal.loop-b-init
unfolding hexed
loop-b-init g c = λ plain. record { wrote = writes_in_calls_nil g.W.Write.write_str_gives _; plain = plain }

pub loop-b-preserved : goal.loop-b-preserved
loop-b-preserved g c =
    λ plain.
    let before = c.loop-b.invariant plain in
    let digits = (rw (c.laid_out.ensures, c.in_radix.ensures) at c.in_ok-write.ensures.writes) before.plain refl in
    has_written_of_eq g.W.Write.write_str_gives _ _ _ _ (hexed-more c.args.self.now.0.now c.loop-b.b-index c.loop-b-test.true (omega arith)) (has_written_append g.W.Write.write_str_gives _ _ _ _ _ before digits)
