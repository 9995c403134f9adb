use Rattle.std.proofs.Common.{arith, rules}
use Rattle.std.proofs.lemmas.Result.{err_from_is_err_and}
use Rattle.elements.proofs.Onwards.{onward-none, onward-more, onward-last, onward-stop}
use Rattle.elements.proofs.walk.walk.Goals as goal

pub loop-element-init : goal.loop-element-init
loop-element-init g c = (omega arith, onward-none g.E.Readable.means _ _ _)

pub returns-in_err-element-clause-walked : goal.returns-in_err-element-clause-walked
returns-in_err-element-clause-walked g c =
    let p = err_from_is_err_and c.from_residual.result c.from_residual.ensures.1 in
    rw (p.1, p.2) (onward-stop g.E.Readable.means _ _ _ _ _ _ _ c.loop-element.invariant.1 _ _ _ c.read.ensures.read _ c.in_err-element.was)

pub returns-then-is_empty-clause-walked : goal.returns-then-is_empty-clause-walked
returns-then-is_empty-clause-walked g c =
    rw c.keep.ensures (onward-last g.E.Readable.means _ _ _ _ _ _ _ c.loop-element.invariant.1 _ _ _ c.read.ensures.read _ c.in_ok-element.was (search rules))

pub loop-element-preserved : goal.loop-element-preserved
loop-element-preserved g c =
    let h = c.in_ok-element.ensures.long in
    (omega arith, rw c.keep.ensures (onward-more g.E.Readable.means _ _ _ _ _ _ _ c.loop-element.invariant.1 _ _ _ c.read.ensures.read _ c.in_ok-element.was h (search rules)))
