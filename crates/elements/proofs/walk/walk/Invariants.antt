use Rattle.std.proofs.Common.{◌+◌, ◌≤◌, length}
use Rattle.elements.specs.Runs.{Onward}
use Rattle.elements.proofs.walk.walk.Given as goal

abbrev pub invariant-loop-element : goal.invariant-loop-element
invariant-loop-element g l =
    (l.count + length l.reader.rest ≤ l.most) × Onward g.E.Readable.means l.initial.state l.initial.reader l.count l.state l.reader l.initial.out l.out

abbrev pub decreases-loop-element : goal.decreases-loop-element
decreases-loop-element g l = length l.reader.rest
