use Rattle.std.proofs.Common.{◌≡◌, [], sym, ap, ◌∙◌, true-eqb}
use Rattle.std.proofs.lemmas.List.{nil_from_length}
use Rattle.tokens.specs.Lines.{lines}
use Rattle.tokens.proofs.lines.LinesIterator.next.Goals as goal

pub returns-then-is_empty-clause-steps : goal.returns-then-is_empty-clause-steps
unfolding lines
returns-then-is_empty-clause-steps c =
    let none : c.args.self.now ≡ [] = sym c.self.view_is ∙ ap lines (nil_from_length _ (true-eqb _ 0 c.if-is_empty.ensures)) in
    (none, none)
