use Rattle.std.proofs.lemmas.Result.{err_from_is_err_and}
use Rattle.workfile.proofs.Unprinted.{first-unprintable, second-unprintable}
use Rattle.workfile.proofs.commands.inspect_line.Goals as goal

pub returns-in_err-source : goal.returns-in_err-source
returns-in_err-source g c =
    let p = err_from_is_err_and c.from_residual-in_err-source.result c.from_residual-in_err-source.ensures.1 in
    let b = c.in_err-source.ensures in
    rw (p.1, p.2, b.0) (first-unprintable _ _ _ c.in_ok-take_word.ensures b.1)

pub returns-in_err-label : goal.returns-in_err-label
returns-in_err-label g c =
    let p = err_from_is_err_and c.from_residual-in_err-label.result c.from_residual-in_err-label.ensures.1 in
    let b = c.in_err-label.ensures in
    rw (p.1, p.2, b.0) (second-unprintable _ _ _ _ _ c.in_ok-take_word.ensures b.1.1 b.1.2)
