use Rattle.std.proofs.Common.{refl}
use Rattle.std.proofs.lemmas.Result.{err_from_is_err_and}
use Rattle.der.proofs.reader.Reader.enclosed.Goals as goal

pub returns-in_err-value-clause-read : goal.returns-in_err-value-clause-read
returns-in_err-value-clause-read g c =
    let p = err_from_is_err_and c.from_residual-in_err-value.result c.from_residual-in_err-value.ensures.1 in
    rw (← c.in_ok-inner.ensures.read, p.1, p.2) (c.read.result, c.read.new.arg2, record { shown = _; shows = refl; left = _; met = c.read.ensures; leaves = refl }, rw c.in_err-value.was refl, tt)

pub returns-in_err-end-clause-read : goal.returns-in_err-end-clause-read
returns-in_err-end-clause-read g c =
    let p = err_from_is_err_and c.from_residual-in_err-end.result c.from_residual-in_err-end.ensures.1 in
    rw (← c.in_ok-inner.ensures.read, p.1, p.2) (c.read.result, c.read.new.arg2, record { shown = _; shows = refl; left = _; met = c.read.ensures; leaves = refl }, rw (c.in_ok-value.was, ← c.in_err-end.ensures.end) refl, tt)

pub returns-clause-read : goal.returns-clause-read
returns-clause-read g c =
    rw (← c.in_ok-inner.ensures.read) (c.read.result, c.read.new.arg2, record { shown = _; shows = refl; left = _; met = c.read.ensures; leaves = refl }, rw (c.in_ok-value.was, ← c.in_ok-end.ensures.end) refl, refl)
