use Rattle.std.proofs.Common.{◌≡◌, map, Ok, Err, sym, ap, ◌∙◌, rules}
use Rattle.refusals.specs.Refusals.{flaw_of}
use Rattle.der.specs.Reads.{part_left}
use Rattle.elements.specs.Runs.{run_of}
use Rattle.elements.proofs.Walks.{walk-ok, walk-err}
use Rattle.telling.specs.Tells.{silent, tells_of}
use Rattle.extension.specs.Extensions.{extension_of, before_tells, extension_step, told_by}
use Rattle.extension.proofs.reading.read_told.Goals as goal

pub returns-in_err-_count : goal.returns-in_err-_count
unfolding told_by
returns-in_err-_count g c =
    let e : run_of (extension_step g.P.Place.stands) silent (part_left c.args.reader) ≡ Err (flaw_of c.in_err-_count.field-0.0) =
    ap (λ a. run_of (extension_step g.P.Place.stands) a (part_left c.args.reader)) (sym c.default.ensures) ∙ walk-err extension_of before_tells (extension_step g.P.Place.stands) _ _ _ _ _ _ _ c.in_err-_count.ensures.walked in
    search rules

pub returns : goal.returns
unfolding told_by
returns g c =
    let w = walk-ok extension_of before_tells (extension_step g.P.Place.stands) _ _ _ _ _ _ _ c.in_ok-_count.ensures.walked in
    let e : run_of (extension_step g.P.Place.stands) silent (part_left c.args.reader) ≡ Ok (record { one = map extension_of w.0; two = tells_of c.walk.new.state.told }) =
    ap (λ a. run_of (extension_step g.P.Place.stands) a (part_left c.args.reader)) (sym c.default.ensures) ∙ w.2 in
    search rules
