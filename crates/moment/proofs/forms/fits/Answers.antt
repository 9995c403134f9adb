use Rattle.std.proofs.Common.{rules, tests, ◌∙◌}
use Rattle.std.proofs.lemmas.Iterator.{YieldsList-from_slice, YieldsList-from_zip}
use Rattle.std.proofs.lemmas.Iterator.Search.{all_from_yields_List}
use Rattle.moment.specs.Forms.{fills}
use Rattle.moment.proofs.Fitting.{longer_fits_not, fits_by_all}
use Rattle.moment.proofs.forms.fits.Goals as goal

pub returns-then-form-text : goal.returns-then-form-text
returns-then-form-text c =
    let form = c.args.form.now in
    let text = c.args.text.now in
    all_from_yields_List (λ p. fills p.0 p.1) c.all.new.self _ c.all.result c.all.ensures.ran
    (YieldsList-from_zip (YieldsList-from_slice form (cc)) (YieldsList-from_slice text (cc))) (λ x b q k. search (rules, tests))
    ∙ fits_by_all form text c.if-form-text.true

pub returns-else-form-text : goal.returns-else-form-text
returns-else-form-text c = longer_fits_not c.args.form.now c.args.text.now c.if-form-text.false
