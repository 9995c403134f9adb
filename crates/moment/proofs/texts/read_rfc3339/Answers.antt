use Rattle.std.proofs.Common.{◌≡◌, ap, ◌∙◌, sym}
use Rattle.moment.specs.Forms.{rfc3339_form}
use Rattle.moment.specs.Texts.{rfc3339_read, rfc3339_time, year_at}
use Rattle.moment.proofs.Reading.{read_some, same_time}
use Rattle.moment.proofs.texts.read_rfc3339.Goals as goal

pub returns-clause-read : goal.returns-clause-read
unfolding rfc3339_read
returns-clause-read c =
    let xs = c.args.text.now in
    let t = c.in_ok-spelled.ensures in
    let e : c.time.result ≡ rfc3339_time xs =
    c.time.ensures ∙ same_time _ _ _ _ _ _ _ _ t.1 (c.year.ensures ∙ ap year_at t.1) t.2 t.3 in
    read_some rfc3339_form c.time.result (rfc3339_time xs) xs c.moment_of.result (sym t.0) e c.moment_of.ensures
