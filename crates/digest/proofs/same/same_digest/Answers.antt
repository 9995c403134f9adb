use Rattle.std.proofs.Common.{◌≡◌, ℕ, eqb, Decides, refl, sym, ap, ◌∙◌, rules, eq-eqb, eqb-true}
use Rattle.std.specs.List.{fold, zip}
use Rattle.std.proofs.lemmas.Fn.{fold_over, fronts}
use Rattle.std.proofs.lemmas.Iterator.{zips, YieldsList-from_slice, YieldsList-from_zip}
use Rattle.std.proofs.lemmas.List.Sums.{fold_push}
use Rattle.std.proofs.lemmas.Slice.Eq.{bytes_eq-Decides}
use Rattle.std.proofs.lemmas.Bool.Decides.{same_from_decides}
use Rattle.digest.proofs.SameLaws.{gather, gathered}
use Rattle.digest.proofs.same.same_digest.Goals as goal

pub returns : goal.returns
returns c =
    let a = c.args.a.now in
    let b = c.args.b.now in
    let is : c.fold.result ≡ fold gather 0 (zip a b) =
    fold_over (zips fronts fronts) (λ p. (p.0.now, p.1.now)) _ (λ ys d. d ≡ fold gather 0 ys) _
    (λ ys d p r f k j. (let e : r ≡ gather d (p.0.now, p.1.now) = search rules in e ∙ ap (λ (n : ℕ). gather n (p.0.now, p.1.now)) k ∙ sym (fold_push gather 0 ys (p.0.now, p.1.now)), search rules))
    c.zip.result (zip a b) 0 c.fold.result (YieldsList-from_zip (YieldsList-from_slice a cc) (YieldsList-from_slice b cc)).runs refl c.fold.ensures.ran in
    let all = gathered a b 0 (c.told-a ∙ sym c.told-b) in
    let told : Decides (eqb c.fold.result 0) (a ≡ b) =
    (λ t. (all.0 (sym is ∙ eqb-true c.fold.result 0 t)).1, λ e. eq-eqb c.fold.result 0 (is ∙ all.1 (refl, e))) in
    record { is = same_from_decides _ _ told (bytes_eq-Decides a b); decides = told }
