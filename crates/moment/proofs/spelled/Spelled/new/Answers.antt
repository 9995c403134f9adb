use Rattle.std.proofs.Common.{◌+◌, ◌*◌, [], ◌∷◌, arith}
use Rattle.std.proofs.lemmas.List.Sums.{AllPass-from_list_all}
use Rattle.moment.specs.Forms.{two_zeros}
use Rattle.moment.proofs.Reading.{digits_at}
use Rattle.moment.proofs.spelled.Spelled.new.Goals as goal

pub invariant_of-result : goal.invariant_of-result
invariant_of-result c =
    let k = c.args.month in
    let s = c.args.step in
    let zeros =
    AllPass-from_list_all (two_zeros c.args.form.now)
    (0 ∷ 2 ∷ k ∷ (k + s) ∷ (k + 2 * s) ∷ (k + 3 * s) ∷ (k + 4 * s) ∷ []) c.requires in
    let two = digits_at c.args.form.now c.args.text.now c.if-not-fits.ensures in
    record {
      year = (two _ (zeros 0 0 (omega arith)), two _ (zeros 1 0 (omega arith)));
      date = (two _ (zeros 2 0 (omega arith)), two _ (zeros 3 0 (omega arith)));
      hour = two _ (zeros 4 0 (omega arith));
      minute = two _ (zeros 5 0 (omega arith));
      second = two _ (zeros 6 0 (omega arith));
    }
