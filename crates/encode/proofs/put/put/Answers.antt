use Rattle.std.proofs.Common.{◌≡◌, ℕ, ◌+◌, ◌-◌, List, ◌++◌, length, take, drop, refl, ap, ◌∙◌, arith}
use Rattle.std.proofs.lemmas.List.{drop-drop}
use Rattle.encode.specs.Over.{over}
use Rattle.encode.proofs.put.put.Goals as goal

pub returns : goal.returns
unfolding over
returns c =
    let s = c.args.out.now in
    let from = c.args.from.now in
    let at = c.args.at in
    record {
      memory = ap (λ (ys : List ℕ). take at s ++ (ys ++ drop (at + length from - at) (drop at s))) c.copy_from_slice.ensures.after
          ∙ ap (λ (t : List ℕ). take at s ++ (from ++ t))
          (drop-drop (at + length from - at) at s ∙ ap (λ (n : ℕ). drop n s) (let e : at + (at + length from - at) ≡ at + length from = omega arith in e));
      end_is = refl;
    }
