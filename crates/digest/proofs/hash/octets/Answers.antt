use Rattle.std.proofs.Common.{◌≡◌, [], length, ◌∙◌, sym, arith, rules}
use Rattle.digest.proofs.HashLaws.{octets-joined}
use Rattle.digest.proofs.hash.octets.Goals as goal

pub returns : goal.returns
returns c =
    let lv : length c.args.v ≡ 8 = search rules in
    c.copy_from_slice.ensures.after ∙ c.as_flattened.ensures.value
    ∙ octets-joined c.args.v c.map.result (c.map.ensures.items.long ∙ sym lv) (λ i h. (c.map.ensures.items.at i 0 [] (omega arith)).2.met)
