use Rattle.std.proofs.Common.{ℕ, ◌++◌, List, replicate, ap, ◌∙◌, rules}
use lib.Bits.{bit_xor}
use Rattle.digest.proofs.HmacLaws.{mapped, keyed-32}
use Rattle.digest.proofs.hmac.keyed_block.Goals as goal

pub returns : goal.returns
returns c =
    let pad = c.args.pad in
    let key = c.args.key.now in
    ap (λ (t : List ℕ). t ++ replicate 32 pad) (c.copy_from_slice.ensures.after ∙ mapped _ _ (λ x. bit_xor x pad) (λ x y q k. search rules) key c.map.result 32 c.told-key c.map.ensures.items)
    ∙ keyed-32 pad key c.told-key
