use Rattle.std.proofs.Common.{ℕ, List, ◌++◌, ap, ◌∙◌}
use Rattle.digest.specs.Sha256.{initial}
use Rattle.compression.specs.Block.{compress}
use Rattle.digest.specs.Sha256.{sha256}
use Rattle.digest.specs.Hmac.{keyed, hmac}
use Rattle.digest.proofs.HashLaws.{one_block}
use Rattle.digest.proofs.HmacLaws.{length-keyed}
use Rattle.digest.proofs.hmac.hmac_sha256.Goals as goal

pub returns : goal.returns
unfolding hmac
returns c =
    let key = c.args.key.now in
    let long = length-keyed 0x36 key c.told-key in
    let long2 = length-keyed 0x5c key c.told-key in
    let inner =
    c.finish-inner.ensures (keyed 0x36 key) long
    (c.compress.ensures ∙ ap (compress initial) c.keyed_block.ensures ∙ one_block initial (keyed 0x36 key) long) in
    c.finish.ensures (keyed 0x5c key) long2
    (c.compress-2.ensures ∙ ap (compress initial) c.keyed_block-2.ensures ∙ one_block initial (keyed 0x5c key) long2)
    ∙ ap (λ (t : List ℕ). sha256 (keyed 0x5c key ++ t)) inner
