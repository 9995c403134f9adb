use Rattle.std.proofs.Common.{◌≡◌, ℕ, ◌+◌, ◌-◌, ◌*◌, ◌%◌, ◌∷◌, ◌++◌, length, replicate, fold, ap, ◌∙◌, arith}
use Rattle.compression.specs.Block.{compress}
use Rattle.digest.specs.Sha256.{padding, octets8}
use Rattle.digest.proofs.HashLaws.{blocks-of}
use Rattle.digest.proofs.hash.last.Goals as goal

pub returns-then-rest-lt56 : goal.returns-then-rest-lt56
unfolding padding
returns-then-rest-lt56 c =
    let rest = c.args.rest.now in
    let total = c.args.total in
    let zeros : 64 - 9 - length rest ≡ (55 + 64 - total % 64) % 64 = omega arith in
    c.absorb_blocks.ensures ∙ ap (fold compress c.args.h) c.as_chunks.ensures.front
    ∙ blocks-of c.args.h _ _ (c.padded.ensures ∙ ap (λ (n : ℕ). rest ++ (0x80 ∷ (replicate n 0 ++ octets8 (8 * total)))) zeros)

pub returns-else-rest-lt56 : goal.returns-else-rest-lt56
unfolding padding
returns-else-rest-lt56 c =
    let rest = c.args.rest.now in
    let total = c.args.total in
    let zeros : 128 - 9 - length rest ≡ (55 + 64 - total % 64) % 64 = omega arith in
    c.absorb_blocks-else-rest-lt56.ensures ∙ ap (fold compress c.args.h) c.as_chunks-else-rest-lt56.ensures.front
    ∙ blocks-of c.args.h _ _ (c.padded-else-rest-lt56.ensures ∙ ap (λ (n : ℕ). rest ++ (0x80 ∷ (replicate n 0 ++ octets8 (8 * total)))) zeros)
