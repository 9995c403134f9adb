use Rattle.std.proofs.Common.{ℕ, ◌+◌, ◌/◌, ◌%◌, ◌^◌, List, ◌++◌, length, fold, ap, ◌∙◌}
use Rattle.compression.specs.Block.{compress}
use Rattle.digest.specs.Sha256.{absorbed, padding, octets_of}
use Rattle.digest.proofs.HashLaws.{absorbed-chunks, finished}
use Rattle.digest.proofs.hash.finish.Goals as goal

pub returns : goal.returns
returns c = λ p lp eh.
    let m = c.args.m.now in
    let h = c.args.h in
    let pad = padding ((c.args.before + length m) % 2 ^ 64) in
    let x : List ℕ = c.as_chunks.result.1.now ++ pad in
    c.octets.ensures
    ∙ ap octets_of (c.last.ensures ∙ ap (λ (s : List ℕ). absorbed (length x / 64) s x) (c.absorb_blocks.ensures ∙ ap (fold compress h) c.as_chunks.ensures.front ∙ absorbed-chunks (length m / 64) h m))
    ∙ finished p m h c.args.before c.requires lp eh x (ap (λ (t : List ℕ). t ++ pad) c.as_chunks.ensures.back)
