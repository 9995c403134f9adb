use Rattle.std.proofs.Common.{◌≡◌, ℕ, ◌<◌, ◌/◌, List, [], get_or, ap, ◌∙◌, arith}
use Rattle.std.specs.Simd.{first_chunks}
use Rattle.compression.specs.Block.{words, word_at}
use Rattle.compression.proofs.WindowLaws.{same4, word-of_chunk}
use Rattle.compression.proofs.load.four_words.Goals as goal

pub returns : goal.returns
unfolding words
returns c =
    let b = c.args.octets.now in
    let cut : c.as_chunks.result.0.now ≡ first_chunks 4 4 b = c.as_chunks.ensures.front ∙ ap (λ (n : ℕ). first_chunks 4 (n / 4) b) c.told-octets in
    let part : (i : ℕ) → i < 4 → word_at (get_or c.as_chunks.result.0.now i []) 0 ≡ word_at b i =
    λ i h. ap (λ (x : List (List ℕ)). word_at (get_or x i []) 0) cut ∙ word-of_chunk b 4 i h in
    same4 (c.word.ensures ∙ part 0 (omega arith)) (c.word-2.ensures ∙ part 1 (omega arith))
    (c.word-3.ensures ∙ part 2 (omega arith)) (c.word-4.ensures ∙ part 3 (omega arith))
