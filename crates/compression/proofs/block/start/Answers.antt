use Rattle.std.proofs.Common.{◌≡◌, ℕ, ◌*◌, ◌<◌, ◌/◌, List, [], ◌++◌, map, get_or, ap, ◌∙◌, ap₂, arith}
use Rattle.std.specs.Simd.{first_chunks}
use Rattle.std.specs.List.{range_with_len}
use Rattle.compression.specs.Block.{words, word_at}
use Rattle.compression.proofs.WindowLaws.{words-of_chunk}
use Rattle.compression.proofs.block.start.Goals as goal

pub returns-clause-words : goal.returns-clause-words
unfolding words
returns-clause-words c =
    let b = c.args.block.now in
    let cut : c.as_chunks.result.0.now ≡ first_chunks 16 4 b = c.as_chunks.ensures.front ∙ ap (λ (n : ℕ). first_chunks 16 (n / 16) b) c.told-block in
    let four : (i : ℕ) → i < 4 → words 4 (get_or c.as_chunks.result.0.now i []) ≡ map (word_at b) (range_with_len (4 * i) 4) =
    λ i h. ap (λ (x : List (List ℕ)). words 4 (get_or x i [])) cut ∙ words-of_chunk b 4 i h in
    let join : List ℕ → List ℕ → List ℕ = λ x y. x ++ y in
    ap₂ join (c.four_words.ensures ∙ four 0 (omega arith)) (ap₂ join (c.four_words-2.ensures ∙ four 1 (omega arith))
    (ap₂ join (c.four_words-3.ensures ∙ four 2 (omega arith)) (c.four_words-4.ensures ∙ four 3 (omega arith))))
