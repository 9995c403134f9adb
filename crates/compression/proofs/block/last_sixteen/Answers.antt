use Rattle.std.proofs.Common.{◌≡◌, ℕ, ◌/◌, List, [], get_or, ap, ◌∙◌, rules}
use Rattle.std.specs.Simd.{first_chunks}
use Rattle.compression.specs.Block.{rounds}
use Rattle.compression.proofs.WindowLaws.{rounds-fours}
use Rattle.compression.proofs.block.last_sixteen.Goals as goal

pub returns : goal.returns
returns c =
    let s = c.args.s in
    let k = c.args.k.now in
    let cut : c.as_chunks.result.0.now ≡ first_chunks 4 4 k = c.as_chunks.ensures.front ∙ ap (λ (n : ℕ). first_chunks 4 (n / 4) k) c.requires in
    let part : List (List ℕ) → ℕ → List ℕ = λ x i. get_or x i [] in
    let all = c.as_chunks.result.0.now in
    c.four_rounds.ensures
    ∙ ap (rounds (part all 3) s.w3) (c.four_rounds-v-3.ensures ∙ ap (rounds (part all 2) s.w2) (c.four_rounds-v-2.ensures ∙ ap (rounds (part all 1) s.w1) c.four_rounds-v.ensures))
    ∙ ap (λ (x : List (List ℕ)). rounds (part x 3) s.w3 (rounds (part x 2) s.w2 (rounds (part x 1) s.w1 (rounds (part x 0) s.w0 s.v)))) cut
    ∙ rounds-fours k s.w0 s.w1 s.w2 s.w3 s.v c.requires (search rules) (search rules) (search rules)
