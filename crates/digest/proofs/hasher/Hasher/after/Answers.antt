use Rattle.std.proofs.Common.{◌≡◌, ℕ, ◌+◌, ◌-◌, ◌%◌, ◌/◌, ◌^◌, ◌<◌, List, ◌++◌, length, take, drop, fold, refl, ap, ◌∙◌, arith, length-append, rules}
use Rattle.std.proofs.lemmas.List.{length-take-le}
use Rattle.compression.specs.Block.{compress}
use Rattle.digest.specs.Sha256.{absorbed}
use Rattle.digest.proofs.HashLaws.{absorbed-chunks}
use Rattle.digest.proofs.HasherLaws.{small-state, small-rest, large-state, large-rest}
use Rattle.digest.proofs.hasher.Hasher.after.Goals as goal

total-more : (m part : List ℕ) (total : ℕ) → total ≡ length m % 2 ^ 64 → (total + length part) % 2 ^ 64 ≡ length (m ++ part) % 2 ^ 64
total-more m part total e = omega (arith, length-append m part)

-- as many octets are held as the message leaves over from whole blocks
held-length : (m buffer held : List ℕ) (total : ℕ) → length buffer ≡ 64 → held ≡ take (total % 64) buffer → total ≡ length m % 2 ^ 64 → length held ≡ length m % 64
held-length m buffer held total lb e et = ap length e ∙ length-take-le (total % 64) buffer (omega arith) ∙ (let s : total % 64 ≡ length m % 64 = omega arith in s)

pub returns-in_default : goal.returns-in_default
returns-in_default c = λ m h.
    let s = c.args.self.now in
    let part = c.args.part.now in
    let filled = length c.held-filled.result.now in
    let lb : length s.buffer ≡ 64 = search rules in
    let same = held-length m s.buffer c.held-filled.result.now s.total lb c.held-filled.ensures h.total_is in
    let short = c.in_default.ensures.cases in
    let few : length m % 64 + length part < 64 = omega arith in
    record {
      state_is = h.state_is ∙ small-state m part s.buffer few;
      rest_is =
          ap (take (length (m ++ part) % 64))
          (c.over.ensures ∙ ap (λ (j : ℕ). take j s.buffer ++ (part ++ drop (filled + length part) s.buffer)) same)
          ∙ small-rest m part s.buffer few (drop (filled + length part) s.buffer) h.rest_is;
      total_is = total-more m part s.total h.total_is;
    }

pub returns : goal.returns
returns c = λ m h.
    let s = c.args.self.now in
    let part = c.args.part.now in
    let filled = length c.held-filled.result.now in
    let room = 64 - filled in
    let f = c.in-Some.first.now in
    let r = c.in-Some.rest.now in
    let z = drop (0 + length c.as_chunks.result.1.now) s.buffer in
    let lb : length s.buffer ≡ 64 = search rules in
    let same = held-length m s.buffer c.held-filled.result.now s.total lb c.held-filled.ensures h.total_is in
    let cut = c.in-Some.ensures.cases in
    record {
      state_is =
          c.absorb_blocks.ensures ∙ ap (fold compress c.compress.result) c.as_chunks.ensures.front ∙ absorbed-chunks (length r / 64) c.compress.result r
          ∙ ap (λ (v : List ℕ). absorbed (length r / 64) v r) c.compress.ensures
          ∙ large-state m part s.buffer f r filled room same refl cut.0 cut.1 cut.2 h.rest_is lb s.state c.over-block.result h.state_is c.over-block.ensures;
      rest_is =
          ap (take (length (m ++ part) % 64)) (c.over-2.ensures ∙ ap (λ (t : List ℕ). t ++ z) c.as_chunks.ensures.back)
          ∙ large-rest m part s.buffer f r filled room same refl cut.0 cut.1 cut.2 h.rest_is lb z;
      total_is = total-more m part s.total h.total_is;
    }
