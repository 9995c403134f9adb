use Rattle.std.proofs.Common.{ℕ, ◌-◌, List, ◌∷◌, ◌++◌, length, drop, set, replicate, refl, ap, ◌∙◌}
use Rattle.digest.proofs.PadLaws.{padded-made, octets8-mod}
use Rattle.digest.proofs.pad.padded.Goals as goal

pub returns : goal.returns
returns g c =
    let rest = c.args.rest.now in
    let n = length rest in
    let N = g.row.N in
    padded-made rest c.copy_from_slice-2.new.self n N refl c.requires _
    (ap (λ (t : List ℕ). set (t ++ drop n (replicate N 0)) n 0x80) c.copy_from_slice.ensures.after)
    ∙ ap (λ (b : List ℕ). rest ++ (0x80 ∷ (replicate (N - 9 - n) 0 ++ b))) (c.copy_from_slice-2.ensures.after ∙ c.to_be_bytes.ensures ∙ octets8-mod c.args.total)
