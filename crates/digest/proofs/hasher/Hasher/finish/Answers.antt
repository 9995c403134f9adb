use Rattle.std.proofs.Common.{List, ◌++◌, ℕ, ap, ◌∙◌}
use Rattle.digest.specs.Sha256.{padding, octets_of}
use Rattle.digest.proofs.HasherLaws.{stream-finished}
use Rattle.digest.proofs.hasher.Hasher.finish.Goals as goal

pub returns : goal.returns
returns c = λ m h.
    let s = c.args.self.now in
    c.octets.ensures ∙ ap octets_of c.last.ensures
    ∙ stream-finished m s.buffer s.state s.total h.state_is h.rest_is h.total_is _ (ap (λ (t : List ℕ). t ++ padding s.total) c.held.ensures)
