use Rattle.std.proofs.Common.{ℕ, List, ◌++◌, sym, ap, ◌∙◌, ap₂, append_assoc, rules}
use lib.Lanes.{zip2}
use Rattle.compression.specs.Words.{plus, σ0, σ1}
use Rattle.compression.proofs.LaneLaws.{some_of, all_of, next-four-law}
use Rattle.compression.proofs.schedule.Window.next_four.Goals as goal

pub returns : goal.returns
unfolding σ0 σ1
returns c =
    let w0 = c.args.self.w0 in
    let w1 = c.args.self.w1 in
    let w2 = c.args.self.w2 in
    let w3 = c.args.self.w3 in
    next-four-law w0 w1 w2 w3 (search rules) (search rules) (search rules) (search rules)
    ∙ ap (λ (t : List ℕ). w0 ++ (w1 ++ (w2 ++ (w3 ++ t))))
    (sym (ap (zip2 plus (some_of w0 w2 w3 c.small_sigma_each.result c.small_sigma_each-2.result)) c.small_sigma_each-3.ensures
    ∙ ap₂ (λ (s t : List ℕ). all_of (some_of w0 w2 w3 s t)) c.small_sigma_each.ensures c.small_sigma_each-2.ensures))
    ∙ sym (simp append_assoc)
