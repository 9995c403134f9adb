use Rattle.std.proofs.Common.{◌≡◌, ℕ, ◌+◌, List, take, drop, refl, ap, ◌∙◌, ◌==◌, rules, tests, arith}
use Rattle.std.proofs.lemmas.List.{drop-drop}
use Rattle.std.proofs.lemmas.Grind.{common_steps}
use Rattle.tokens.specs.Runs.{run}
use Rattle.tokens.specs.Lines.{in_line}
use Rattle.tokens.proofs.Scans.{run-prefix_len}
use Rattle.tokens.proofs.Split.{cut-falls, cut_parts}
use Rattle.tokens.proofs.lines.cut_line.Goals as goal

pub returns : goal.returns
returns c =
    let text = c.args.text.now in
    let cut = c.cut_before.ensures (λ b. b == 10) (λ b r k. search (rules, tests)) in
    let place = run-prefix_len in_line in_line (λ b. refl) text in
    let tail : c.unwrap_or_default.result.now ≡ drop 1 c.cut_before.result.1.now = grind (arith, common_steps) in
    let front : c.cut_before.result.0.now ≡ take (run in_line text) text = cut.0 ∙ ap (λ n. take n text) place in
    let back : c.unwrap_or_default.result.now ≡ drop (run in_line text + 1) text = tail ∙ ap (λ (l : List ℕ). drop 1 l) (cut.1 ∙ ap (λ n. drop n text) place) ∙ drop-drop 1 (run in_line text) text in
    record { front = front; back = back; falls = cut-falls text _ back; parts = cut_parts text _ _ front back }
