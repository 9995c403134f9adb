use Rattle.std.proofs.Common.{length, take, drop, unwrap_or, ap, ◌∙◌, rules, tests}
use Rattle.std.proofs.lemmas.List.Sums.{prefix_len-le-length}
use Rattle.std.proofs.lemmas.Iterator.{YieldsList-from_slice}
use Rattle.std.proofs.lemmas.Iterator.Search.{position_from_yields_List}
use Rattle.tokens.proofs.Scans.{found-or-len}
use Rattle.tokens.proofs.runs.cut_before.Goals as goal

pub returns : goal.returns
returns g c = λ p h.
    let text = c.args.text.now in
    let found = position_from_yields_List p _ _ _ c.position.ensures.ran (YieldsList-from_slice text (cc)) (λ x b q k. search (rules, tests)) in
    let place = c.unwrap_or-n.ensures ∙ ap (λ o. unwrap_or o (length text)) found ∙ found-or-len _ _ (prefix_len-le-length _ text) in
    (c.split_at.ensures.front ∙ ap (λ n. take n text) place, c.split_at.ensures.back ∙ ap (λ n. drop n text) place)
