use Rattle.std.proofs.Common.{◌≡◌, ℕ, ◌+◌, ◌<◌, ◌^◌, List, length, vec_items, inl, sym, ap, ◌∙◌, subst, arith}
use Rattle.std.specs.Iterator.Adapters.{enumerate_source, enumerate_count}
use Rattle.tokens.specs.Lines.{lines}
use Rattle.tokens.specs.Words.{words}
use Rattle.workfile.specs.Files.{Adds}
use Rattle.workfile.proofs.Steps.{Carries, no_line, one_line, all_lines, length-lines}
use Rattle.workfile.proofs.reading.read_work.Goals as goal

pub loop-above-init-derived : goal.loop-above-init-derived
loop-above-init-derived g c =
    let it = c.into_iter-above-iterator.ensures.into_iter_gives in
    let none : enumerate_count c.into_iter-above-iterator.result ≡ 0 = ap enumerate_count it ∙ c.enumerate-above-items.ensures.count in
    let whole = ap (λ i. length (enumerate_source i)) it ∙ ap length (c.enumerate-above-items.ensures.source ∙ c.new-3.ensures) in
    let fits : enumerate_count c.into_iter-above-iterator.result + length (enumerate_source c.into_iter-above-iterator.result) < 2 ^ 64 = omega (arith, whole, length-lines c.args.text.now) in
    ((tt, tt, inl fits), tt)

pub loop-above-init : goal.loop-above-init
loop-above-init g c =
    let it = c.into_iter-above-iterator.ensures.into_iter_gives in
    no_line _ _ _ _ _ (ap enumerate_source it ∙ c.enumerate-above-items.ensures.source ∙ c.new-3.ensures) (ap enumerate_count it ∙ c.enumerate-above-items.ensures.count) c.new.ensures.items c.new-2.ensures.items

pub loop-above-preserved : goal.loop-above-preserved
loop-above-preserved g c =
    let all = lines c.args.text.now in
    let s = c.in-Some.ensures.steps in
    let before = subst (λ (left : List (List ℕ)). Carries all (enumerate_count c.loop-above.above-iterator + 1) left (vec_items c.loop-above.work.commands) (vec_items c.loop-above.work.flaws)) s.0 c.loop-above.invariant in
    let adds = subst (λ (n : ℕ). Adds (n + 1) (words c.in-Some.line.now) (vec_items c.loop-above.work.commands) (vec_items c.loop-above.work.flaws) (vec_items c.add.new.self.commands) (vec_items c.add.new.self.flaws)) s.1 c.in_ok-add.ensures in
    let added = one_line all _ _ _ _ _ _ _ adds before in
    subst (λ (n : ℕ). Carries all (n + 1) (enumerate_source c.next.new.self) (vec_items c.add.new.self.commands) (vec_items c.add.new.self.flaws)) (sym s.2) added

pub returns : goal.returns
returns g c = all_lines _ _ _ _ _ c.in-None.ensures.steps.0.0 c.loop-above.invariant
