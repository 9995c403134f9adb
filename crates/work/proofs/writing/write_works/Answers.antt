use Rattle.std.proofs.Common.{◌≡◌, ℕ, List, vec_items, sym, ap, ◌∙◌, subst}
use Rattle.std.proofs.lemmas.List.{take_all}
use Rattle.std.proofs.KnownBytes.{Appends-nil, Appends-trans}
use Rattle.std.specs.Io.KnownBytes.{Appends}
use Rattle.workfile.specs.declared.reading.Work.{Work}
use Rattle.work.specs.Answers.{all_text, works_text}
use Rattle.work.proofs.Sayings.{flat_map-more}
use Rattle.work.proofs.writing.write_works.Goals as goal

pub loop-work-init : goal.loop-work-init
unfolding works_text
loop-work-init g c = Appends-nil _

pub loop-work-preserved : goal.loop-work-preserved
unfolding works_text
loop-work-preserved g c =
    let xs = c.args.works.now in
    let i = c.loop-work.work-index in
    let x = c.work-item.result in
    let f : Work → List ℕ = λ w. all_text (vec_items w.commands) in
    let before = g.W.Write.contents c.args.out.now in
    let after = g.W.Write.contents c.write_all.new.self in
    let said : c.as_bytes.result.now ≡ f x = c.as_bytes.ensures.value ∙ c.in_ok-text.ensures ∙ ap all_text c.deref.ensures.value in
    let one : Appends (g.W.Write.contents c.loop-work.out) after (f x) = subst (λ (bs : List ℕ). Appends (g.W.Write.contents c.loop-work.out) after bs) said c.in_ok-write_all.ensures.bytes in
    subst (λ (bs : List ℕ). Appends before after bs) (sym (flat_map-more f xs i x c.loop-work-test.true c.work-item.is)) (Appends-trans before (g.W.Write.contents c.loop-work.out) after _ _ c.loop-work.invariant one)

pub returns-clause-written : goal.returns-clause-written
returns-clause-written g c = subst (λ (ws : List Work). Appends (g.W.Write.contents c.args.out.now) (g.W.Write.contents c.loop-work.out) (works_text ws)) (take_all c.loop-work.work-index c.args.works.now c.loop-work-test.false) c.loop-work.invariant
