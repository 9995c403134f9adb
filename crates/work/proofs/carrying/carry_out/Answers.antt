use Rattle.std.proofs.Common.{◌++◌, string_bytes, sym, ap, ◌∙◌}
use Rattle.std.proofs.lemmas.List.{take_all}
use Rattle.work.specs.Answers.{command_text, all_text}
use Rattle.work.proofs.Sayings.{flat_map-more}
use Rattle.work.proofs.carrying.carry_out.Goals as goal

pub loop-command-init : goal.loop-command-init
unfolding all_text
loop-command-init c = c.new-out.ensures.bytes

pub loop-command-preserved : goal.loop-command-preserved
unfolding all_text
loop-command-preserved c =
    let xs = c.args.commands.now in
    let i = c.loop-command.command-index in
    let x = c.command-item.result in
    c.in_ok-writeln.ensures.bytes ∙ ap (λ z. string_bytes c.loop-command.out ++ z) c.answer.ensures ∙ ap (λ z. z ++ command_text x) c.loop-command.invariant ∙ sym (flat_map-more command_text xs i x c.loop-command-test.true c.command-item.is)

pub returns : goal.returns
returns c = c.loop-command.invariant ∙ ap all_text (take_all c.loop-command.command-index c.args.commands.now c.loop-command-test.false)
