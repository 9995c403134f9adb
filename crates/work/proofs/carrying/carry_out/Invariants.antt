use Rattle.std.proofs.Common.{◌≡◌, take, string_bytes}
use Rattle.work.specs.Answers.{all_text}
use Rattle.work.proofs.carrying.carry_out.Given as goal

abbrev pub invariant-loop-command : goal.invariant-loop-command
invariant-loop-command l = string_bytes l.out ≡ all_text (take l.command-index l.commands)
