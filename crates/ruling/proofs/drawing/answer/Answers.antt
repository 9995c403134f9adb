use Rattle.std.proofs.Common.{rules, tests, ◌∙◌}
use Rattle.std.proofs.lemmas.Iterator.{YieldsList-from_slice}
use Rattle.std.proofs.lemmas.Iterator.Consumers.{YieldsList-from_enumerate}
use Rattle.ruling.specs.Cases.{ruling_of, answer_of, no_list}
use Rattle.ruling.specs.Answers.{moved}
use Rattle.ruling.proofs.Scans.{folded_by, heard_folded}
use Rattle.ruling.proofs.Exact.{drawn-and-no-other, valid-exactly, revoked-exactly, more-lists-lead-further, finals-stay, finals-differ-in-kind-or-date}
use Rattle.ruling.proofs.drawing.answer.Goals as goal

pub returns : goal.returns
returns c =
    record {
      answer =
          folded_by answer_of (λ t p. moved p.0 (ruling_of p.1) t) _ _ c.fold.result c.fold.ensures.ran
          (YieldsList-from_enumerate (YieldsList-from_slice c.args.rulings.now (cc)) (cc)) (λ a x b q k. search (rules, tests))
          ∙ heard_folded 0 c.args.rulings.now no_list;
      drawn = drawn-and-no-other;
      valid = valid-exactly;
      revoked = revoked-exactly;
      further = more-lists-lead-further;
      stay = finals-stay;
      differ = finals-differ-in-kind-or-date;
    }
