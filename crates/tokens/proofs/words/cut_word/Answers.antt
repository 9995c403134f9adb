use Rattle.std.proofs.Common.{rules, tests}
use Rattle.tokens.specs.Words.{is_blank, in_word}
use Rattle.tokens.proofs.Split.{no-word-left, next-word-is}
use Rattle.tokens.proofs.words.cut_word.Goals as goal

pub returns : goal.returns
returns c =
    let blanks = c.cut_before.ensures in_word (λ b r k. search (rules, tests)) in
    let word = c.cut_before-2.ensures is_blank (λ b r k. search (rules, tests)) in
    record { none = no-word-left _ _ _ _ blanks.1 word.0 word.1; next = next-word-is _ _ _ _ blanks.1 word.0 word.1 }
