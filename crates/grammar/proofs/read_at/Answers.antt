use Rattle.std.proofs.Common.{rules}
use Rattle.std.proofs.lemmas.List.{drop_all}
use Rattle.der.specs.Items.{item_at}
use Rattle.grammar.specs.Law.{item_in}
use Rattle.grammar.proofs.read_at.Goals as goal

pub returns-in_err-ok_or : goal.returns-in_err-ok_or
unfolding item_in item_at
returns-in_err-ok_or c = search (rules, drop_all)

pub returns : goal.returns
unfolding item_in
returns c = search rules
