use Rattle.crl.proofs.Counted.{entries-yielded}
use Rattle.crl.proofs.each.each_entry.Goals as goal

pub returns-in-Some-clause-yielded : goal.returns-in-Some-clause-yielded
returns-in-Some-clause-yielded c = entries-yielded

pub returns-in-None-clause-yielded : goal.returns-in-None-clause-yielded
returns-in-None-clause-yielded c = entries-yielded
