use Rattle.std.proofs.Common.{rules}
use Rattle.ruling.proofs.Tables.{only-ruling}
use Rattle.ruling.proofs.listing.rule.Goals as goal

pub returns-then-not-covers-clause-table : goal.returns-then-not-covers-clause-table
returns-then-not-covers-clause-table c = only-ruling _ _ _ _ _ (search rules)

pub returns-clause-table : goal.returns-clause-table
returns-clause-table c = only-ruling _ _ _ _ _ (search rules)
