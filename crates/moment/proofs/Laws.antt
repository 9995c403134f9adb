-- The laws that readers and writers ensure.
use Rattle.moment.proofs.Inverses.{utc-inverse, general-inverse, rfc3339-inverse}
use Rattle.moment.proofs.Orders.{general-ordered, rfc3339-ordered}
use Rattle.moment.proofs.Refusals.{utc-existing, general-existing, rfc3339-existing}

pub ruleset laws = (utc-inverse, general-inverse, rfc3339-inverse, general-ordered, rfc3339-ordered, utc-existing, general-existing, rfc3339-existing)
