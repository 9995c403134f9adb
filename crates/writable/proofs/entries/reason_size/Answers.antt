use Rattle.std.proofs.Common.{length, sym, ap, ◌∙◌}
use Rattle.der.specs.Reads.{mapped}
use Rattle.telling.specs.Reasons.{reason_number}
use Rattle.writable.specs.Entries.{reason_octets}
use Rattle.writable.proofs.Entered.{reason-length}
use Rattle.writable.proofs.entries.reason_size.Goals as goal

pub returns-in-Some : goal.returns-in-Some
returns-in-Some c = sym (ap (λ o. length (reason_octets (mapped reason_number o))) c.in-Some.is ∙ reason-length _)
