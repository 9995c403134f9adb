use Rattle.std.proofs.Common.{◌≡◌, ℕ, Some, None, Option, MatchOption, ap, rules}
use Rattle.report.specs.Values.{moment_text, moment_or_dash, or_dash}
use Rattle.report.specs.declared.values.Moment.{Moment}
use Rattle.report.proofs.lists.BlockLinesDisplay.fmt.Goals as goal

shown : (o : Option ℕ) (r : Option Moment) → MatchOption o (r ≡ None) (λ s. r ≡ Some (record { 0 = s })) → or_dash (λ (m : Moment). Some (moment_text m.0)) r ≡ Some (moment_or_dash o)
shown None r e = ap (or_dash (λ (m : Moment). Some (moment_text m.0))) e
shown (Some s) r e = ap (or_dash (λ (m : Moment). Some (moment_text m.0))) e

pub returns-clause-writes : goal.returns-clause-writes
returns-clause-writes g c =
    let m : MatchOption c.args.self.now.0.told.expired (c.map.result ≡ None) (λ s. c.map.result ≡ Some (record { 0 = s })) = search rules in
    rw (shown _ _ m) at c.write.ensures.writes
