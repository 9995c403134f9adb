use Rattle.std.proofs.Common.{◌≡◌, ◌+◌, ◌-◌, ap, arith}
use Rattle.calendar.proofs.Years.{days_to-is, through}
use Rattle.calendar.proofs.year_start.Goals as goal

pub returns : goal.returns
returns c =
    let h = days_to-is (c.args.year - 1950) in
    let e : c.args.year - 1950 + 1949 ≡ c.args.year - 1 = omega arith in
    omega (arith, h, ap through e)
