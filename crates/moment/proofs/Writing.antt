-- What the code of a writer shows of its text.
use Rattle.std.proofs.Common.{◌≡◌, ℕ, ◌<◌, Some, sym, arith}
use Rattle.calendar.specs.declared.times.Time.{Time}
use Rattle.calendar.specs.Moments.{time_of}
use Rattle.calendar.proofs.Clocks.{moments-and-times, moment-valid}

pub four-digit-year : (m : ℕ) (t : Time) → Some t ≡ time_of m → t.date.year < 10000
four-digit-year m t e = let v = moment-valid t m ((moments-and-times m t).0 (sym e)) in omega (arith, v.0.date.year-to)
