-- The laws that the calendar's functions ensure.
use Rattle.calendar.proofs.Days.{days-and-dates}
use Rattle.calendar.proofs.Clocks.{moments-and-times}

pub ruleset laws = (days-and-dates, moments-and-times)
