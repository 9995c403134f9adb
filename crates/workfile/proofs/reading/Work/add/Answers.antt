use Rattle.std.proofs.Common.{refl, inl, inr}
use Rattle.workfile.proofs.reading.Work.add.Goals as goal

pub returns-in_ok-push-in-Ok-Some : goal.returns-in_ok-push-in-Ok-Some
returns-in_ok-push-in-Ok-Some g c = inr (inl (c.in-Ok-Some.command, rw c.in-Ok-Some.field-0-is at c.in-Ok-Some.ensures, c.in_ok-push-in-Ok-Some.ensures.items, refl))
