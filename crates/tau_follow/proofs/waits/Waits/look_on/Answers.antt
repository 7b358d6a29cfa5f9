-- More are looked at, and the same wait.
use Rattle.std.proofs.Common.{refl}
use Rattle.tau_follow.proofs.waits.Waits.look_on.Goals as goal

pub returns-in-Ok-clause-more : goal.returns-in-Ok-clause-more
returns-in-Ok-clause-more c = record { kept = c.in-Ok.ensures.kept; queues = refl; lost = refl }

pub returns-in-Err-clause-more : goal.returns-in-Err-clause-more
returns-in-Err-clause-more c = record { kept = c.in-Err.ensures.kept; queues = refl; lost = refl }
