use Rattle.std.proofs.Common.{inl, inr, refl}
use Rattle.tau_commands.proofs.checkpoints.make_and_put.Goals as goal

pub returns-in-Ok : goal.returns-in-Ok
returns-in-Ok g c = inr (c.in-Ok.ready, c.in-Ok.ensures.ready, c.put-status.ensures)

pub returns-in-Err : goal.returns-in-Err
returns-in-Err g c = inl (c.in-Err.refusal, c.in-Err.ensures.refused, c.refuse.ensures, refl)
