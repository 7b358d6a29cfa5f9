-- The streams that were looked at are persisted as far as their writers have them durable.
use Rattle.tau_crew.specs.EndSettles.{KeepsSight, SightDurable}
use Rattle.tau_crew.proofs.ending_settle.look_at.Given as goal

abbrev pub invariant-loop-stream : goal.invariant-loop-stream
invariant-loop-stream g l = KeepsSight l.initial.seat l.seat × SightDurable l.seat.seen l.writers.items l.stream
