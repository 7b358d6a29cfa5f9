use Rattle.tau_desk.specs.Works.{IsSameSeat}
use Rattle.tau_desk_runs.proofs.work.works.Given as goal

abbrev pub invariant-loop : goal.invariant-loop
invariant-loop g l = IsSameSeat l.fn.seat l.seat
