use Rattle.tau_desk.specs.Works.{IsSameSeat}
use Rattle.tau_crew.proofs.worker.give_keys_back.Given as goal

abbrev pub invariant-loop : goal.invariant-loop
invariant-loop g l = IsSameSeat l.initial.seat l.seat
