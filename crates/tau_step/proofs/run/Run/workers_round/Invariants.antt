use Rattle.std.proofs.Common.{true, ◌≡◌, ◌≤◌, ◌<◌}
use Rattle.tau_step.specs.Optimists.{AreFit, all_turns_left, peeks_of}
use Rattle.tau_step.specs.RunEffects.{Works}
use Rattle.tau_step.proofs.Rounds.{rounded_below}
use Rattle.tau_step.proofs.run.Run.workers_round.Given as goal

abbrev pub invariant-loop-worker : goal.invariant-loop-worker
invariant-loop-worker l = record {
  works : Works (rounded_below l.style (peeks_of l.fn.peekers.items) (peeks_of l.peekers.items) l.worker l.any) true l.fn.self l.self;
  fit : AreFit l.style l.load l.self.core l.peekers.items;
  most : all_turns_left l.self.core (peeks_of l.peekers.items) ≤ all_turns_left l.fn.self.core (peeks_of l.fn.peekers.items);
  fewer : l.any ≡ true → all_turns_left l.self.core (peeks_of l.peekers.items) < all_turns_left l.fn.self.core (peeks_of l.fn.peekers.items);
}
