use Rattle.std.proofs.Common.{ℕ, ◌+◌, ◌-◌, ◌*◌, ◌≡◌}
use Rattle.std.specs.Prelude.{slice_index}
use Rattle.tau_core.specs.State.{plain}
use Rattle.tau_core.specs.Gather.{GathersOn}
use Rattle.tau_core.specs.Ends.{IsNext}
use Rattle.tau_core.proofs.GathersAll.{WaitsBelow}
use Rattle.tau_core.proofs.gather.gather_round.Given as goal

abbrev pub invariant-loop-worker : goal.invariant-loop-worker
invariant-loop-worker l = record {
  gathers : GathersOn l.stream (plain l.fn.state) (plain l.state);
  next : IsNext l.stream (plain l.fn.state) (plain l.state);
  streams : l.streams ≡ l.state.load.streams;
  workers : l.workers ≡ l.state.load.workers;
  turns : (turns : ℕ) × (l.worker ≡ turns * l.streams + l.stream);
  waits : slice_index l.state.gathered l.stream ≡ slice_index l.fn.state.gathered l.stream → WaitsBelow l.stream l.worker (plain l.state);
}

abbrev pub decreases-loop-worker : goal.decreases-loop-worker
decreases-loop-worker l = l.workers - l.worker
