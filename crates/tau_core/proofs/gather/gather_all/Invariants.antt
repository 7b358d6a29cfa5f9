use Rattle.std.proofs.Common.{◌-◌}
use Rattle.std.specs.Prelude.{slice_index}
use Rattle.tau_base.specs.declared.limits.TheConstants.{MAX_LSN}
use Rattle.tau_core.specs.State.{plain}
use Rattle.tau_core.specs.Gather.{GathersOn}
use Rattle.tau_core.specs.Ends.{IsNext}
use Rattle.tau_core.proofs.gather.gather_all.Given as goal

abbrev pub invariant-loop-stream : goal.invariant-loop-stream
invariant-loop-stream l = record {
  gathers : GathersOn l.stream (plain l.fn.state) (plain l.state);
  next : IsNext l.stream (plain l.fn.state) (plain l.state);
}

abbrev pub decreases-loop-stream : goal.decreases-loop-stream
decreases-loop-stream l = MAX_LSN - slice_index l.state.gathered l.stream
