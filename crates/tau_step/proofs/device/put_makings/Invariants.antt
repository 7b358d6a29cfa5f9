use Rattle.std.proofs.Common.{◌≡◌, ◌++◌, replicate, flat_map}
use Rattle.tau_open.specs.Outside.{calls_to_make}
use Rattle.tau_run.specs.Run.{below}
use Rattle.tau_step.proofs.device.put_makings.Given as goal

abbrev pub invariant-loop-stream : goal.invariant-loop-stream
invariant-loop-stream l = l.order.items ≡ l.initial.order.items ++ flat_map (replicate calls_to_make) (below l.stream)
