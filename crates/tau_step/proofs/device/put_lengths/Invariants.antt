use Rattle.std.proofs.Common.{◌≡◌, ◌++◌}
use Rattle.tau_run.specs.Run.{below}
use Rattle.tau_step.proofs.device.put_lengths.Given as goal

abbrev pub invariant-loop-stream : goal.invariant-loop-stream
invariant-loop-stream l = l.order.items ≡ l.initial.order.items ++ below l.stream
