use Rattle.std.proofs.Common.{◌≡◌, ◌++◌, take, replicate, flat_map}
use Rattle.tau_step.specs.Counts.{calls_to_flush}
use Rattle.tau_step.proofs.device.put_flushes.Given as goal

abbrev pub invariant-loop-stream : goal.invariant-loop-stream
invariant-loop-stream l = l.order.items ≡ l.initial.order.items ++ flat_map (replicate calls_to_flush) (take l.stream-index l.flushes)
