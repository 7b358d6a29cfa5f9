use Rattle.std.proofs.Common.{◌≡◌, ◌++◌, take}
use Rattle.tau_proc.proofs.program.copy_behind.Given as goal

abbrev pub invariant-loop-step : goal.invariant-loop-step
invariant-loop-step l = l.all.items ≡ l.fn.all.items ++ take l.step-index l.steps
