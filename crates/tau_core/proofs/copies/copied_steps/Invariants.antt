use Rattle.std.proofs.Common.{◌≡◌, take}
use Rattle.tau_core.proofs.copies.copied_steps.Given as goal

abbrev pub invariant-loop-step : goal.invariant-loop-step
invariant-loop-step l = l.all ≡ take l.step-index l.steps
