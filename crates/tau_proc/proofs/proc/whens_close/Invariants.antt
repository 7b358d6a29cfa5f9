use Rattle.std.proofs.Common.{◌≡◌, ◌≤◌, drop}
use Rattle.std.specs.Prelude.{Some}
use Rattle.tau_proc.specs.Limits.{open_whens}
use Rattle.tau_proc.proofs.proc.whens_close.Given as goal

abbrev pub invariant-loop-step : goal.invariant-loop-step
invariant-loop-step l = record {
  behind : open_whens (Some 0) l.steps ≡ open_whens (Some l.open) (drop l.step-index l.steps);
  few : l.open ≤ l.step-index;
}
