use Rattle.std.proofs.Common.{◌≡◌, ◌-◌, ◌+◌, ◌≤◌, List, length, drop}
use Rattle.tau_base.specs.declared.value.Value.{Value}
use Rattle.tau_proc.specs.Progress.{KeepsCourse}
use Rattle.tau_proc.specs.Stage.{stage_of}
use Rattle.tau_proc.proofs.machine.run_on.Given as goal

abbrev pub invariant-loop-done : goal.invariant-loop-done
invariant-loop-done l = record {
  keeps : KeepsCourse l.args l.steps l.done l.running;
  stands : (vs : List Value) → stage_of l.args (drop l.done l.steps) (l.done + 1) l.running vs ≡ stage_of l.args (drop l.fn.done l.steps) (l.fn.done + 1) l.fn.running vs;
  later : l.fn.done ≤ l.done;
}

abbrev pub decreases-loop-done : goal.decreases-loop-done
decreases-loop-done l = length l.steps - l.done
