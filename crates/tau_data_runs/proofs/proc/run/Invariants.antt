use Rattle.tau_proc.specs.Progress.{wants_left}
use Rattle.tau_data_runs.proofs.proc.run.Given as goal

abbrev pub decreases-loop-key : goal.decreases-loop-key
decreases-loop-key g l = wants_left l.machine
