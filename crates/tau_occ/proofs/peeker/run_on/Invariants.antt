use Rattle.std.proofs.Common.{List}
use Rattle.tau_base.specs.declared.value.Call.{Call}
use Rattle.tau_proc.specs.declared.proc.Proc.{Proc}
use Rattle.tau_proc.specs.Progress.{wants_left}
use Rattle.tau_txn.specs.Progress.{Follows}
use Rattle.tau_occ.proofs.peeker.run_on.Given as goal

abbrev pub invariant-loop-key : goal.invariant-loop-key
invariant-loop-key l = (procs : List Proc) (c : Call) → Follows procs c l.seen l.fn.machine → Follows procs c l.seen l.machine

abbrev pub decreases-loop-key : goal.decreases-loop-key
decreases-loop-key l = wants_left l.machine
