use Rattle.std.proofs.Common.{◌≡◌, take}
use Rattle.tau_core.proofs.copies.copied_procs.Given as goal

abbrev pub invariant-loop-proc : goal.invariant-loop-proc
invariant-loop-proc l = l.all ≡ take l.proc-index l.list
