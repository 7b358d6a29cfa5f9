use Rattle.std.proofs.Common.{◌≡◌, drop}
use Rattle.tau_run.specs.Fates.{fates_in}
use Rattle.tau_run.proofs.end.fates_of.Given as goal

abbrev pub invariant-loop-i : goal.invariant-loop-i
invariant-loop-i l = l.fates.items ≡ fates_in l.calls (drop l.i l.committed.items) l.acks
