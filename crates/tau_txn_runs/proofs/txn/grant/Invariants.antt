use Rattle.std.proofs.Common.{◌≡◌}
use Rattle.tau_txn.specs.Txn.{RunsBy}
use Rattle.tau_txn_runs.proofs.txn.grant.Given as goal

abbrev pub invariant-loop : goal.invariant-loop
invariant-loop g l = record { run : RunsBy l.procs l.txn; width : l.txn.width ≡ l.fn.txn.width }
