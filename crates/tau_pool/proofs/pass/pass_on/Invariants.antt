-- What is passed so far is recovered, and not ready.
use Rattle.std.proofs.Common.{◌≡◌, drop}
use Rattle.tau_pool.specs.Passing.{pass_from}
use Rattle.tau_pool.proofs.pass.pass_on.Given as goal

abbrev pub invariant-loop-p : goal.invariant-loop-p
invariant-loop-p l = pass_from l.items l.rlv l.reach l.passed (drop l.passed l.waits) ≡ pass_from l.items l.rlv l.reach l.p (drop l.p l.waits)
