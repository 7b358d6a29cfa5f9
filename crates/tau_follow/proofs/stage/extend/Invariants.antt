-- Those so far, and those that are left.
use Rattle.std.proofs.Common.{◌≡◌, ◌++◌, drop}
use Rattle.tau_follow.specs.Applying.{first_stages, extended}
use Rattle.tau_follow.proofs.stage.extend.Given as goal

abbrev pub invariant-loop-i : goal.invariant-loop-i
invariant-loop-i l = extended l.records l.initial.stages ≡ l.stages ++ first_stages (drop l.i l.records)
