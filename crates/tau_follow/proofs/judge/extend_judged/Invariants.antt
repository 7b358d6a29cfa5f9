-- Those so far, and those that are left.
use Rattle.std.proofs.Common.{◌≡◌, ◌≤◌, ◌++◌, drop, take, length}
use Rattle.tau_follow.specs.Applying.{first_stages}
use Rattle.tau_follow.specs.Judging.{judged_in, with_judged}
use Rattle.tau_follow.proofs.judge.extend_judged.Given as goal

abbrev pub invariant-loop-i : goal.invariant-loop-i
invariant-loop-i l = (with_judged l.known l.number-2 l.records l.initial.stages ≡ l.stages ++ judged_in l.known l.number (drop l.i l.records) (first_stages (drop l.i l.records))) × (take (length l.initial.stages) l.stages ≡ l.initial.stages) × (length l.initial.stages ≤ length l.stages)
