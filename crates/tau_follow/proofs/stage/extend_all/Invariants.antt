-- The streams so far, and those that are left.
use Rattle.std.proofs.Common.{◌≡◌, ◌++◌, drop, take, length}
use Rattle.tau_follow.specs.Applying.{extended_from}
use Rattle.tau_follow.proofs.stage.extend_all.Given as goal

abbrev pub invariant-loop-j : goal.invariant-loop-j
invariant-loop-j l = (take l.j l.all.items ++ extended_from (drop l.j l.streams) (drop l.j l.all.items) ≡ extended_from l.streams l.initial.all.items) × (length l.all.items ≡ length l.streams)
