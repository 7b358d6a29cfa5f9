-- The streams so far, and those that are left.
use Rattle.std.proofs.Common.{◌≡◌, ◌++◌, drop}
use Rattle.tau_follow.specs.Applying.{ArePassed, reaches}
use Rattle.tau_follow.proofs.reach.reaches.Given as goal

abbrev pub invariant-loop-j : goal.invariant-loop-j
invariant-loop-j l = ArePassed l.stages l.initial.firsts.items → (l.list.items ++ reaches (drop l.j l.streams) (drop l.j l.stages) ≡ reaches l.streams l.stages) × ArePassed l.stages l.firsts.items
