-- Those that wait, so far.
use Rattle.std.proofs.Common.{◌≡◌, ◌++◌, drop}
use Rattle.tau_pool.specs.Passing.{waits_at}
use Rattle.tau_pool.proofs.waits.waits_at.Given as goal

abbrev pub invariant-loop-item : goal.invariant-loop-item
invariant-loop-item l = l.waits.items ++ waits_at l.k l.reach l.item (drop l.item l.items) ≡ waits_at l.k l.reach 0 l.items
