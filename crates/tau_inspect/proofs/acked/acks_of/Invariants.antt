-- What was gone through, and what is left.
use Rattle.std.proofs.Common.{◌≡◌, ◌++◌, length}
use Rattle.tau_inspect.proofs.acked.acks_of.Given as goal

abbrev pub invariant-loop-number : goal.invariant-loop-number
invariant-loop-number l = l.all.items ++ l.walk ≡ l.acks

abbrev pub decreases-loop-number : goal.decreases-loop-number
decreases-loop-number l = length l.walk
