-- There is an index for each stream.
use Rattle.std.proofs.Common.{◌≡◌, length}
use Rattle.tau_inspect.proofs.walk.first_indices.Given as goal

abbrev pub invariant-loop-k : goal.invariant-loop-k
invariant-loop-k l = length l.nexts.items ≡ l.width
