-- No stream so far has a next record.
use Rattle.std.proofs.Common.{ℕ, ◌<◌, ◌≡◌}
use Rattle.std.specs.Prelude.{None}
use Rattle.tau_inspect.specs.Walks.{next_of}
use Rattle.tau_inspect.proofs.walk.is_at_end.Given as goal

abbrev pub invariant-loop-j : goal.invariant-loop-j
invariant-loop-j l = (k : ℕ) → k < l.j → next_of l.all l.walk k ≡ None
