-- No stream so far has a covered record next.
use Rattle.std.proofs.Common.{ℕ, ◌<◌, ◌≡◌, false}
use Rattle.tau_inspect.specs.Walks.{head_passes, next_of}
use Rattle.tau_inspect.proofs.walk.lowest_covered.Given as goal

abbrev pub invariant-loop-j : goal.invariant-loop-j
invariant-loop-j l = (k : ℕ) → k < l.j → head_passes l.walk.reach (next_of l.all l.walk k) ≡ false
