-- The starts of the first streams are known.
use Rattle.std.proofs.Common.{ℕ, ◌<◌, ◌≡◌, length}
use Rattle.std.specs.Prelude.{slice_index}
use Rattle.tau_inspect.specs.Walks.{head_of, start_or}
use Rattle.tau_inspect.proofs.walk.first_starts.Given as goal

abbrev pub invariant-loop-j : goal.invariant-loop-j
invariant-loop-j l = record {
  long : length l.reach ≡ length l.ends;
  starts : (k : ℕ) → k < l.j → slice_index l.reach k ≡ start_or (head_of l.all (slice_index l.nexts k) k) (slice_index l.ends k);
}
