-- None of those before was out of memory.
use Rattle.std.proofs.Common.{ℕ, ◌<◌, ◌≡◌, false}
use Rattle.std.specs.Prelude.{Some, slice_get}
use Rattle.tau_crew.proofs.ending_done.none_short.Given as goal

abbrev pub invariant-loop-stream : goal.invariant-loop-stream
invariant-loop-stream g l = (j : ℕ) (job : _) → j < l.stream → slice_get l.jobs.items j ≡ Some job → job.short ≡ false
