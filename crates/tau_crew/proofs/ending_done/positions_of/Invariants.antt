-- The positions of those before are there.
use Rattle.std.proofs.Common.{ℕ, ◌<◌, ◌≡◌, length, slice_index}
use Rattle.tau_crew.specs.EndDone.{durables}
use Rattle.tau_crew.proofs.ending_done.positions_of.Given as goal

abbrev pub invariant-loop-stream : goal.invariant-loop-stream
invariant-loop-stream g l = (length l.positions ≡ length l.jobs.items) × ((j : ℕ) → j < l.stream → slice_index l.positions j ≡ slice_index (durables l.jobs.items) j)
