-- What is known outside a run of its disks and its sink.
use Rattle.std.specs.Prelude.{ℕ, List}
use Rattle.tau_run.specs.Start.{Start}

-- What the call that runs a workload knows of its disks and of its sink. A clause that says `RunFacts` names each of these.
pub record Outside : Type 1 where
  -- what the streams held when the run began
  pub start : Start
  -- the disks, and what they held, were in order when the run began
  pub began_in_order : Type 0
  -- a stop at some moment since that may have left this image of the stream
  pub may_have_left : ℕ → List ℕ → Type 0
  -- a stop now may leave this image of the stream
  pub may_leave : ℕ → List ℕ → Type 0
  -- the count of faults of the stream's disk rose
  pub disk_rose : ℕ → Type 0
  -- the count of faults of the sink rose
  pub sink_rose : Type 0
  -- how many calls open the stream's disk
  pub opening_calls : ℕ → ℕ
  -- the stream's disk has had so many calls
  pub had_calls : ℕ → ℕ → Type 0
  -- this text was written to the sink
  pub wrote : List ℕ → Type 0
  -- the line that tells that the stream's disk failed before the run began
  pub fault_line : ℕ → List ℕ
