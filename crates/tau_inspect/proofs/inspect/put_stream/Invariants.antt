-- The lines so far, and the vector of the epoch of the records that are left.
use Rattle.std.proofs.Common.{ℕ, ◌≡◌, ◌++◌, drop}
use Rattle.tau_scan.specs.Epochs.{vector_by}
use Rattle.tau_inspect.specs.Inspection.{stream_lines}
use Rattle.tau_inspect.proofs.inspect.put_stream.Given as goal

abbrev pub invariant-loop-placed : goal.invariant-loop-placed
invariant-loop-placed l = (k : ℕ) × (l.lv ≡ vector_by l.judge k) ×
    (l.initial.out.items ++ stream_lines (vector_by l.judge) l.stream 0 l.records ≡ l.out.items ++ stream_lines (vector_by l.judge) l.stream k (drop l.placed-index l.records))
