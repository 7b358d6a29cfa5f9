-- The lines of the streams so far.
use Rattle.std.proofs.Common.{◌≡◌, ◌++◌, drop}
use Rattle.tau_scan.specs.Epochs.{vector_by}
use Rattle.tau_inspect.specs.Inspection.{streams_lines}
use Rattle.tau_inspect.proofs.inspect.put_streams.Given as goal

abbrev pub invariant-loop-records : goal.invariant-loop-records
invariant-loop-records l = record {
  counted : l.stream ≡ l.records-index;
  text : l.initial.out.items ++ streams_lines (vector_by l.judge) 0 l.streams ≡ l.out.items ++ streams_lines (vector_by l.judge) l.records-index (drop l.records-index l.streams);
}
