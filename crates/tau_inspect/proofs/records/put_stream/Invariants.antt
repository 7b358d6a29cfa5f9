-- The records so far, and those that are left.
use Rattle.std.proofs.Common.{◌≡◌, ◌++◌, drop}
use Rattle.tau_scan.specs.Taken.{kept_in}
use Rattle.tau_inspect.proofs.records.put_stream.Given as goal

abbrev pub invariant-loop-i : goal.invariant-loop-i
invariant-loop-i l = l.all.items ++ kept_in l.stream (drop l.i l.records) ≡ l.initial.all.items ++ kept_in l.stream l.records
