-- The records so far, and those of the streams that are left.
use Rattle.std.proofs.Common.{◌≡◌, ◌++◌, drop}
use Rattle.tau_scan.specs.Taken.{kept_from}
use Rattle.tau_inspect.proofs.records.records_of.Given as goal

abbrev pub invariant-loop-j : goal.invariant-loop-j
invariant-loop-j l = l.all.items ++ kept_from l.j (drop l.j l.streams) ≡ kept_from 0 l.streams
