-- The anchors so far are counted, no more than there were records.
use Rattle.std.proofs.Common.{◌≡◌, ◌≤◌, ◌+◌, drop, length}
use Rattle.tau_record.specs.Content.{anchors_of}
use Rattle.tau_scan.proofs.begins.count_anchors.Given as goal

abbrev pub invariant-loop-i : goal.invariant-loop-i
invariant-loop-i l = (l.count + length (anchors_of (drop l.i l.records)) ≡ length (anchors_of l.records)) × (l.count ≤ l.i)
