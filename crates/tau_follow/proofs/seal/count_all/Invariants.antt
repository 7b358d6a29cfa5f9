-- The streams so far, and those that are left.
use Rattle.std.proofs.Common.{◌≡◌, ◌+◌, length, drop}
use Rattle.tau_scan.specs.Epochs.{vector_by}
use Rattle.tau_scan.specs.Taken.{taken_from}
use Rattle.tau_follow.proofs.seal.count_all.Given as goal

abbrev pub invariant-loop-j : goal.invariant-loop-j
invariant-loop-j l = l.count + length (taken_from (vector_by l.judge) l.j (drop l.j l.streams)) ≡ length (taken_from (vector_by l.judge) 0 l.streams)
