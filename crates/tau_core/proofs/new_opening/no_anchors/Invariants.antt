use Rattle.std.proofs.Common.{◌≡◌, replicate}
use Rattle.tau_core.proofs.new_opening.no_anchors.Given as goal

abbrev pub invariant-loop-stream : goal.invariant-loop-stream
invariant-loop-stream l = l.anchors.items ≡ replicate l._stream 0
