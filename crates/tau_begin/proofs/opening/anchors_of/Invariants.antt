-- The anchors of the streams so far.
use Rattle.std.proofs.Common.{◌≡◌, length, map, take}
use Rattle.tau_record.specs.Content.{anchors_of}
use Rattle.tau_begin.proofs.opening.anchors_of.Given as goal

abbrev pub invariant-loop-j : goal.invariant-loop-j
invariant-loop-j l = l.anchors.items ≡ map (λ ps. length (anchors_of ps)) (take l.j l.streams)
