use Rattle.tau_core.specs.Opens.{AreStreams}
use Rattle.tau_core.proofs.parts.streams.Given as goal

abbrev pub invariant-loop-stream : goal.invariant-loop-stream
invariant-loop-stream l = AreStreams l._stream l.all.items
