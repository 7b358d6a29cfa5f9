use Rattle.std.proofs.Common.{◌+◌, ◌≡◌, List, [], ◌∷◌, ◌++◌, sym, subst, rules}
use Rattle.tau_core.specs.Plain.{PlainStream}
use Rattle.tau_core.specs.Opens.{AreStreams}
use Rattle.tau_core.proofs.Pushes.{streams_more}
use Rattle.tau_core.proofs.parts.streams.Goals as goal

pub loop-stream-preserved : goal.loop-stream-preserved
loop-stream-preserved c =
    let more : c.push.new.self.items ≡ c.loop-stream.all.items ++ c.stream.result ∷ [] = search rules in
    subst (λ (l : List PlainStream). AreStreams (c.loop-stream._stream + 1) l) (sym more)
    (streams_more c.loop-stream._stream c.loop-stream.all.items c.stream.result c.loop-stream.invariant c.stream.ensures)
