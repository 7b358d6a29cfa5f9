use Rattle.std.proofs.Common.{◌<◌, ◌≡◌, ◌∙◌, length, subst, sym}
use Rattle.tau_crew.proofs.ending_pass.flush_left.Goals as goal

pub flush_at-requires-clause-there : goal.flush_at-requires-clause-there
flush_at-requires-clause-there g c =
    let (bases, ws, m) = c.requires.managers in
    let count : length c.loop-stream.jobs.items ≡ c.args.desk.now.streams = (c.loop-stream.invariant bases ws m).count ∙ sym c.args.desk.now.streams_are.0 in
    subst (λ (n : _). c.loop-stream.stream < n) (sym count) c.loop-stream-test.true

pub flush_at-requires-clause-managers : goal.flush_at-requires-clause-managers
flush_at-requires-clause-managers g c = let (bases, ws, m) = c.requires.managers in (bases, ws, c.loop-stream.invariant bases ws m)

pub loop-stream-preserved : goal.loop-stream-preserved
loop-stream-preserved g c = λ bases ws m. c.flush_at.ensures.managers bases ws (c.loop-stream.invariant bases ws m)
