use Rattle.std.proofs.Common.{sym, ◌∙◌, arith}
use Rattle.tau_crew.proofs.top.go.Goals as goal

pub finish-requires-clause-back : goal.finish-requires-clause-back
finish-requires-clause-back g c κs within =
    let (bases, begun) = c.requires.begun in
    (bases, c.args.writers.now.items, g.K.Sink.held c.args.sink.now, g.K.Sink.faults c.args.sink.now, c.run_all-head.ensures.back bases begun)

pub finish-requires-clause-room : goal.finish-requires-clause-room
finish-requires-clause-room g c κs within =
    let (bases, begun) = c.requires.begun in
    let b = c.run_all-head.ensures.back bases begun in
    let count = b.managers.count in
    let wide = b.managers.writers in
    let kept = c.run_all-head.ensures.kept in
    let jobs = c.run_all-head.new.jobs.ok in
    let writers = c.args.writers.now.ok in
    omega (arith, count, wide, kept, jobs, writers)

pub returns-clause-ran : goal.returns-clause-ran
returns-clause-ran g c = λ bases begun.
    c.finish.ensures.ran bases c.args.writers.now.items (g.K.Sink.held c.args.sink.now) (g.K.Sink.faults c.args.sink.now) c.run_all-head.ensures.faults (c.run_all-head.ensures.back bases begun)

pub returns-clause-count : goal.returns-clause-count
returns-clause-count g c =
    let (bases, begun) = c.requires.begun in
    let b = c.run_all-head.ensures.back bases begun in
    c.finish.ensures.count ∙ b.managers.count ∙ sym b.managers.writers
