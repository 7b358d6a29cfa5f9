use Rattle.tau_disk.specs.Disk.{Rose}
use Rattle.tau_run.proofs.Begun.{given_begun}
use Rattle.tau_step.proofs.Begun.{turns_from}
use Rattle.tau_step.proofs.top.run_turns_from.Goals as goal

pub go-requires-clause-begun : goal.go-requires-clause-begun
go-requires-clause-begun g c =
    let (bases, begun) = c.requires.begun in
    (bases, given_begun c.args.m c.args.mode c.args.load.now c.args.writers.now.items c.args.writers.now.items g.K.Sink.tells (g.K.Sink.held c.args.sink.now) (g.K.Sink.held c.args.sink.now) (Rose (g.K.Sink.faults c.args.sink.now) (g.K.Sink.faults c.args.sink.now)) c.args.opening c.in_ok-core.core c.in_ok-core.ensures bases begun)

pub returns-clause-ran : goal.returns-clause-ran
returns-clause-ran g c = λ bases begun.
    turns_from c.args.style c.args.m c.args.mode c.args.load.now c.args.writers.now.items c.go.new.writers.items g.K.Sink.tells (g.K.Sink.held c.args.sink.now) (g.K.Sink.held c.go.new.sink) (Rose (g.K.Sink.faults c.args.sink.now) (g.K.Sink.faults c.go.new.sink)) c.args.opening c.in_ok-core.core c.in_ok-core.ensures bases c.go.result
    (c.go.ensures.ran bases (given_begun c.args.m c.args.mode c.args.load.now c.args.writers.now.items c.args.writers.now.items g.K.Sink.tells (g.K.Sink.held c.args.sink.now) (g.K.Sink.held c.args.sink.now) (Rose (g.K.Sink.faults c.args.sink.now) (g.K.Sink.faults c.args.sink.now)) c.args.opening c.in_ok-core.core c.in_ok-core.ensures bases begun))
