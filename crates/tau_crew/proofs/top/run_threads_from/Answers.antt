use Rattle.std.proofs.Common.{subst}
use Rattle.tau_disk.specs.Disk.{Rose}
use Rattle.tau_occ.specs.declared.style.Style.{Style}
use Rattle.tau_run.specs.Gives.{GaveFrom}
use Rattle.tau_run.proofs.Begun.{gave_from, given_begun}
use Rattle.tau_crew_facts.specs.Threads.{lasting}
use Rattle.tau_crew.proofs.Tops.{plain_from}
use Rattle.tau_crew.proofs.top.run_threads_from.Goals as goal

pub go-requires-clause-begun : goal.go-requires-clause-begun
go-requires-clause-begun g c κs within =
    let (bases, begun) = c.requires.begun in
    (bases, (given_begun c.args.workers c.args.mode c.args.load.now c.args.writers.now.items c.args.writers.now.items g.K.Sink.tells (g.K.Sink.held c.args.sink.now) (g.K.Sink.held c.args.sink.now) (Rose (g.K.Sink.faults c.args.sink.now) (g.K.Sink.faults c.args.sink.now)) c.args.opening c.in_ok-desk.desk.table.shared.key.value c.in_ok-desk.ensures.0 bases begun))

pub returns-clause-lasts : goal.returns-clause-lasts
returns-clause-lasts g c = λ bases begun.
    subst (λ (s : Style). GaveFrom (lasting s c.go.new.writers.items) c.args.opening bases c.args.workers c.args.mode c.args.load.now c.args.writers.now.items c.go.new.writers.items g.K.Sink.tells (g.K.Sink.held c.args.sink.now) (g.K.Sink.held c.go.new.sink) (Rose (g.K.Sink.faults c.args.sink.now) (g.K.Sink.faults c.go.new.sink)) c.go.result) c.in_ok-desk.ensures.6
    (gave_from c.args.workers c.args.mode c.args.load.now c.args.writers.now.items c.go.new.writers.items g.K.Sink.tells (g.K.Sink.held c.args.sink.now) (g.K.Sink.held c.go.new.sink) (Rose (g.K.Sink.faults c.args.sink.now) (g.K.Sink.faults c.go.new.sink)) c.args.opening c.in_ok-desk.desk.table.shared.key.value c.in_ok-desk.ensures.0 (lasting c.in_ok-desk.desk.table.shared.key.style c.go.new.writers.items) bases c.go.result (c.go.ensures.ran bases (given_begun c.args.workers c.args.mode c.args.load.now c.args.writers.now.items c.args.writers.now.items g.K.Sink.tells (g.K.Sink.held c.args.sink.now) (g.K.Sink.held c.args.sink.now) (Rose (g.K.Sink.faults c.args.sink.now) (g.K.Sink.faults c.args.sink.now)) c.args.opening c.in_ok-desk.desk.table.shared.key.value c.in_ok-desk.ensures.0 bases begun)))

pub returns-clause-ran : goal.returns-clause-ran
returns-clause-ran g c = λ bases begun.
    plain_from c.args.style c.args.workers c.args.mode c.args.load.now c.args.writers.now.items c.go.new.writers.items g.K.Sink.tells (g.K.Sink.held c.args.sink.now) (g.K.Sink.held c.go.new.sink) (Rose (g.K.Sink.faults c.args.sink.now) (g.K.Sink.faults c.go.new.sink)) c.go.result c.args.opening bases (returns-clause-lasts g c bases begun)
