-- By turns, or in threads.
use Rattle.std.proofs.Common.{length, sym, subst}
use Rattle.tau_disk.specs.Disk.{Rose}
use Rattle.tau_run.specs.Gives.{GaveFrom}
use Rattle.tau_engine.specs.Runs.{ran_by}
use Rattle.tau_engine.proofs.run.run_from.Goals as goal

pub returns-in-Some-clause-ran : goal.returns-in-Some-clause-ran
returns-in-Some-clause-ran g c bases begun =
    subst (λ o. GaveFrom (ran_by o c.args.ready.choice.style (length c.args.ready.opening.ends) c.args.ready.choice.workers c.args.load.now) c.args.ready.opening bases c.args.ready.choice.workers c.args.ready.choice.mode c.args.load.now c.args.ready.writers.items c.run_turns_from-end.new.writers.items g.K.Sink.tells (g.K.Sink.held c.args.sink.now) (g.K.Sink.held c.run_turns_from-end.new.sink)
    (Rose (g.K.Sink.faults c.args.sink.now) (g.K.Sink.faults c.run_turns_from-end.new.sink)) c.run_turns_from-end.result) (sym c.in-Some.is) (c.run_turns_from-end.ensures.ran bases begun)

pub returns-in-None-clause-ran : goal.returns-in-None-clause-ran
returns-in-None-clause-ran g c bases begun =
    subst (λ o. GaveFrom (ran_by o c.args.ready.choice.style (length c.args.ready.opening.ends) c.args.ready.choice.workers c.args.load.now) c.args.ready.opening bases c.args.ready.choice.workers c.args.ready.choice.mode c.args.load.now c.args.ready.writers.items c.run_threads_from-end.new.writers.items g.K.Sink.tells (g.K.Sink.held c.args.sink.now) (g.K.Sink.held c.run_threads_from-end.new.sink)
    (Rose (g.K.Sink.faults c.args.sink.now) (g.K.Sink.faults c.run_threads_from-end.new.sink)) c.run_threads_from-end.result) (sym c.in-None.is) (c.run_threads_from-end.ensures.ran bases begun)
