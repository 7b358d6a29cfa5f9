-- What was told after the run.
use Rattle.std.proofs.Common.{length, Ok, Err, refl, subst, rules}
use Rattle.tau_disk.specs.Disk.{Rose}
use Rattle.tau_run.specs.Gives.{GaveFrom}
use Rattle.tau_engine.specs.Runs.{ran_by}
use Rattle.tau_engine.proofs.run.run_on.Goals as goal

pub returns-in-Ok-clause-ran : goal.returns-in-Ok-clause-ran
returns-in-Ok-clause-ran g c bases begun = record {
  after = c.run_from-end.result.1.items;
  back = search rules;
  mid = g.K.Sink.held c.run_from-end.new.sink;
  count = g.K.Sink.faults c.run_from-end.new.sink;
  early = c.run_from-end.ensures.faults;
  late = c.tell_end.ensures.faults;
  end = Ok c.in-Ok.end;
  ran = subst (λ e. GaveFrom (ran_by c.args.load.now.turns c.args.ready.choice.style (length c.args.ready.opening.ends) c.args.ready.choice.workers c.args.load.now) c.args.ready.opening bases c.args.ready.choice.workers c.args.ready.choice.mode c.args.load.now c.args.ready.writers.items c.run_from-end.result.1.items g.K.Sink.tells (g.K.Sink.held c.args.sink.now) (g.K.Sink.held c.run_from-end.new.sink)
      (Rose (g.K.Sink.faults c.args.sink.now) (g.K.Sink.faults c.run_from-end.new.sink)) e) c.in-Ok.is (c.run_from-end.ensures.ran bases begun);
  told = c.tell_end.ensures.told;
}

pub returns-in-Err-clause-ran : goal.returns-in-Err-clause-ran
returns-in-Err-clause-ran g c bases begun = record {
  after = c.run_from-end.result.1.items;
  back = search rules;
  mid = g.K.Sink.held c.run_from-end.new.sink;
  count = g.K.Sink.faults c.run_from-end.new.sink;
  early = c.run_from-end.ensures.faults;
  late = search rules;
  end = Err c.in-Err.field-0;
  ran = subst (λ e. GaveFrom (ran_by c.args.load.now.turns c.args.ready.choice.style (length c.args.ready.opening.ends) c.args.ready.choice.workers c.args.load.now) c.args.ready.opening bases c.args.ready.choice.workers c.args.ready.choice.mode c.args.load.now c.args.ready.writers.items c.run_from-end.result.1.items g.K.Sink.tells (g.K.Sink.held c.args.sink.now) (g.K.Sink.held c.run_from-end.new.sink)
      (Rose (g.K.Sink.faults c.args.sink.now) (g.K.Sink.faults c.run_from-end.new.sink)) e) c.in-Err.is (c.run_from-end.ensures.ran bases begun);
  told = (refl, refl);
}
