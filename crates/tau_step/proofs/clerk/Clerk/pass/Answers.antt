use Rattle.std.proofs.Common.{◌<◌, ◌+◌, ◌∙◌, sym, subst, inl, refl, arith}
use Rattle.std.proofs.lemmas.Result.{err_from_is_err_and}
use Rattle.tau_core.specs.declared.state.Load.{Load}
use Rattle.tau_step.specs.Telling.{Passed}
use Rattle.tau_step.specs.Progressed.{clears, clerks}
use Rattle.tau_step.proofs.Passing.{clerks_none, clerks_one, clerks_all, clerks_cut}
use Rattle.tau_step.proofs.Lines.{cause_on}
use Rattle.tau_step.proofs.clerk.Clerk.pass.Goals as goal

pub loop-worker-init : goal.loop-worker-init
loop-worker-init g c = record {
  stood = c.requires.stood;
  load = refl;
  comes = λ order h es s. clerks_none c.args.core.now c.args.self.now.acks order h es s;
  heard = λ tells base was. was;
  cause = λ e. inl e;
  faults = omega arith;
}

pub pass_worker-requires-clause-there : goal.pass_worker-requires-clause-there
pass_worker-requires-clause-there g c = subst (λ (l : Load). c.loop-worker.worker < l.workers) (sym c.loop-worker.invariant.load) (omega (arith, c.requires.all, c.loop-worker-test.true))

pub loop-worker-preserved : goal.loop-worker-preserved
loop-worker-preserved g c =
    let i = c.loop-worker.invariant in
    record {
      stood = c.pass_worker.ensures.stood;
      load = c.pass_worker.ensures.load ∙ i.load;
      comes = λ order h es s.
          let d = i.comes order h es s in
          clerks_one c.args.core.now c.args.self.now.acks order h es c.loop-worker.worker (c.loop-worker.worker + 1) (omega arith) c.loop-worker.core c.pass_worker.new.core c.loop-worker.self.acks c.pass_worker.new.self.acks d
          (subst (λ r. Passed (clears c.loop-worker.worker) c.loop-worker.core c.pass_worker.new.core c.loop-worker.self.acks c.pass_worker.new.self.acks c.loop-worker.self.sink_failed c.pass_worker.new.self.sink_failed g.K.Sink.tells (g.K.Sink.held c.loop-worker.sink) (g.K.Sink.held c.pass_worker.new.sink) d.order d.hidden d.events r)
          c.in_ok-pass_worker.was (c.pass_worker.ensures.passed d.order d.hidden d.events d.stands));
      heard = λ tells base was. c.in_ok-pass_worker.ensures.heard tells base (i.heard tells base was);
      cause = cause_on c.args.self.now.sink_failed c.loop-worker.self.sink_failed c.pass_worker.new.self.sink_failed (g.K.Sink.faults c.args.sink.now) (g.K.Sink.faults c.loop-worker.sink) (g.K.Sink.faults c.pass_worker.new.sink) i.cause i.faults c.pass_worker.ensures.cause c.pass_worker.ensures.faults;
      faults = omega (arith, i.faults, c.pass_worker.ensures.faults);
    }

pub returns-clause-passed : goal.returns-clause-passed
returns-clause-passed g c = λ order h es s.
    clerks_all c.args.core.now c.args.self.now.acks order h es c.loop-worker.worker (omega (arith, c.requires.all)) c.loop-worker.core c.loop-worker.self.acks (c.loop-worker.invariant.comes order h es s)

pub returns-in_err-pass_worker-clause-passed : goal.returns-in_err-pass_worker-clause-passed
returns-in_err-pass_worker-clause-passed g c = λ order h es s.
    let p = err_from_is_err_and c.from_residual.result c.from_residual.ensures.1 in
    let i = c.loop-worker.invariant in
    let d = i.comes order h es s in
    let x = subst (λ r. Passed (clears c.loop-worker.worker) c.loop-worker.core c.pass_worker.new.core c.loop-worker.self.acks c.pass_worker.new.self.acks c.loop-worker.self.sink_failed c.pass_worker.new.self.sink_failed g.K.Sink.tells (g.K.Sink.held c.loop-worker.sink) (g.K.Sink.held c.pass_worker.new.sink) d.order d.hidden d.events r)
    c.in_err-pass_worker.was (c.pass_worker.ensures.passed d.order d.hidden d.events d.stands) in
    subst (λ r. Passed clerks c.args.core.now c.pass_worker.new.core c.args.self.now.acks c.pass_worker.new.self.acks c.args.self.now.sink_failed c.pass_worker.new.self.sink_failed g.K.Sink.tells (g.K.Sink.held c.args.sink.now) (g.K.Sink.held c.pass_worker.new.sink) order h es r) (sym p.1)
    (record {
      told = x.told;
      count = x.count;
      comes = clerks_cut c.args.core.now c.args.self.now.acks order h es c.loop-worker.worker (omega (arith, c.requires.all, c.loop-worker-test.true)) c.loop-worker.core c.pass_worker.new.core c.loop-worker.self.acks x.told d x.comes;
      heard = λ tells base was. x.heard tells base (i.heard tells base was);
    })
