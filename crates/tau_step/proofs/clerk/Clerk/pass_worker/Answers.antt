use Rattle.std.proofs.Common.{true, false, ◌∙◌, sym, ap, subst, inl, refl, arith}
use Rattle.std.specs.Prelude.{Ok}
use Rattle.std.proofs.lemmas.Result.{err_from_is_err_and}
use Rattle.tau_step.specs.Telling.{NextTold, Passed}
use Rattle.tau_step.specs.Progressed.{clears}
use Rattle.tau_step.proofs.Passing.{clears_none, clears_one, clears_end}
use Rattle.tau_step.proofs.Lines.{cause_on}
use Rattle.tau_step.proofs.clerk.Clerk.pass_worker.Goals as goal

pub loop-init : goal.loop-init
loop-init g c = record {
  stood = c.requires.stood;
  load = refl;
  comes = λ order h es s. clears_none c.args.core.now c.args.self.now.acks order h es c.args.worker s;
  heard = λ tells base was. was;
  cause = λ e. inl e;
  faults = omega arith;
}

pub loop-preserved : goal.loop-preserved
loop-preserved g c =
    let i = c.loop.invariant in
    record {
      stood = c.next.ensures.stood;
      load = c.next.ensures.load ∙ i.load;
      comes = λ order h es s.
          let d = i.comes order h es s in
          clears_one c.args.core.now c.args.self.now.acks order h es c.args.worker c.loop.core c.next.new.core c.loop.self.acks c.next.new.self.acks d
          (subst (λ r. NextTold c.args.worker c.loop.core c.next.new.core c.loop.self.acks c.next.new.self.acks c.loop.self.sink_failed c.next.new.self.sink_failed g.K.Sink.tells (g.K.Sink.held c.loop.sink) (g.K.Sink.held c.next.new.sink) d.order d.hidden d.events r)
          (c.in_ok-next.was ∙ ap Ok c.if-branch.true) (c.next.ensures.told d.order d.hidden d.events d.stands));
      heard = λ tells base was. c.in_ok-next.ensures.heard tells base (i.heard tells base was);
      cause = cause_on c.args.self.now.sink_failed c.loop.self.sink_failed c.next.new.self.sink_failed (g.K.Sink.faults c.args.sink.now) (g.K.Sink.faults c.loop.sink) (g.K.Sink.faults c.next.new.sink) i.cause i.faults c.next.ensures.cause c.next.ensures.faults;
      faults = omega (arith, i.faults, c.next.ensures.faults);
    }

pub returns-clause-passed : goal.returns-clause-passed
returns-clause-passed g c = λ order h es s.
    let d = c.loop.invariant.comes order h es s in
    clears_end c.args.core.now c.args.self.now.acks order h es c.args.worker true c.loop.core c.next.new.core c.loop.self.acks c.next.new.self.acks d
    (subst (λ r. NextTold c.args.worker c.loop.core c.next.new.core c.loop.self.acks c.next.new.self.acks c.loop.self.sink_failed c.next.new.self.sink_failed g.K.Sink.tells (g.K.Sink.held c.loop.sink) (g.K.Sink.held c.next.new.sink) d.order d.hidden d.events r)
    (c.in_ok-next.was ∙ ap Ok c.if-branch.false) (c.next.ensures.told d.order d.hidden d.events d.stands))

pub returns-in_err-next-clause-passed : goal.returns-in_err-next-clause-passed
returns-in_err-next-clause-passed g c = λ order h es s.
    let p = err_from_is_err_and c.from_residual.result c.from_residual.ensures.1 in
    let i = c.loop.invariant in
    let d = i.comes order h es s in
    let x = subst (λ r. NextTold c.args.worker c.loop.core c.next.new.core c.loop.self.acks c.next.new.self.acks c.loop.self.sink_failed c.next.new.self.sink_failed g.K.Sink.tells (g.K.Sink.held c.loop.sink) (g.K.Sink.held c.next.new.sink) d.order d.hidden d.events r)
    c.in_err-next.was (c.next.ensures.told d.order d.hidden d.events d.stands) in
    subst (λ r. Passed (clears c.args.worker) c.args.core.now c.next.new.core c.args.self.now.acks c.next.new.self.acks c.args.self.now.sink_failed c.next.new.self.sink_failed g.K.Sink.tells (g.K.Sink.held c.args.sink.now) (g.K.Sink.held c.next.new.sink) order h es r) (sym p.1)
    (record {
      told = x.told;
      count = x.count;
      comes = clears_end c.args.core.now c.args.self.now.acks order h es c.args.worker false c.loop.core c.next.new.core c.loop.self.acks x.told d x.comes;
      heard = λ tells base was. x.heard tells base (i.heard tells base was);
    })
