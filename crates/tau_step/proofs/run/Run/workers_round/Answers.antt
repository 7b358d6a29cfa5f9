use Rattle.std.proofs.Common.{true, false, ◌≡◌, sym, ap, subst, arith, ◌∙◌}
use Rattle.std.specs.Prelude.{Ok, Err, is_ok}
use Rattle.std.proofs.lemmas.Result.{err_from_is_err_and}
use Rattle.tau_core.specs.declared.state.Load.{Load}
use Rattle.tau_step.specs.RunEffects.{Works}
use Rattle.tau_step.specs.Optimists.{all_turns_left, peeks_of}
use Rattle.tau_step.specs.Rounding.{rounded_by}
use Rattle.tau_step.proofs.EffectsInTurn.{works_lowest}
use Rattle.tau_step.proofs.Rounds.{rounded_below, below_quiet, workers_none, workers_more, workers_cut, workers_all, totals_more}
use Rattle.tau_step.proofs.StyleRuns.{idle_same}
use Rattle.tau_step.proofs.run.Run.workers_round.Goals as goal

pub loop-worker-init : goal.loop-worker-init
loop-worker-init c = record { works = workers_none c.args.style (peeks_of c.args.peekers.now.items) c.args.self.now c.requires.stood; fit = c.requires.fit; most = omega arith; fewer = λ e. absurd (let bad : false ≡ true = e in cc) }

pub work-requires-clause-stood : goal.work-requires-clause-stood
work-requires-clause-stood c = c.loop-worker.invariant.works.stood

pub work-requires-clause-there : goal.work-requires-clause-there
work-requires-clause-there c =
    let load = ap (λ (l : Load). l.workers) c.loop-worker.invariant.works.load in
    omega (arith, c.loop-worker-test.true, c.requires.workers, load)

pub work-requires-clause-lowest : goal.work-requires-clause-lowest
work-requires-clause-lowest c = works_lowest (rounded_below c.args.style (peeks_of c.args.peekers.now.items) (peeks_of c.loop-worker.peekers.items) c.loop-worker.worker c.loop-worker.any) true c.args.self.now c.loop-worker.self c.requires.stood (below_quiet c.args.style (peeks_of c.args.peekers.now.items) (peeks_of c.loop-worker.peekers.items) c.loop-worker.worker c.loop-worker.any true) c.loop-worker.invariant.works c.requires.lowest

pub returns-in_err-did-clause-works : goal.returns-in_err-did-clause-works
returns-in_err-did-clause-works c =
    let p = err_from_is_err_and c.from_residual.result c.from_residual.ensures.1 in
    subst (λ r. Works (rounded_by c.args.style (peeks_of c.args.peekers.now.items) (peeks_of c.work.new.peekers.items) r) (is_ok r) c.args.self.now c.work.new.self) (sym p.1)
    (workers_cut c.args.style (peeks_of c.args.peekers.now.items) (peeks_of c.loop-worker.peekers.items) (peeks_of c.work.new.peekers.items) c.loop-worker.worker c.loop-worker.any _ c.args.self.now c.loop-worker.self c.work.new.self (omega (arith, c.loop-worker-test.true, c.requires.workers)) c.loop-worker.invariant.works c.in_err-did.ensures.works)

pub returns-in_err-did-clause-fewer : goal.returns-in_err-did-clause-fewer
returns-in_err-did-clause-fewer c = λ e.
    let p = err_from_is_err_and c.from_residual.result c.from_residual.ensures.1 in
    absurd (let bad : Err p.0 ≡ Ok true = sym p.1 ∙ e in cc)

pub loop-worker-preserved : goal.loop-worker-preserved
loop-worker-preserved c =
    let totals = totals_more c.loop-worker.any c.in_ok-did.did c.either-any.result (all_turns_left c.args.self.now.core (peeks_of c.args.peekers.now.items)) (all_turns_left c.loop-worker.self.core (peeks_of c.loop-worker.peekers.items)) (all_turns_left c.work.new.self.core (peeks_of c.work.new.peekers.items)) c.either-any.ensures c.loop-worker.invariant.most c.loop-worker.invariant.fewer
    (λ e. c.work.ensures.fewer (c.in_ok-did.was ∙ ap Ok e)) (λ e. idle_same c.args.style c.loop-worker.worker (peeks_of c.loop-worker.peekers.items) (peeks_of c.work.new.peekers.items) c.loop-worker.self c.work.new.self c.loop-worker.invariant.works.stood (rw e at c.in_ok-did.ensures.works)) in
    record {
      works = workers_more c.args.style (peeks_of c.args.peekers.now.items) (peeks_of c.loop-worker.peekers.items) (peeks_of c.work.new.peekers.items) c.loop-worker.worker c.loop-worker.any c.in_ok-did.did c.either-any.result c.args.self.now c.loop-worker.self c.work.new.self c.either-any.ensures c.loop-worker.invariant.works c.in_ok-did.ensures.works;
      fit = c.in_ok-did.ensures.fit;
      most = totals.0;
      fewer = totals.1;
    }

pub returns-clause-works : goal.returns-clause-works
returns-clause-works c = workers_all c.args.style (peeks_of c.args.peekers.now.items) (peeks_of c.loop-worker.peekers.items) c.loop-worker.worker c.loop-worker.any c.args.self.now c.loop-worker.self (omega (arith, c.loop-worker-test.false, c.loop-worker.auto.worker-end, c.requires.workers)) c.loop-worker.invariant.works

pub returns-clause-fewer : goal.returns-clause-fewer
returns-clause-fewer c = λ e. c.loop-worker.invariant.fewer (let bad : Ok c.loop-worker.any ≡ Ok true = e in cc)

pub work-requires-clause-fit : goal.work-requires-clause-fit
work-requires-clause-fit c = c.loop-worker.invariant.fit

pub returns-clause-fit : goal.returns-clause-fit
returns-clause-fit c = c.loop-worker.invariant.fit

pub returns-in_err-did-clause-fit : goal.returns-in_err-did-clause-fit
returns-in_err-did-clause-fit c = rw (err_from_is_err_and c.from_residual.result c.from_residual.ensures.1).1 tt
