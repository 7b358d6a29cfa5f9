use Rattle.std.proofs.Common.{sym, subst}
use Rattle.std.specs.Prelude.{OnOk, is_ok}
use Rattle.tau_occ.specs.declared.style.Style.{Style}
use Rattle.tau_step.specs.Optimists.{AreFit, peeks_of}
use Rattle.tau_step.specs.Rounding.{worked_by}
use Rattle.tau_step.specs.RunEffects.{Works}
use Rattle.tau_step.proofs.StyleRuns.{locking_fit, locking_works, turns_fewer}
use Rattle.tau_step.proofs.run.Run.work.Goals as goal

pub work_peeking-requires-clause-fit : goal.work_peeking-requires-clause-fit
work_peeking-requires-clause-fit c = subst (λ (s : Style). AreFit s c.args.load.now c.args.self.now.core c.args.peekers.now.items) c.in-Optimistic.is c.requires.fit

pub returns-in-Locking-clause-works : goal.returns-in-Locking-clause-works
returns-in-Locking-clause-works c = locking_works c.args.style c.in-Locking.is c.args.load.now c.args.self.now c.work_alone.new.self c.args.peekers.now.items c.requires.fit c.args.worker c.work_alone.result c.work_alone.ensures.works

pub returns-in-Locking-clause-fit : goal.returns-in-Locking-clause-fit
returns-in-Locking-clause-fit c = locking_fit c.args.style c.in-Locking.is c.args.load.now c.args.self.now c.work_alone.new.self c.args.peekers.now.items c.requires.fit c.work_alone.result

pub returns-in-Locking-clause-fewer : goal.returns-in-Locking-clause-fewer
returns-in-Locking-clause-fewer c = turns_fewer c.args.style c.args.load.now c.args.worker c.work_alone.result c.args.self.now c.work_alone.new.self c.args.peekers.now.items c.args.peekers.now.items c.requires.stood c.requires.there
    (locking_fit c.args.style c.in-Locking.is c.args.load.now c.args.self.now c.work_alone.new.self c.args.peekers.now.items c.requires.fit c.work_alone.result)
    (locking_works c.args.style c.in-Locking.is c.args.load.now c.args.self.now c.work_alone.new.self c.args.peekers.now.items c.requires.fit c.args.worker c.work_alone.result c.work_alone.ensures.works)

pub returns-in-Optimistic-clause-works : goal.returns-in-Optimistic-clause-works
returns-in-Optimistic-clause-works c =
    subst (λ (s : Style). Works (worked_by s (peeks_of c.args.peekers.now.items) (peeks_of c.work_peeking.new.peekers.items) c.args.worker c.work_peeking.result) (is_ok c.work_peeking.result) c.args.self.now c.work_peeking.new.self) (sym c.in-Optimistic.is) c.work_peeking.ensures.works

pub returns-in-Optimistic-clause-fit : goal.returns-in-Optimistic-clause-fit
returns-in-Optimistic-clause-fit c = subst (λ (s : Style). OnOk c.work_peeking.result (AreFit s c.args.load.now c.work_peeking.new.self.core c.work_peeking.new.peekers.items)) (sym c.in-Optimistic.is) c.work_peeking.ensures.fit

pub returns-in-Optimistic-clause-fewer : goal.returns-in-Optimistic-clause-fewer
returns-in-Optimistic-clause-fewer c = turns_fewer c.args.style c.args.load.now c.args.worker c.work_peeking.result c.args.self.now c.work_peeking.new.self c.args.peekers.now.items c.work_peeking.new.peekers.items c.requires.stood c.requires.there
    (subst (λ (s : Style). OnOk c.work_peeking.result (AreFit s c.args.load.now c.work_peeking.new.self.core c.work_peeking.new.peekers.items)) (sym c.in-Optimistic.is) c.work_peeking.ensures.fit)
    (subst (λ (s : Style). Works (worked_by s (peeks_of c.args.peekers.now.items) (peeks_of c.work_peeking.new.peekers.items) c.args.worker c.work_peeking.result) (is_ok c.work_peeking.result) c.args.self.now c.work_peeking.new.self) (sym c.in-Optimistic.is) c.work_peeking.ensures.works)
