use Rattle.std.proofs.Common.{true, ap, arith, ◌∙◌}
use Rattle.std.specs.Prelude.{Ok}
use Rattle.std.proofs.lemmas.Result.{err_from_is_err_and}
use Rattle.tau_core.specs.declared.state.Load.{Load}
use Rattle.tau_step.proofs.LeftOvers.{alone_so, alone_quiet, acts_none, acts_more, acts_end, acts_cut}
use Rattle.tau_step.proofs.EffectsInTurn.{works_lowest}
use Rattle.tau_step.proofs.Settling.{settles_none, settles_on}
use Rattle.tau_step.proofs.run.Run.alone.Goals as goal

pub acts-init : goal.acts-init
acts-init c = record { works = acts_none c.args.worker c.args.self.now c.requires.stood; settles = settles_none c.args.worker c.args.self.now.core c.requires.settling }

pub work_alone-requires-clause-stood : goal.work_alone-requires-clause-stood
work_alone-requires-clause-stood c = c.acts.invariant.works.stood

pub work_alone-requires-clause-there : goal.work_alone-requires-clause-there
work_alone-requires-clause-there c = let load = ap (λ (l : Load). l.workers) c.acts.invariant.works.load in omega (arith, c.requires.there, load)

pub work_alone-requires-clause-lowest : goal.work_alone-requires-clause-lowest
work_alone-requires-clause-lowest c = works_lowest (alone_so c.args.worker) true c.args.self.now c.acts.self c.requires.stood (alone_quiet c.args.worker true) c.acts.invariant.works c.requires.lowest

pub acts-preserved : goal.acts-preserved
acts-preserved c = record {
  works = acts_more c.args.worker c.args.self.now c.acts.self c.work_alone.new.self c.acts.invariant.works (rw c.if-branch.true at c.in_ok-work_alone.ensures.works);
  settles = settles_on c.args.worker c.args.self.now.core c.acts.self.core c.work_alone.new.self.core c.acts.invariant.settles
      (c.work_alone.ensures.alone (λ u ne. c.acts.invariant.settles.others u ne ∙ c.requires.alone u ne) c.acts.invariant.settles.settling);
}

pub acts-smaller : goal.acts-smaller
acts-smaller c = c.work_alone.ensures.fewer (c.in_ok-work_alone.was ∙ ap Ok c.if-branch.true)

pub returns-clause-works : goal.returns-clause-works
returns-clause-works c = acts_end c.args.worker c.args.self.now c.acts.self c.work_alone.new.self c.acts.invariant.works (rw c.if-branch.false at c.in_ok-work_alone.ensures.works)

pub returns-clause-settles : goal.returns-clause-settles
returns-clause-settles c = settles_on c.args.worker c.args.self.now.core c.acts.self.core c.work_alone.new.self.core c.acts.invariant.settles
    (c.work_alone.ensures.alone (λ u ne. c.acts.invariant.settles.others u ne ∙ c.requires.alone u ne) c.acts.invariant.settles.settling)

pub returns-in_err-work_alone-clause-works : goal.returns-in_err-work_alone-clause-works
returns-in_err-work_alone-clause-works c = rw (err_from_is_err_and c.from_residual.result c.from_residual.ensures.1).1 (acts_cut c.args.worker c.args.self.now c.acts.self c.work_alone.new.self c.acts.invariant.works _ c.in_err-work_alone.ensures.works)

pub returns-in_err-work_alone-clause-settles : goal.returns-in_err-work_alone-clause-settles
returns-in_err-work_alone-clause-settles c = settles_on c.args.worker c.args.self.now.core c.acts.self.core c.work_alone.new.self.core c.acts.invariant.settles
    (c.work_alone.ensures.alone (λ u ne. c.acts.invariant.settles.others u ne ∙ c.requires.alone u ne) c.acts.invariant.settles.settling)
