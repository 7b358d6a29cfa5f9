use Rattle.std.proofs.Common.{refl, true, false, ◌≡◌, ◌∙◌, ap, sym, subst, arith}
use Rattle.std.specs.Prelude.{Ok, Err, is_ok}
use Rattle.std.proofs.lemmas.Result.{err_from_is_err_and}
use Rattle.tau_core.specs.declared.state.Load.{Load}
use Rattle.tau_step.specs.RunEffects.{Works}
use Rattle.tau_step.specs.Rounding.{resumed_by}
use Rattle.tau_step.proofs.LeftOvers.{resume_so, resume_quiet, resume_there, resume_works, resume_hands, resume_settling, resumed_on, resumed_cut, resumed_fewer, resumed_rests, none_works, none_rests}
use Rattle.tau_step.proofs.EffectsInTurn.{works_lowest}
use Rattle.tau_step.proofs.run.Run.resumed.Goals as goal

pub alone-requires-clause-stood : goal.alone-requires-clause-stood
alone-requires-clause-stood c = (resume_works c.in-Some.worker c.args.self.now (record (c.args.self.now) { core = c.resume.new.self }) c.requires.stood (λ K h s. rw c.in-Some.is at c.resume.ensures K h s) refl refl refl refl refl c.requires.lowest c.requires.going).stood

pub alone-requires-clause-there : goal.alone-requires-clause-there
alone-requires-clause-there c = let t = resume_there c.in-Some.worker c.args.self.now (record (c.args.self.now) { core = c.resume.new.self }) c.requires.stood (λ K h s. rw c.in-Some.is at c.resume.ensures K h s) in let load = ap (λ (l : Load). l.workers) (resume_works c.in-Some.worker c.args.self.now (record (c.args.self.now) { core = c.resume.new.self }) c.requires.stood (λ K h s. rw c.in-Some.is at c.resume.ensures K h s) refl refl refl refl refl c.requires.lowest c.requires.going).load in omega (arith, t, load)

pub alone-requires-clause-lowest : goal.alone-requires-clause-lowest
alone-requires-clause-lowest c = works_lowest (resume_so c.in-Some.worker) true c.args.self.now (record (c.args.self.now) { core = c.resume.new.self }) c.requires.stood (resume_quiet c.in-Some.worker true) (resume_works c.in-Some.worker c.args.self.now (record (c.args.self.now) { core = c.resume.new.self }) c.requires.stood (λ K h s. rw c.in-Some.is at c.resume.ensures K h s) refl refl refl refl refl c.requires.lowest c.requires.going) c.requires.lowest

pub alone-requires-clause-alone : goal.alone-requires-clause-alone
alone-requires-clause-alone c = λ u ne. resume_hands c.in-Some.worker c.args.self.now (record (c.args.self.now) { core = c.resume.new.self }) c.requires.stood (λ K h s. rw c.in-Some.is at c.resume.ensures K h s) u

pub alone-requires-clause-settling : goal.alone-requires-clause-settling
alone-requires-clause-settling c = resume_settling c.in-Some.worker c.args.self.now (record (c.args.self.now) { core = c.resume.new.self }) c.requires.stood (λ K h s. rw c.in-Some.is at c.resume.ensures K h s)

pub returns-in_ok-alone-in-Some-clause-works : goal.returns-in_ok-alone-in-Some-clause-works
returns-in_ok-alone-in-Some-clause-works c = resumed_on c.in-Some.worker c.args.self.now (record (c.args.self.now) { core = c.resume.new.self }) c.requires.stood (λ K h s. rw c.in-Some.is at c.resume.ensures K h s) c.alone.new.self (resume_works c.in-Some.worker c.args.self.now (record (c.args.self.now) { core = c.resume.new.self }) c.requires.stood (λ K h s. rw c.in-Some.is at c.resume.ensures K h s) refl refl refl refl refl c.requires.lowest c.requires.going) c.in_ok-alone-in-Some.ensures.works

pub returns-in_ok-alone-in-Some-clause-rests : goal.returns-in_ok-alone-in-Some-clause-rests
returns-in_ok-alone-in-Some-clause-rests c = resumed_rests c.in-Some.worker c.args.self.now (record (c.args.self.now) { core = c.resume.new.self }) c.requires.stood (λ K h s. rw c.in-Some.is at c.resume.ensures K h s) c.alone.new.self (resume_works c.in-Some.worker c.args.self.now (record (c.args.self.now) { core = c.resume.new.self }) c.requires.stood (λ K h s. rw c.in-Some.is at c.resume.ensures K h s) refl refl refl refl refl c.requires.lowest c.requires.going) c.in_ok-alone-in-Some.ensures.works c.requires.rests

pub returns-in_ok-alone-in-Some-clause-fewer : goal.returns-in_ok-alone-in-Some-clause-fewer
returns-in_ok-alone-in-Some-clause-fewer c = λ e. resumed_fewer c.in-Some.worker c.args.self.now (record (c.args.self.now) { core = c.resume.new.self }) c.requires.stood (λ K h s. rw c.in-Some.is at c.resume.ensures K h s) c.alone.new.self (resume_works c.in-Some.worker c.args.self.now (record (c.args.self.now) { core = c.resume.new.self }) c.requires.stood (λ K h s. rw c.in-Some.is at c.resume.ensures K h s) refl refl refl refl refl c.requires.lowest c.requires.going) c.in_ok-alone-in-Some.ensures.works c.alone.ensures.settles

pub returns-in_err-alone-in-Some-clause-works : goal.returns-in_err-alone-in-Some-clause-works
returns-in_err-alone-in-Some-clause-works c =
    let p = err_from_is_err_and c.from_residual.result c.from_residual.ensures.1 in
    subst (λ r. Works (resumed_by r) (is_ok r) c.args.self.now c.alone.new.self) (sym p.1)
    (resumed_cut c.in-Some.worker c.args.self.now (record (c.args.self.now) { core = c.resume.new.self }) c.requires.stood (λ K h s. rw c.in-Some.is at c.resume.ensures K h s) c.alone.new.self (resume_works c.in-Some.worker c.args.self.now (record (c.args.self.now) { core = c.resume.new.self }) c.requires.stood (λ K h s. rw c.in-Some.is at c.resume.ensures K h s) refl refl refl refl refl c.requires.lowest c.requires.going) _ c.in_err-alone-in-Some.ensures.works)

pub returns-in_err-alone-in-Some-clause-fewer : goal.returns-in_err-alone-in-Some-clause-fewer
returns-in_err-alone-in-Some-clause-fewer c = λ e. (let p = err_from_is_err_and c.from_residual.result c.from_residual.ensures.1 in absurd (let bad : Err _ ≡ Ok true = sym p.1 ∙ e in cc))

pub returns-in-None-clause-works : goal.returns-in-None-clause-works
returns-in-None-clause-works c = none_works c.args.self.now (record (c.args.self.now) { core = c.resume.new.self }) c.requires.stood (λ K h s. rw c.in-None.is at c.resume.ensures K h s) c.requires.lowest c.requires.going c.requires.rests refl refl refl refl refl

pub returns-in-None-clause-rests : goal.returns-in-None-clause-rests
returns-in-None-clause-rests c = none_rests c.args.self.now (record (c.args.self.now) { core = c.resume.new.self }) c.requires.stood (λ K h s. rw c.in-None.is at c.resume.ensures K h s) c.requires.lowest c.requires.going c.requires.rests

pub returns-in-None-clause-fewer : goal.returns-in-None-clause-fewer
returns-in-None-clause-fewer c = λ e. absurd (let bad : Ok false ≡ Ok true = e in cc)
