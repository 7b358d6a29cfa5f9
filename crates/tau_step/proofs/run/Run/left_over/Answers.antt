use Rattle.std.proofs.Common.{true, ap, sym, ◌∙◌}
use Rattle.std.specs.Prelude.{Ok}
use Rattle.std.proofs.lemmas.Result.{err_from_is_err_and}
use Rattle.tau_step.proofs.LeftOvers.{left_so, left_so_quiet, calls_none, calls_more, calls_end, calls_cut, none_run, is_none}
use Rattle.tau_step.proofs.EffectsInTurn.{works_lowest}
use Rattle.tau_step.proofs.run.Run.left_over.Goals as goal

pub returns-then-is_some : goal.returns-then-is_some
returns-then-is_some c = record { works = none_run c.args.self.now c.requires.stood c.requires.lowest (sym c.is_some.ensures ∙ c.if-is_some.true) }

pub calls-init : goal.calls-init
calls-init c = record { works = calls_none c.args.self.now c.requires.stood; rests = c.requires.rests }

pub resumed-requires-clause-stood : goal.resumed-requires-clause-stood
resumed-requires-clause-stood c = c.calls.invariant.works.stood

pub resumed-requires-clause-lowest : goal.resumed-requires-clause-lowest
resumed-requires-clause-lowest c = works_lowest left_so true c.args.self.now c.calls.self c.requires.stood (left_so_quiet true) c.calls.invariant.works c.requires.lowest

pub resumed-requires-clause-going : goal.resumed-requires-clause-going
resumed-requires-clause-going c = c.calls.invariant.works.failed ∙ is_none c.args.self.now.failed (sym c.is_some.ensures ∙ c.if-is_some.false)

pub resumed-requires-clause-rests : goal.resumed-requires-clause-rests
resumed-requires-clause-rests c = c.calls.invariant.rests

pub calls-preserved : goal.calls-preserved
calls-preserved c = record {
  works = calls_more c.args.self.now c.calls.self c.resumed.new.self c.calls.invariant.works (rw c.if-branch.true at c.in_ok-resumed.ensures.works);
  rests = c.in_ok-resumed.ensures.rests;
}

pub calls-smaller : goal.calls-smaller
calls-smaller c = c.resumed.ensures.fewer (c.in_ok-resumed.was ∙ ap Ok c.if-branch.true)

pub returns : goal.returns
returns c = record { works = calls_end c.args.self.now c.calls.self c.resumed.new.self c.calls.invariant.works (rw c.if-branch.false at c.in_ok-resumed.ensures.works) }

pub returns-in_err-resumed : goal.returns-in_err-resumed
returns-in_err-resumed c = record { works = rw (err_from_is_err_and c.from_residual.result c.from_residual.ensures.1).1 (calls_cut c.args.self.now c.calls.self c.resumed.new.self c.calls.invariant.works _ c.in_err-resumed.ensures.works) }
