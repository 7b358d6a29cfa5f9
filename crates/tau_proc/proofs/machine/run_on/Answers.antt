use Rattle.std.proofs.Common.{◌+◌, sym, subst, ◌∙◌, arith}
use Rattle.tau_proc.specs.Progress.{KeepsCourse}
use Rattle.tau_proc.proofs.Walk.{keeps_forget, stage_done, step_keeps, step_goes, step_asks, step_register, step_refuses}
use Rattle.tau_proc.proofs.machine.run_on.Goals as goal

pub loop-done-preserved : goal.loop-done-preserved
loop-done-preserved c = record {
  keeps = step_keeps c.args.args.now c.args.steps.now c.loop-done.done c.loop-done.running c.index-steps-done.result c.step-did.new.self c.loop-done-test.true c.index-steps-done.is c.step-did.ensures.stands c.loop-done.invariant.keeps;
  stands = λ vs. step_goes c.args.args.now c.args.steps.now c.loop-done.done c.loop-done.running c.index-steps-done.result c.step-did.new.self c.loop-done-test.true c.index-steps-done.is c.step-did.ensures.stands (sym c.step-did.ensures.did ∙ c.in-Goes.is) vs ∙ c.loop-done.invariant.stands vs;
  later = omega (arith, c.loop-done.invariant.later);
}

pub returns-in-Asks-clause-keeps : goal.returns-in-Asks-clause-keeps
returns-in-Asks-clause-keeps c = step_keeps c.args.args.now c.args.steps.now c.loop-done.done c.loop-done.running c.index-steps-done.result c.step-did.new.self c.loop-done-test.true c.index-steps-done.is c.step-did.ensures.stands c.loop-done.invariant.keeps

pub returns-in-Asks-clause-stands : goal.returns-in-Asks-clause-stands
returns-in-Asks-clause-stands c = λ vs. step_asks c.args.args.now c.args.steps.now c.loop-done.done c.loop-done.running c.index-steps-done.result c.step-did.new.self c.loop-done-test.true c.index-steps-done.is c.step-did.ensures.stands c.in-Asks.key c.in-Asks.into (sym c.step-did.ensures.did ∙ c.in-Asks.is) vs ∙ c.loop-done.invariant.stands vs

pub returns-in-Asks-clause-fits : goal.returns-in-Asks-clause-fits
returns-in-Asks-clause-fits c = step_register c.args.args.now c.args.steps.now c.loop-done.done c.loop-done.running c.index-steps-done.result c.step-did.new.self c.loop-done-test.true c.index-steps-done.is c.step-did.ensures.stands c.loop-done.invariant.keeps c.in-Asks.key c.in-Asks.into (sym c.step-did.ensures.did ∙ c.in-Asks.is)

pub returns-in-Refuses-clause-keeps : goal.returns-in-Refuses-clause-keeps
returns-in-Refuses-clause-keeps c =
    let kept = step_keeps c.args.args.now c.args.steps.now c.loop-done.done c.loop-done.running c.index-steps-done.result c.step-did.new.self c.loop-done-test.true c.index-steps-done.is c.step-did.ensures.stands c.loop-done.invariant.keeps in
    subst (KeepsCourse c.args.args.now c.args.steps.now (c.loop-done.done + 1)) (sym c.forget.ensures) (keeps_forget c.args.args.now c.args.steps.now (c.loop-done.done + 1) c.step-did.new.self kept)

pub returns-in-Refuses-clause-stands : goal.returns-in-Refuses-clause-stands
returns-in-Refuses-clause-stands c = λ vs. rw c.forget.ensures (step_refuses c.args.args.now c.args.steps.now c.loop-done.done c.loop-done.running c.index-steps-done.result c.step-did.new.self c.loop-done-test.true c.index-steps-done.is c.step-did.ensures.stands (sym c.step-did.ensures.did ∙ c.in-Refuses.is) vs ∙ c.loop-done.invariant.stands vs)

pub returns-clause-stands : goal.returns-clause-stands
returns-clause-stands c = λ vs. rw (c.put_end.ensures, c.reply.ensures) (sym (stage_done c.args.args.now c.args.steps.now c.loop-done.done c.loop-done.running c.loop-done-test.false vs) ∙ c.loop-done.invariant.stands vs)
