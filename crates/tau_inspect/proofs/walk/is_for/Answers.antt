-- The record is for the call.
use Rattle.std.proofs.Common.{sym, subst, arith}
use Rattle.tau_base.specs.declared.value.Call.{Call}
use Rattle.tau_inspect.specs.Audit.{IsWork}
use Rattle.tau_inspect.proofs.Histories.{call_there}
use Rattle.tau_inspect.proofs.walk.is_for.Goals as goal

pub returns : goal.returns
returns c = λ t. record {
  work = subst (λ (made : Call). IsWork c.args.one.now.content c.args.writes.now made) (sym (call_there c.args.case.now.load.now.calls c.args.number c.at.result.now c.at.ensures)) (c.has_work.ensures.0 c.if-not-has_work.false);
  home = c.is_home.ensures.0 c.if-not-is_home.false;
  ack = c.ack_agrees.ensures.0 t;
}

pub ack_agrees-requires-clause-small : goal.ack_agrees-requires-clause-small
ack_agrees-requires-clause-small c = omega (arith, c.requires.named, c.requires.number.1)
