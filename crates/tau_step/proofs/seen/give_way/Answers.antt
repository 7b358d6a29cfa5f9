use Rattle.std.proofs.Common.{sym, ap, subst, refl}
use Rattle.tau_base.specs.declared.value.NoMemory.{NoMemory}
use Rattle.std.specs.Prelude.{Ok, Err, Result}
use Rattle.tau_core.specs.declared.event.Outcome.{Outcome}
use Rattle.tau_occ.specs.Peeker.{PlainPeeker}
use Rattle.tau_step.proofs.PeekTurns.{RetriedSeen, retried, retry_turned}
use Rattle.tau_step.proofs.seen.give_way.Goals as goal

pub returns-in-NoMemory : goal.returns-in-NoMemory
returns-in-NoMemory c = record {
  turned = λ K h es told f stands same works.
      let no : Result (Unit {0}) NoMemory = Err (record {}) in
      retry_turned c.args.worker c.args.core.now c.retry.new.self c.args.number c.args.key c.args.mode c.args.peeker.now.seen c.requires.at c.requires.ended K h es told f stands same works c.retry.result c.args.peeker.now.seen no (c.retry.ensures K h stands) c.requires.differs
      (subst (λ (o : Outcome). RetriedSeen o c.args.peeker.now.seen c.args.peeker.now.seen no) (sym c.in-NoMemory.is) refl);
  kept = tt;
}

pub returns-in_default : goal.returns-in_default
returns-in_default c = record {
  turned = λ K h es told f stands same works.
      let yes : Result (Unit {0}) NoMemory = Ok tt in
      retry_turned c.args.worker c.args.core.now c.retry.new.self c.args.number c.args.key c.args.mode c.args.peeker.now.seen c.requires.at c.requires.ended K h es told f stands same works c.retry.result c.forget.new.self.seen yes (c.retry.ensures K h stands) c.requires.differs
      (retried {A = Unit {0}} tt c.retry.result c.args.peeker.now.seen c.forget.new.self.seen c.in_default.not-NoMemory (ap (λ (q : PlainPeeker). q.seen) c.forget.ensures));
  kept = ap (λ (q : PlainPeeker). q.seen) c.forget.ensures;
}
