use Rattle.std.proofs.Common.{inl, inr, sym, ap, subst, refl}
use Rattle.std.specs.Prelude.{Ok, Err, Result}
use Rattle.tau_base.specs.declared.value.NoMemory.{NoMemory}
use Rattle.tau_core.specs.declared.event.Acted.{Acted}
use Rattle.tau_occ.specs.Peeker.{PlainPeeker}
use Rattle.tau_step.proofs.PeekTurns.{SeenBy, kept_none, lock_turned}
use Rattle.tau_step.proofs.seen.lock_seen.Goals as goal

pub returns-in-Went : goal.returns-in-Went
returns-in-Went c = record {
  turned = λ K h es told f stands same works.
      let yes : Result (Unit {0}) NoMemory = Ok tt in
      lock_turned c.args.worker c.args.core.now c.lock.new.self c.args.number c.args.key c.args.mode c.args.peeker.now.seen c.requires.at c.requires.ended K h es told f stands same works c.lock.result c.lock.ensures.value c.args.peeker.now.seen yes (c.lock.ensures.is K h stands)
      (λ m. c.differs.ensures.not c.if-differs.false m K h stands) (subst (λ (a : Acted). SeenBy a c.args.peeker.now.seen c.args.peeker.now.seen yes) (sym c.in-Went.is) refl);
  kept = inr refl;
}

pub returns-in-Busy : goal.returns-in-Busy
returns-in-Busy c = record {
  turned = λ K h es told f stands same works.
      let yes : Result (Unit {0}) NoMemory = Ok tt in
      lock_turned c.args.worker c.args.core.now c.lock.new.self c.args.number c.args.key c.args.mode c.args.peeker.now.seen c.requires.at c.requires.ended K h es told f stands same works c.lock.result c.lock.ensures.value c.forget.new.self.seen yes (c.lock.ensures.is K h stands)
      (λ m. c.differs.ensures.not c.if-differs.false m K h stands) (subst (λ (a : Acted). SeenBy a c.args.peeker.now.seen c.forget.new.self.seen yes) (sym c.in-Busy.is) (ap (λ (q : PlainPeeker). q.seen) c.forget.ensures));
  kept = inl (ap (λ (q : PlainPeeker). q.seen) c.forget.ensures);
}

pub returns-in-NoMemory : goal.returns-in-NoMemory
returns-in-NoMemory c = record {
  turned = λ K h es told f stands same works.
      let no : Result (Unit {0}) NoMemory = Err (record {}) in
      lock_turned c.args.worker c.args.core.now c.lock.new.self c.args.number c.args.key c.args.mode c.args.peeker.now.seen c.requires.at c.requires.ended K h es told f stands same works c.lock.result c.lock.ensures.value c.args.peeker.now.seen no (c.lock.ensures.is K h stands)
      (λ m. c.differs.ensures.not c.if-differs.false m K h stands) (subst (λ (a : Acted). SeenBy a c.args.peeker.now.seen c.args.peeker.now.seen no) (sym c.in-NoMemory.is) refl);
  kept = tt;
}

pub returns-in-Other : goal.returns-in-Other
returns-in-Other c = record {
  turned = λ K h es told f stands same works.
      let yes : Result (Unit {0}) NoMemory = Ok tt in
      lock_turned c.args.worker c.args.core.now c.lock.new.self c.args.number c.args.key c.args.mode c.args.peeker.now.seen c.requires.at c.requires.ended K h es told f stands same works c.lock.result c.lock.ensures.value c.args.peeker.now.seen yes (c.lock.ensures.is K h stands)
      (λ m. c.differs.ensures.not c.if-differs.false m K h stands) (subst (λ (a : Acted). SeenBy a c.args.peeker.now.seen c.args.peeker.now.seen yes) (sym c.in-Other.is) tt);
  kept = inr refl;
}

pub returns-then-differs-clause-kept : goal.returns-then-differs-clause-kept
returns-then-differs-clause-kept c = kept_none _ _ c.give_way.result c.give_way.ensures.kept
