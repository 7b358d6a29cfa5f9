use Rattle.std.proofs.Common.{inl, inr, refl, ap}
use Rattle.tau_core.specs.State.{Plain, plain}
use Rattle.tau_base.specs.declared.value.Value.TheVariants.{Absent}
use Rattle.tau_core.specs.declared.event.Outcome.TheVariants as outcome
use Rattle.tau_core.specs.Phases.{phase_of_kind}
use Rattle.tau_core.specs.Locks.{LockedBy}
use Rattle.tau_core.proofs.Firsts.{first_undone}
use Rattle.tau_core.proofs.lock.first_lock.Goals as goal

pub returns-in_default : goal.returns-in_default
returns-in_default c = record { value = Absent; is = inl c.in_default.ensures.made }

pub lock_next-requires-clause-sound : goal.lock_next-requires-clause-sound
lock_next-requires-clause-sound c = c.in-Ok.ensures.begun.sound

pub returns-in-Went : goal.returns-in-Went
returns-in-Went c = record { value = c.in-Went.ensures.value; is = (plain c.begin_first.new.state, c.in-Ok.ensures.begun.as_begun, c.in-Went.ensures.is) }

pub returns-in-Busy : goal.returns-in-Busy
returns-in-Busy c = record { value = c.in-Busy.ensures.value; is = (plain c.begin_first.new.state, c.in-Ok.ensures.begun.as_begun, c.in-Busy.ensures.is) }

pub undo-requires-clause-fresh : goal.undo-requires-clause-fresh
undo-requires-clause-fresh c = c.in-Ok.ensures.begun.fresh (plain c.lock_next.new.state) (ap (λ (x : Plain). x.seats) c.in-Other.ensures.is.0)

pub undo-requires-in-NoMemory-clause-fresh : goal.undo-requires-in-NoMemory-clause-fresh
undo-requires-in-NoMemory-clause-fresh c = c.in-Ok.ensures.begun.fresh (plain c.lock_next.new.state) (ap (λ (x : Plain). x.seats) c.in-NoMemory.ensures.is.0.after)

pub returns-in-Other : goal.returns-in-Other
returns-in-Other c = record {
  value = Absent;
  is = (
    refl,
    (
      phase_of_kind c.in-Other.kind,
      first_undone LockedBy (plain c.args.state.now) (plain c.begin_first.new.state) (plain c.lock_next.new.state) (plain c.undo.new.state) c.args.worker c.args.number (outcome.NotNow (phase_of_kind c.in-Other.kind)) c.in-Ok.mark c.in-Ok.ensures.begun c.in-Other.ensures.is c.undo.ensures,
    ),
  );
}

pub returns-in-NoMemory : goal.returns-in-NoMemory
returns-in-NoMemory c = record {
  value = Absent;
  is = inr (first_undone LockedBy (plain c.args.state.now) (plain c.begin_first.new.state) (plain c.lock_next.new.state) (plain c.undo-in-NoMemory.new.state) c.args.worker c.args.number outcome.NoMemory c.in-Ok.mark c.in-Ok.ensures.begun c.in-NoMemory.ensures.is c.undo-in-NoMemory.ensures);
}
