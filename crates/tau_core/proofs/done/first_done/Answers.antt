use Rattle.std.proofs.Common.{inl, refl, ap}
use Rattle.tau_core.specs.State.{Plain, plain}
use Rattle.tau_core.specs.declared.event.Outcome.TheVariants as outcome
use Rattle.tau_core.specs.Phases.{phase_of_kind}
use Rattle.tau_core.specs.Frees.{DoneBy}
use Rattle.tau_core.proofs.Firsts.{first_undone}
use Rattle.tau_core.proofs.done.first_done.Goals as goal

pub returns-in_default : goal.returns-in_default
returns-in_default c = inl c.in_default.ensures.made

pub done_next-requires-clause-sound : goal.done_next-requires-clause-sound
done_next-requires-clause-sound c = c.in-Ok.ensures.begun.sound

pub undo-requires-clause-fresh : goal.undo-requires-clause-fresh
undo-requires-clause-fresh c = c.in-Ok.ensures.begun.fresh (plain c.done_next.new.state) (ap (λ (x : Plain). x.seats) c.in-Other.ensures.0)

pub returns-in-Other : goal.returns-in-Other
returns-in-Other c = (
  refl,
  (
    phase_of_kind c.in-Other.kind,
    first_undone DoneBy (plain c.args.state.now) (plain c.begin_first.new.state) (plain c.done_next.new.state) (plain c.undo.new.state) c.args.worker c.args.number (outcome.NotNow (phase_of_kind c.in-Other.kind)) c.in-Ok.mark c.in-Ok.ensures.begun c.in-Other.ensures c.undo.ensures,
  ),
)
