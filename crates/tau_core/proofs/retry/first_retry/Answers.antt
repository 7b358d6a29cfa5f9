use Rattle.std.proofs.Common.{inl, refl, ap}
use Rattle.tau_core.specs.State.{Plain, plain}
use Rattle.tau_core.specs.declared.event.Outcome.TheVariants as outcome
use Rattle.tau_core.specs.Retries.{RetriedBy}
use Rattle.tau_core.proofs.Firsts.{first_undone}
use Rattle.tau_core.proofs.retry.first_retry.Goals as goal

pub returns-in_default : goal.returns-in_default
returns-in_default c = inl c.in_default.ensures.made

pub retry_next-requires-clause-sound : goal.retry_next-requires-clause-sound
retry_next-requires-clause-sound c = c.in-Ok.ensures.begun.sound

pub undo-requires-clause-fresh : goal.undo-requires-clause-fresh
undo-requires-clause-fresh c = c.in-Ok.ensures.begun.fresh (plain c.retry_next.new.state) (ap (λ (x : Plain). x.seats) c.in-NotNow.ensures.0)

pub returns-in-NotNow : goal.returns-in-NotNow
returns-in-NotNow c = (
  refl,
  (
    c.in-NotNow.phase,
    first_undone RetriedBy (plain c.args.state.now) (plain c.begin_first.new.state) (plain c.retry_next.new.state) (plain c.undo.new.state) c.args.worker c.args.number (outcome.NotNow c.in-NotNow.phase) c.in-Ok.mark c.in-Ok.ensures.begun c.in-NotNow.ensures c.undo.ensures,
  ),
)
