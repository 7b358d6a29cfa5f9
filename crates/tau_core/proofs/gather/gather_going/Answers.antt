use Rattle.std.proofs.Common.{sym, ◌∙◌}
use Rattle.tau_core.specs.State.{plain}
use Rattle.tau_core.specs.Gather.{end_on}
use Rattle.tau_core.proofs.Idle.{idle_gathered}
use Rattle.tau_core.proofs.gather.gather_going.Goals as goal

pub returns-then-upto-past : goal.returns-then-upto-past
returns-then-upto-past c = (
  c.requires.going,
  end_on,
  c.get-upto.ensures.same,
  idle_gathered (plain c.args.state.now) c.requires.stood c.args.stream c.requires.there (sym c.get-upto.ensures.same ∙ c.if-upto-past.true ∙ c.get-past.ensures.same),
)
