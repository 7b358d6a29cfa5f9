use Rattle.std.proofs.Common.{sym, subst, ◌∙◌}
use Rattle.tau_core.specs.declared.event.Event.TheVariants as event
use Rattle.tau_core.specs.declared.event.Outcome.{Outcome}
use Rattle.tau_core.specs.Steps.{Steps}
use Rattle.tau_step.proofs.Working.{stays}
use Rattle.tau_step.proofs.AnchorsDropped.{anchor_goes}
use Rattle.tau_step.proofs.manager.anchor_turn.Goals as goal

pub returns-then-is_short-clause-short : goal.returns-then-is_short-clause-short
returns-then-is_short-clause-short c = λ K h es told g.
    stays c.args.core.now c.step-outcome.new.self K h es told
    (subst (λ (o : Outcome). Steps c.args.core.now c.step-outcome.new.self K h (event.Anchor c.args.stream) o) (c.is_short.ensures.0 c.if-is_short.true) (c.step-outcome.ensures K h g))

pub returns-clause-ok : goal.returns-clause-ok
returns-clause-ok c = λ K h es told g.
    anchor_goes c.args.core.now c.step-outcome.new.self K h es told c.args.stream c.requires.there c.step-outcome.result
    (λ e. let bad = sym c.if-is_short.false ∙ c.is_short.ensures.1 e in cc) (c.step-outcome.ensures K h g)
