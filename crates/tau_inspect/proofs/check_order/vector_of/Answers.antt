-- Each position is small.
use Rattle.std.proofs.Common.{ℕ, ◌<◌}
use Rattle.std.proofs.lemmas.List.Elements.{All-get_or}
use Rattle.tau_base.specs.declared.limits.TheConstants.{MAX_LSN}
use Rattle.tau_inspect.proofs.check_order.vector_of.Goals as goal

pub set-requires-clause-small : goal.set-requires-clause-small
set-requires-clause-small c = All-get_or (λ (p : ℕ). p < MAX_LSN) c.args.positions.now c.loop-j.j 0 c.loop-j-test.true c.requires.small
