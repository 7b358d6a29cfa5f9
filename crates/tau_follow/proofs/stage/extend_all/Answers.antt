-- The records stand as they did, and the new ones stand first.
use Rattle.std.proofs.Common.{ap, ◌∙◌}
use Rattle.tau_follow_laws.proofs.GoesOn.{fronts_stand}
use Rattle.tau_follow.specs.Applying.{extended_from}
use Rattle.tau_follow.proofs.Extending.{extend_all, extend_end}
use Rattle.tau_follow.proofs.stage.extend_all.Goals as goal

pub returns-clause-stages : goal.returns-clause-stages
returns-clause-stages c = λ old more out order format fed now fronts after grown out_read order_read is.
    extend_end c.args.streams.now c.loop-j.all.items (extended_from c.args.streams.now c.args.all.now.items) c.loop-j.j c.loop-j.invariant.1 c.loop-j-test.false c.loop-j.invariant.0
    ∙ ap (extended_from c.args.streams.now) is ∙ extend_all old more c.args.streams.now out order (fronts_stand format fed old fronts) grown (fronts_stand format now c.args.streams.now after) out_read order_read
