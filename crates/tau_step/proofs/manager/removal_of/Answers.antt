use Rattle.tau_step.proofs.AnchorsDropped.{dropped}
use Rattle.tau_step.proofs.manager.removal_of.Goals as goal

pub returns : goal.returns
returns c = λ K h es told g. dropped c.args.core.now c.step.new.self K h es told c.args.shard c.step.result (c.step.ensures K h g)
