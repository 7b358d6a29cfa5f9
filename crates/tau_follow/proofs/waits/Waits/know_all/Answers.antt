-- What waits is known, and drained.
use Rattle.tau_follow.proofs.waits.Waits.know_all.Goals as goal

pub returns-in-Ok-drain_all-clause-found : goal.returns-in-Ok-drain_all-clause-found
returns-in-Ok-drain_all-clause-found c = λ streams k. c.in-Ok-drain_all.ensures.found streams c.args.stages.now (c.in-Ok.ensures streams k)
