-- What is first leaves.
use Rattle.tau_follow.proofs.Queued.{popped}
use Rattle.tau_follow.proofs.queue.Queue.pop.Goals as goal

pub returns-clause-some : goal.returns-clause-some
returns-clause-some c = λ w h. popped _ _ c.in-Some.field-0 w c.in-Some.ensures.permutation (rw (← c.self.view_is) at h)
