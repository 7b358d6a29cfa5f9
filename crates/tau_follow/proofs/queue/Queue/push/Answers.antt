-- One more waits.
use Rattle.tau_follow.specs.Queue.{wait_at}
use Rattle.tau_follow.proofs.Queued.{pushed_there, pushed_kept, pushed_above}
use Rattle.tau_follow.proofs.queue.Queue.push.Goals as goal

pub returns-clause-added : goal.returns-clause-added
returns-clause-added c = pushed_there _ _ (wait_at c.args.at c.args.spot) c.in-Ok.ensures.permutation

pub returns-clause-kept : goal.returns-clause-kept
returns-clause-kept c = λ w h. pushed_kept _ _ (wait_at c.args.at c.args.spot) w c.in-Ok.ensures.permutation (rw (← c.self.view_is) at h)

pub returns-clause-above : goal.returns-clause-above
returns-clause-above c = λ reached all lt. pushed_above reached _ _ (wait_at c.args.at c.args.spot) c.in-Ok.ensures.permutation lt (rw (← c.self.view_is) at all)
