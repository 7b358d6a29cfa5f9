-- It follows what it was fed, which is nothing.
use Rattle.std.proofs.Common.{refl, inr, replicate, []}
use Rattle.tau_follow_laws.specs.Following.{begun}
use Rattle.tau_follow.specs.Follower.{IsOpen}
use Rattle.tau_follow.proofs.follower.Follower.new.Goals as goal

pub returns-clause-open : goal.returns-clause-open
unfolding IsOpen
returns-clause-open c = (refl, inr (c.args.format, c.args.n, replicate c.args.n [], begun c.args.n, record { format = c.new-2.ensures.format; width = c.new-2.ensures.n; state = c.in_ok-state.ensures c.args.format; count = refl; good = refl; open_still = refl }))
