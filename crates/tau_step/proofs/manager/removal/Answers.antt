use Rattle.std.proofs.Common.{ℕ, ◌+◌, ◌≡◌, subst, arith}
use Rattle.tau_base.specs.declared.limits.TheConstants.{SHARDS}
use Rattle.tau_step.specs.Progressed.{Comes}
use Rattle.tau_step.proofs.PartsOfPasses.{drops_below}
use Rattle.tau_step.proofs.Passing.{drops_none, drops_more}
use Rattle.tau_step.proofs.manager.removal.Goals as goal

pub loop-shard-init : goal.loop-shard-init
loop-shard-init c = λ K h es told g. drops_none c.args.core.now told K h es g

pub loop-shard-preserved : goal.loop-shard-preserved
loop-shard-preserved c = λ K h es told g.
    let d = c.loop-shard.invariant K h es told g in
    drops_more c.args.core.now told K h es c.loop-shard.shard (c.loop-shard.shard + 1) (omega arith) c.loop-shard.core c.removal_of.new.core d (c.removal_of.ensures d.order d.hidden d.events told d.stands)

pub returns : goal.returns
returns c = λ K h es told g.
    let all : c.loop-shard.shard ≡ SHARDS = omega arith in
    subst (λ (n : ℕ). Comes (drops_below n) c.args.core.now c.loop-shard.core told told K h es) all (c.loop-shard.invariant K h es told g)
