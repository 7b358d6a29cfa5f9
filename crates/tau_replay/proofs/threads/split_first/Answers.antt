-- The hands of both seats are those that there were.
use Rattle.std.proofs.Common.{ℕ, ◌≡◌, subst, arith}
use Rattle.tau_replay.specs.Working.{IsSpare}
use Rattle.tau_replay.proofs.Crews.{spare_parts}
use Rattle.tau_replay.proofs.threads.split_first.Goals as goal

pub returns-clause-workers : goal.returns-clause-workers
returns-clause-workers c = spare_parts _ _ c.args.seat.now.me _ _ c.requires.spare c.loop-k.invariant.mine c.loop-k.invariant.left

pub returns-clause-first : goal.returns-clause-first
returns-clause-first c =
    let sixteen : c.loop-k.k ≡ 16 = omega (arith, c.loop-k-test.false, c.loop-k.auto.k-end) in
    subst (λ (k : ℕ). IsSpare c.args.first k c.loop-k.mine.me) sixteen c.loop-k.invariant.mine
