use Rattle.std.proofs.Common.{refl, subst}
use Rattle.tau_core.specs.declared.event.Event.TheVariants as event
use Rattle.tau_core.specs.declared.event.Outcome.TheVariants as outcome
use Rattle.tau_core.specs.State.{plain}
use Rattle.tau_core.specs.Steps.{IsThere}
use Rattle.tau_core.specs.Answered.{went_by, gathered_by, reached_by}
use Rattle.tau_core.proofs.Steps.{drop_steps, anchor_steps}
use Rattle.tau_core.proofs.Whole.{stood_at, there_at, steps_at, told_at}
use Rattle.tau_core.proofs.top.Core.step.Goals as goal

pub lock_with_value-requires : goal.lock_with_value-requires
lock_with_value-requires c = record { there = subst (IsThere c.args.self.now) c.in-Lock.is c.requires.there }

pub returns-in-Lock : goal.returns-in-Lock
returns-in-Lock c = λ K h g. told_at c.args.self.now c.lock_with_value.new.self K h c.args.event (event.Lock c.in-Lock.worker) c.lock_with_value.result c.lock_with_value.result c.in-Lock.is refl (c.lock_with_value.ensures K h g)

pub quit-requires : goal.quit-requires
quit-requires c = record { there = subst (IsThere c.args.self.now) c.in-Quit.is c.requires.there }

pub returns-in-Quit : goal.returns-in-Quit
returns-in-Quit c = λ K h g. told_at c.args.self.now c.quit.new.self K h c.args.event (event.Quit c.in-Quit.worker) c.outcome_by.result (went_by c.quit.result) c.in-Quit.is c.outcome_by.ensures (c.quit.ensures K h g)

pub commit_with_start-requires : goal.commit_with_start-requires
commit_with_start-requires c = record { there = subst (IsThere c.args.self.now) c.in-Commit.is c.requires.there }

pub returns-in-Commit : goal.returns-in-Commit
returns-in-Commit c = λ K h g. told_at c.args.self.now c.commit_with_start.new.self K h c.args.event (event.Commit c.in-Commit.worker) c.commit_with_start.result c.commit_with_start.result c.in-Commit.is refl (c.commit_with_start.ensures K h g)

pub post-requires : goal.post-requires
post-requires c = record { there = subst (IsThere c.args.self.now) c.in-Post.is c.requires.there }

pub returns-in-Post : goal.returns-in-Post
returns-in-Post c = λ K h g. told_at c.args.self.now c.post.new.self K h c.args.event (event.Post c.in-Post.worker) c.outcome_by-in-Post.result (went_by c.post.result) c.in-Post.is c.outcome_by-in-Post.ensures (c.post.ensures K h g)

pub free-requires : goal.free-requires
free-requires c = record { there = subst (IsThere c.args.self.now) c.in-Free.is c.requires.there }

pub returns-in-Free : goal.returns-in-Free
returns-in-Free c = λ K h g. told_at c.args.self.now c.free.new.self K h c.args.event (event.Free c.in-Free.worker) c.outcome_by-in-Free.result (went_by c.free.result) c.in-Free.is c.outcome_by-in-Free.ensures (c.free.ensures K h g)

pub done-requires : goal.done-requires
done-requires c = record { there = subst (IsThere c.args.self.now) c.in-Done.is c.requires.there }

pub returns-in-Done : goal.returns-in-Done
returns-in-Done c = λ K h g. told_at c.args.self.now c.done.new.self K h c.args.event (event.Done c.in-Done.worker) c.outcome_by-in-Done.result (went_by c.done.result) c.in-Done.is c.outcome_by-in-Done.ensures (c.done.ensures K h g)

pub invariant_of-self : goal.invariant_of-self
invariant_of-self c = stood_at (plain c.self.inside.state) (plain c.sweep.new.state) (event.Drop c.in-Drop.shard) outcome.Went c.self.invariant (λ K h g. drop_steps (plain c.self.inside.state) (plain c.sweep.new.state) K h g c.in-Drop.shard c.sweep.ensures)

pub returns-in-Drop : goal.returns-in-Drop
returns-in-Drop c = steps_at (plain c.self.inside.state) c.args.self.now (plain c.sweep.new.state) c.args.event (event.Drop c.in-Drop.shard) outcome.Went c.self.view_is c.in-Drop.is (λ K h g. drop_steps (plain c.self.inside.state) (plain c.sweep.new.state) K h g c.in-Drop.shard c.sweep.ensures)

pub gather-requires : goal.gather-requires
gather-requires c = record { there = subst (IsThere c.args.self.now) c.in-Gather.is c.requires.there }

pub returns-in-Gather : goal.returns-in-Gather
returns-in-Gather c = λ K h g. told_at c.args.self.now c.gather.new.self K h c.args.event (event.Gather c.in-Gather.stream) c.gathered_by.result (gathered_by c.gather.result) c.in-Gather.is c.gathered_by.ensures (c.gather.ensures K h g)

pub invariant_of-self-in-Anchor : goal.invariant_of-self-in-Anchor
invariant_of-self-in-Anchor c = stood_at (plain c.self-in-Anchor.inside.state) (plain c.anchor.new.state) (event.Anchor c.in-Anchor.stream) c.anchor.result c.self-in-Anchor.invariant (λ K h g. anchor_steps (plain c.self-in-Anchor.inside.state) (plain c.anchor.new.state) K h g c.in-Anchor.stream c.anchor.result (there_at (plain c.self-in-Anchor.inside.state) c.args.self.now c.args.event (event.Anchor c.in-Anchor.stream) c.self-in-Anchor.view_is c.in-Anchor.is c.requires.there) c.anchor.ensures)

pub returns-in-Anchor : goal.returns-in-Anchor
returns-in-Anchor c = steps_at (plain c.self-in-Anchor.inside.state) c.args.self.now (plain c.anchor.new.state) c.args.event (event.Anchor c.in-Anchor.stream) c.anchor.result c.self-in-Anchor.view_is c.in-Anchor.is (λ K h g. anchor_steps (plain c.self-in-Anchor.inside.state) (plain c.anchor.new.state) K h g c.in-Anchor.stream c.anchor.result (there_at (plain c.self-in-Anchor.inside.state) c.args.self.now c.args.event (event.Anchor c.in-Anchor.stream) c.self-in-Anchor.view_is c.in-Anchor.is c.requires.there) c.anchor.ensures)

pub persist-requires : goal.persist-requires
persist-requires c = record { there = subst (IsThere c.args.self.now) c.in-Persist.is c.requires.there }

pub returns-in-Persist : goal.returns-in-Persist
returns-in-Persist c = λ K h g. told_at c.args.self.now c.persist.new.self K h c.args.event (event.Persist c.in-Persist.stream c.in-Persist.upto) c.reached_by.result (reached_by c.persist.result) c.in-Persist.is c.reached_by.ensures (c.persist.ensures K h g)

pub ack_with_call-requires : goal.ack_with_call-requires
ack_with_call-requires c = record { there = subst (IsThere c.args.self.now) c.in-Ack.is c.requires.there }

pub returns-in-Ack : goal.returns-in-Ack
returns-in-Ack c = λ K h g. told_at c.args.self.now c.ack_with_call.new.self K h c.args.event (event.Ack c.in-Ack.worker) c.ack_with_call.result c.ack_with_call.result c.in-Ack.is refl (c.ack_with_call.ensures K h g)

pub stop-requires : goal.stop-requires
stop-requires c = record { there = subst (IsThere c.args.self.now) c.in-Stop.is c.requires.there }

pub returns-in-Stop : goal.returns-in-Stop
returns-in-Stop c = λ K h g. told_at c.args.self.now c.stop.new.self K h c.args.event (event.Stop c.in-Stop.stream c.in-Stop.at) c.reached_by-in-Stop.result (reached_by c.stop.result) c.in-Stop.is c.reached_by-in-Stop.ensures (c.stop.ensures K h g)
