use Rattle.std.proofs.Common.{subst}
use Rattle.std.specs.Prelude.{◌%◌, slice_index}
use Rattle.tau_core.specs.declared.event.Event.{Event}
use Rattle.tau_core.specs.declared.event.Event.TheVariants as event
use Rattle.tau_core.specs.Steps.{IsThere}
use Rattle.tau_core.specs.Answered.{went_by, placed_by, granted_by, gathered_by, reached_by}
use Rattle.tau_core.proofs.Loads.{step_load}
use Rattle.tau_core.proofs.Whole.{stood_at}
use Rattle.tau_core_runs.proofs.tests.tells.Goals as goal

pub lock-requires : goal.lock-requires
lock-requires c = record { there = subst (IsThere c.args.core.now) c.in-Lock.is (c.is_of.ensures c.args.core.now c.if-not-is_of.false c.requires.workers c.requires.streams) }

pub returns-in-Lock-clause-load : goal.returns-in-Lock-clause-load
returns-in-Lock-clause-load c = step_load c.args.core.now c.lock.new.self (event.Lock c.in-Lock.worker) (granted_by c.lock.ensures.value c.lock.result) c.requires.stood c.lock.ensures.is

pub returns-in-Lock-clause-stood : goal.returns-in-Lock-clause-stood
returns-in-Lock-clause-stood c = stood_at c.args.core.now c.lock.new.self (event.Lock c.in-Lock.worker) (granted_by c.lock.ensures.value c.lock.result) c.requires.stood c.lock.ensures.is

pub quit-requires : goal.quit-requires
quit-requires c = record { there = subst (IsThere c.args.core.now) c.in-Quit.is (c.is_of.ensures c.args.core.now c.if-not-is_of.false c.requires.workers c.requires.streams) }

pub returns-in-Quit-clause-load : goal.returns-in-Quit-clause-load
returns-in-Quit-clause-load c = step_load c.args.core.now c.quit.new.self (event.Quit c.in-Quit.worker) (went_by c.quit.result) c.requires.stood c.quit.ensures

pub returns-in-Quit-clause-stood : goal.returns-in-Quit-clause-stood
returns-in-Quit-clause-stood c = stood_at c.args.core.now c.quit.new.self (event.Quit c.in-Quit.worker) (went_by c.quit.result) c.requires.stood c.quit.ensures

pub commit-requires : goal.commit-requires
commit-requires c = record { there = subst (IsThere c.args.core.now) c.in-Commit.is (c.is_of.ensures c.args.core.now c.if-not-is_of.false c.requires.workers c.requires.streams) }

pub returns-in-Commit-clause-load : goal.returns-in-Commit-clause-load
returns-in-Commit-clause-load c = step_load c.args.core.now c.commit.new.self (event.Commit c.in-Commit.worker) (placed_by (slice_index c.args.core.now.ends (c.in-Commit.worker % c.args.core.now.load.streams)) c.commit.result) c.requires.stood c.commit.ensures

pub returns-in-Commit-clause-stood : goal.returns-in-Commit-clause-stood
returns-in-Commit-clause-stood c = stood_at c.args.core.now c.commit.new.self (event.Commit c.in-Commit.worker) (placed_by (slice_index c.args.core.now.ends (c.in-Commit.worker % c.args.core.now.load.streams)) c.commit.result) c.requires.stood c.commit.ensures

pub post-requires : goal.post-requires
post-requires c = record { there = subst (IsThere c.args.core.now) c.in-Post.is (c.is_of.ensures c.args.core.now c.if-not-is_of.false c.requires.workers c.requires.streams) }

pub returns-in-Post-clause-load : goal.returns-in-Post-clause-load
returns-in-Post-clause-load c = step_load c.args.core.now c.post.new.self (event.Post c.in-Post.worker) (went_by c.post.result) c.requires.stood c.post.ensures

pub returns-in-Post-clause-stood : goal.returns-in-Post-clause-stood
returns-in-Post-clause-stood c = stood_at c.args.core.now c.post.new.self (event.Post c.in-Post.worker) (went_by c.post.result) c.requires.stood c.post.ensures

pub free-requires : goal.free-requires
free-requires c = record { there = subst (IsThere c.args.core.now) c.in-Free.is (c.is_of.ensures c.args.core.now c.if-not-is_of.false c.requires.workers c.requires.streams) }

pub returns-in-Free-clause-load : goal.returns-in-Free-clause-load
returns-in-Free-clause-load c = step_load c.args.core.now c.free.new.self (event.Free c.in-Free.worker) (went_by c.free.result) c.requires.stood c.free.ensures

pub returns-in-Free-clause-stood : goal.returns-in-Free-clause-stood
returns-in-Free-clause-stood c = stood_at c.args.core.now c.free.new.self (event.Free c.in-Free.worker) (went_by c.free.result) c.requires.stood c.free.ensures

pub done-requires : goal.done-requires
done-requires c = record { there = subst (IsThere c.args.core.now) c.in-Done.is (c.is_of.ensures c.args.core.now c.if-not-is_of.false c.requires.workers c.requires.streams) }

pub returns-in-Done-clause-load : goal.returns-in-Done-clause-load
returns-in-Done-clause-load c = step_load c.args.core.now c.done.new.self (event.Done c.in-Done.worker) (went_by c.done.result) c.requires.stood c.done.ensures

pub returns-in-Done-clause-stood : goal.returns-in-Done-clause-stood
returns-in-Done-clause-stood c = stood_at c.args.core.now c.done.new.self (event.Done c.in-Done.worker) (went_by c.done.result) c.requires.stood c.done.ensures

pub gather-requires : goal.gather-requires
gather-requires c = record { there = subst (IsThere c.args.core.now) c.in-Gather.is (c.is_of.ensures c.args.core.now c.if-not-is_of.false c.requires.workers c.requires.streams) }

pub returns-in-Gather-clause-load : goal.returns-in-Gather-clause-load
returns-in-Gather-clause-load c = step_load c.args.core.now c.gather.new.self (event.Gather c.in-Gather.stream) (gathered_by c.gather.result) c.requires.stood c.gather.ensures

pub returns-in-Gather-clause-stood : goal.returns-in-Gather-clause-stood
returns-in-Gather-clause-stood c = stood_at c.args.core.now c.gather.new.self (event.Gather c.in-Gather.stream) (gathered_by c.gather.result) c.requires.stood c.gather.ensures

pub persist-requires : goal.persist-requires
persist-requires c = record { there = subst (IsThere c.args.core.now) c.in-Persist.is (c.is_of.ensures c.args.core.now c.if-not-is_of.false c.requires.workers c.requires.streams) }

pub returns-in-Persist-clause-load : goal.returns-in-Persist-clause-load
returns-in-Persist-clause-load c = step_load c.args.core.now c.persist.new.self (event.Persist c.in-Persist.stream c.in-Persist.upto) (reached_by c.persist.result) c.requires.stood c.persist.ensures

pub returns-in-Persist-clause-stood : goal.returns-in-Persist-clause-stood
returns-in-Persist-clause-stood c = stood_at c.args.core.now c.persist.new.self (event.Persist c.in-Persist.stream c.in-Persist.upto) (reached_by c.persist.result) c.requires.stood c.persist.ensures

pub stop-requires : goal.stop-requires
stop-requires c = record { there = subst (IsThere c.args.core.now) c.in-Stop.is (c.is_of.ensures c.args.core.now c.if-not-is_of.false c.requires.workers c.requires.streams) }

pub returns-in-Stop-clause-load : goal.returns-in-Stop-clause-load
returns-in-Stop-clause-load c = step_load c.args.core.now c.stop.new.self (event.Stop c.in-Stop.stream c.in-Stop.at) (reached_by c.stop.result) c.requires.stood c.stop.ensures

pub returns-in-Stop-clause-stood : goal.returns-in-Stop-clause-stood
returns-in-Stop-clause-stood c = stood_at c.args.core.now c.stop.new.self (event.Stop c.in-Stop.stream c.in-Stop.at) (reached_by c.stop.result) c.requires.stood c.stop.ensures

pub acked-requires-clause-there : goal.acked-requires-clause-there
acked-requires-clause-there c = subst (IsThere c.args.core.now) c.in-Ack.is (c.is_of.ensures c.args.core.now c.if-not-is_of.false c.requires.workers c.requires.streams)
