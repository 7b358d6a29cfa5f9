use Rattle.std.proofs.Common.{sym, ◌∙◌}
use Rattle.tau_machine.specs.State.{hand_of}
use Rattle.tau_core.specs.View.{core_of}
use Rattle.tau_step.proofs.Deciding.{rests_empty, never_short, never_stopped}
use Rattle.tau_step.proofs.Working.{lock_turn, quit_turn, commit_turn, post_turn, free_turn, done_turn}
use Rattle.tau_step.proofs.Settling.{locked_settles, commit_settles, post_settles, free_settles, done_settles}
use Rattle.tau_step.proofs.worker.worker_turn.Goals as goal

pub begin_turn-requires-clause-rests : goal.begin_turn-requires-clause-rests
begin_turn-requires-clause-rests c = λ K h g. rests_empty c.args.core.now.load.procs (hand_of (core_of c.args.core.now h) c.args.worker) (sym (c.next_of.ensures K h g) ∙ c.in-Resting.is)

pub returns-in-Locking-clause-turned : goal.returns-in-Locking-clause-turned
returns-in-Locking-clause-turned c = λ K h es told g. lock_turn c.args.core.now c.lock.new.core K h es told c.args.worker c.lock.result c.lock.ensures.acts.outcome c.lock.ensures.acts.tells (c.lock.ensures.acts.steps K h g) (sym (c.next_of.ensures K h g) ∙ c.in-Locking.is) c.requires.there

pub returns-in-Quitting-clause-turned : goal.returns-in-Quitting-clause-turned
returns-in-Quitting-clause-turned c = λ K h es told g. quit_turn c.args.core.now c.quit.new.core K h es told c.args.worker c.quit.result c.quit.ensures.acts.outcome c.quit.ensures.acts.tells (c.quit.ensures.acts.steps K h g) (sym (c.next_of.ensures K h g) ∙ c.in-Quitting.is) c.requires.there

pub returns-in-Ready-clause-turned : goal.returns-in-Ready-clause-turned
returns-in-Ready-clause-turned c = λ K h es told g. commit_turn c.args.core.now c.commit.new.core K h es told c.args.worker c.commit.result c.commit.ensures.acts.outcome c.commit.ensures.acts.tells (c.commit.ensures.acts.steps K h g) (sym (c.next_of.ensures K h g) ∙ c.in-Ready.is) c.requires.there

pub returns-in-Placed-clause-turned : goal.returns-in-Placed-clause-turned
returns-in-Placed-clause-turned c = λ K h es told g. post_turn c.args.core.now c.post.new.core K h es told c.args.worker c.post.result c.post.ensures.acts.outcome c.post.ensures.acts.tells (c.post.ensures.acts.steps K h g) (sym (c.next_of.ensures K h g) ∙ c.in-Placed.is) c.requires.there

pub returns-in-Freeing-clause-turned : goal.returns-in-Freeing-clause-turned
returns-in-Freeing-clause-turned c = λ K h es told g. free_turn c.args.core.now c.free.new.core K h es told c.args.worker c.free.result c.free.ensures.acts.outcome c.free.ensures.acts.tells (c.free.ensures.acts.steps K h g) (sym (c.next_of.ensures K h g) ∙ c.in-Freeing.is) c.requires.there

pub returns-in-Ended-clause-turned : goal.returns-in-Ended-clause-turned
returns-in-Ended-clause-turned c = λ K h es told g. done_turn c.args.core.now c.done.new.core K h es told c.args.worker c.done.result c.done.ensures.acts.outcome c.done.ensures.acts.tells (c.done.ensures.acts.steps K h g) (sym (c.next_of.ensures K h g) ∙ c.in-Ended.is) c.requires.there

pub returns-in-Short-clause-turned : goal.returns-in-Short-clause-turned
returns-in-Short-clause-turned c = λ K h es told g. absurd (never_short c.args.core.now.load.procs (hand_of (core_of c.args.core.now h) c.args.worker) c.in-Short.gathered (sym (c.next_of.ensures K h g) ∙ c.in-Short.is))

pub returns-in-Stopped-clause-turned : goal.returns-in-Stopped-clause-turned
returns-in-Stopped-clause-turned c = λ K h es told g. absurd (never_stopped c.args.core.now.load.procs (hand_of (core_of c.args.core.now h) c.args.worker) c.in-Stopped.at (sym (c.next_of.ensures K h g) ∙ c.in-Stopped.is))

pub returns-in-Locking-clause-alone : goal.returns-in-Locking-clause-alone
returns-in-Locking-clause-alone c = λ alone settling.
    let (K, h, g) = c.requires.stood in
    locked_settles c.args.core.now c.lock.new.core K h g c.args.worker settling alone c.lock.ensures.acts.outcome (c.lock.ensures.acts.steps K h g)

pub returns-in-Ready-clause-alone : goal.returns-in-Ready-clause-alone
returns-in-Ready-clause-alone c = λ alone settling.
    let (K, h, g) = c.requires.stood in
    commit_settles c.args.core.now c.commit.new.core K h g c.args.worker settling c.commit.ensures.acts.outcome (c.commit.ensures.acts.steps K h g)

pub returns-in-Placed-clause-alone : goal.returns-in-Placed-clause-alone
returns-in-Placed-clause-alone c = λ alone settling.
    let (K, h, g) = c.requires.stood in
    post_settles c.args.core.now c.post.new.core K h g c.args.worker settling c.post.ensures.acts.outcome (c.post.ensures.acts.steps K h g)

pub returns-in-Freeing-clause-alone : goal.returns-in-Freeing-clause-alone
returns-in-Freeing-clause-alone c = λ alone settling.
    let (K, h, g) = c.requires.stood in
    free_settles c.args.core.now c.free.new.core K h g c.args.worker settling c.free.ensures.acts.outcome (c.free.ensures.acts.steps K h g)

pub returns-in-Ended-clause-alone : goal.returns-in-Ended-clause-alone
returns-in-Ended-clause-alone c = λ alone settling.
    let (K, h, g) = c.requires.stood in
    done_settles c.args.core.now c.done.new.core K h g c.args.worker settling c.done.ensures.acts.outcome (c.done.ensures.acts.steps K h g)

pub returns-in-Quitting-clause-alone : goal.returns-in-Quitting-clause-alone
returns-in-Quitting-clause-alone c = λ alone settling.
    let (K, h, g) = c.requires.stood in
    absurd (settling (sym (c.next_of.ensures K h g) ∙ c.in-Quitting.is))

pub returns-in-Short-clause-alone : goal.returns-in-Short-clause-alone
returns-in-Short-clause-alone c = λ alone settling.
    let (K, h, g) = c.requires.stood in
    absurd (never_short c.args.core.now.load.procs (hand_of (core_of c.args.core.now h) c.args.worker) c.in-Short.gathered (sym (c.next_of.ensures K h g) ∙ c.in-Short.is))

pub returns-in-Stopped-clause-alone : goal.returns-in-Stopped-clause-alone
returns-in-Stopped-clause-alone c = λ alone settling.
    let (K, h, g) = c.requires.stood in
    absurd (never_stopped c.args.core.now.load.procs (hand_of (core_of c.args.core.now h) c.args.worker) c.in-Stopped.at (sym (c.next_of.ensures K h g) ∙ c.in-Stopped.is))
