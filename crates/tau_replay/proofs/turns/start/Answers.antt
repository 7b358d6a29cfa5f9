-- A record is started by an idle worker.
use Rattle.std.proofs.Common.{[], ◌∷◌, ◌++◌, sym, subst, ◌∙◌}
use Rattle.std.specs.Prelude.{Some}
use Rattle.std.proofs.lemmas.List.{length-set}
use Rattle.tau_model.specs.Store.{database}
use Rattle.tau_pool.specs.Pooled.{Pooled}
use Rattle.tau_replay.specs.Followed.{HasFollowedOn}
use Rattle.tau_replay.proofs.Following.{follow_start, follow_idle, none_ready}
use Rattle.tau_replay.proofs.RecoveryGoesOn.{going_start}
use Rattle.tau_replay.proofs.Hands.{hands_start, less_start}
use Rattle.tau_replay.proofs.turns.start.Goals as goal

pub returns-in-Taken-clause-going : goal.returns-in-Taken-clause-going
returns-in-Taken-clause-going g c =
    let w = c.requires.0 in
    let s = c.take-next.ensures.taken c.in-Taken.job c.in-Taken.is in
    record {
      order = w.order;
      going = going_start c.args.log.now g.course c.args.replay.now.pools (database c.args.replay.now.store) w.order c.in-Taken.job c.take-next.new.self w.going s c.take-next.ensures.recovered;
      hands = hands_start c.args.replay.now.pools c.args.replay.now.hands.items c.args.worker c.in-Taken.job c.take-next.new.self w.hands c.requires.1 s;
      sixteen = length-set c.args.replay.now.hands.items c.args.worker (Some c.in-Taken.job) ∙ w.sixteen;
    }

pub returns-in-Taken-clause-taken : goal.returns-in-Taken-clause-taken
returns-in-Taken-clause-taken g c job e = (less_start c.args.replay.now.pools c.in-Taken.job c.take-next.new.self (c.take-next.ensures.taken c.in-Taken.job c.in-Taken.is)).0

pub returns-in-Taken-clause-followed : goal.returns-in-Taken-clause-followed
returns-in-Taken-clause-followed g c turns f =
    follow_start c.args.log.now g.course turns c.args.worker c.args.replay.now.pools c.take-next.new.self c.args.replay.now.hands.items c.in-Taken.job (database c.args.replay.now.store) f c.requires.1
    (c.take-next.ensures.taken c.in-Taken.job c.in-Taken.is)

pub returns-in-NotYet-clause-followed : goal.returns-in-NotYet-clause-followed
returns-in-NotYet-clause-followed g c turns f =
    let none = c.take-next.ensures.not_yet c.in-NotYet.is in
    subst (λ (p : Pooled). HasFollowedOn c.args.log.now g.course (turns ++ c.args.worker ∷ []) p c.args.replay.now.hands.items (database c.args.replay.now.store)) (sym none.0)
    (follow_idle c.args.log.now g.course turns c.args.worker c.args.replay.now.pools c.args.replay.now.hands.items (database c.args.replay.now.store) f c.requires.1 none.1.none_ready)

pub returns-in-Done-clause-followed : goal.returns-in-Done-clause-followed
returns-in-Done-clause-followed g c turns f =
    let none = c.take-next.ensures.done c.in-Done.is in
    subst (λ (p : Pooled). HasFollowedOn c.args.log.now g.course (turns ++ c.args.worker ∷ []) p c.args.replay.now.hands.items (database c.args.replay.now.store)) (sym none.0)
    (follow_idle c.args.log.now g.course turns c.args.worker c.args.replay.now.pools c.args.replay.now.hands.items (database c.args.replay.now.store) f c.requires.1 (none_ready c.args.replay.now.pools none.1))

pub returns-in-Done-clause-ended : goal.returns-in-Done-clause-ended
returns-in-Done-clause-ended g c turns f e =
    let none = c.take-next.ensures.done c.in-Done.is in
    subst (λ (p : Pooled). HasFollowedOn c.args.log.now g.course turns p c.args.replay.now.hands.items (database c.args.replay.now.store)) (sym none.0) f
