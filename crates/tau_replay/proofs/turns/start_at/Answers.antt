-- The record at a place is started by an idle hand.
use Rattle.std.proofs.Common.{refl, sym, subst, ◌∙◌, replicate}
use Rattle.std.specs.Prelude.{Some, None}
use Rattle.std.proofs.lemmas.List.{length-set}
use Rattle.tau_model.specs.Store.{database}
use Rattle.tau_pool.specs.Pooled.{Pooled}
use Rattle.tau_replay.specs.Course.{whole}
use Rattle.tau_replay.specs.Followed.{HasFollowed}
use Rattle.tau_replay.proofs.RecoveryGoesOn.{going_start}
use Rattle.tau_replay.proofs.Hands.{hands_start}
use Rattle.tau_replay.proofs.Settled.{settled_start, working_same}
use Rattle.tau_replay.proofs.turns.start_at.Goals as goal

pub returns-in-Some-clause-working : goal.returns-in-Some-clause-working
returns-in-Some-clause-working c =
    let w = c.requires.working in
    let s = c.in-Some.ensures.taken in
    record {
      order = w.order;
      going = going_start c.args.log.now (whole c.args.log.now) c.args.replay.now.pools (database c.args.replay.now.store) w.order c.in-Some.job c.take_at.new.self w.going s c.take_at.ensures.recovered;
      hands = hands_start c.args.replay.now.pools c.args.replay.now.hands.items c.args.hand c.in-Some.job c.take_at.new.self w.hands c.requires.idle s;
      many = length-set c.args.replay.now.hands.items c.args.hand (Some c.in-Some.job) ∙ w.many;
      turns = w.turns;
      followed = subst (λ (p : Pooled). HasFollowed c.args.log.now w.turns p (replicate 16 None) (database c.args.replay.now.store)) (sym (settled_start c.args.replay.now.pools c.in-Some.job c.take_at.new.self s)) w.followed;
    }

pub returns-in-None-clause-working : goal.returns-in-None-clause-working
returns-in-None-clause-working c = working_same c.args.log.now c.args.replay.now _ c.requires.working (c.in-None.ensures.none refl) refl refl
