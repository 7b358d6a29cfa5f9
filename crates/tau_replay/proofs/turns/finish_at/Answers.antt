-- What a hand has in flight is finished.
use Rattle.std.proofs.Common.{[], ◌∷◌, ◌++◌, refl, sym, subst, ◌∙◌, arith}
use Rattle.std.specs.Prelude.{Some, None}
use Rattle.std.proofs.lemmas.List.{length-set}
use Rattle.tau_model.specs.Store.{database}
use Rattle.tau_scan.specs.Taken.{taken}
use Rattle.tau_pool.specs.declared.item.Job.{Job}
use Rattle.tau_replay.specs.Course.{whole}
use Rattle.tau_replay.specs.Recovering.{Stands}
use Rattle.tau_replay.proofs.Lists.{of_get}
use Rattle.tau_replay.proofs.RecoveryGoesOn.{going_finish}
use Rattle.tau_replay.proofs.Hands.{hands_finish}
use Rattle.tau_replay.proofs.Settled.{settled_finish, flying_covered, working_same}
use Rattle.tau_replay.proofs.turns.finish_at.Goals as goal
use Rattle.tau_base.proofs.Lists.{got_within}

pub apply-requires-clause-held : goal.apply-requires-clause-held
apply-requires-clause-held c =
    let w = c.requires.working in
    let f = w.hands.flying c.args.hand c.args.outcome.now.job c.requires.busy in
    let (r, held, of) = of_get c.args.log.now (taken c.args.log.now) c.args.replay.now.pools.items c.args.outcome.now.job.place f.item w.going.items f.there in
    (r, subst (λ (j : Job). Stands c.args.log.now j.stream j.index r) (sym f.named) of.stands)

pub index_mut-requires : goal.index_mut-requires
index_mut-requires c =
    let lt = got_within c.args.replay.now.hands.items c.args.hand (Some c.args.outcome.now.job) c.requires.busy in
    let v = c.args.replay.now.hands in
    omega (arith, lt, v.ok)

pub returns-clause-working : goal.returns-clause-working
returns-clause-working c =
    let w = c.requires.working in
    let log = c.args.log.now in
    let p = c.args.replay.now.pools in
    let hands = c.args.replay.now.hands.items in
    let job = c.args.outcome.now.job in
    let f = w.hands.flying c.args.hand job c.requires.busy in
    let (r, held, of) = of_get log (taken log) p.items job.place f.item w.going.items f.there in
    let stands : Stands log job.stream job.index r = subst (λ (j : Job). Stands log j.stream j.index r) (sym f.named) of.stands in
    record {
      order = w.order ++ r ∷ [];
      going = going_finish log (whole log) p (database c.args.replay.now.store) w.order job c.finish.new.self r (database c.apply.new.store) w.going f c.finish.ensures.finished c.finish.ensures.recovered held (c.in_ok-apply.ensures.ok r stands);
      hands = hands_finish p hands c.args.hand job c.finish.new.self w.hands c.requires.busy c.finish.ensures.finished;
      many = length-set hands c.args.hand None ∙ w.many;
      turns = (w.turns ++ 0 ∷ []) ++ 0 ∷ [];
      followed = settled_finish log w.turns p c.finish.new.self job r (database c.args.replay.now.store) (database c.apply.new.store) w.followed f (flying_covered log p (database c.args.replay.now.store) w.order job w.going f)
          stands c.finish.ensures.finished c.finish.ensures.recovered (c.in_ok-apply.ensures.ok r stands);
    }

pub returns-in_err-apply-clause-working : goal.returns-in_err-apply-clause-working
returns-in_err-apply-clause-working c = working_same c.args.log.now c.args.replay.now _ c.requires.working refl refl c.in_err-apply.ensures.err
