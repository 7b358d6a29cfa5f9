-- What a worker has in flight is finished.
use Rattle.std.proofs.Common.{[], ◌∷◌, ◌++◌, sym, subst, ◌∙◌, arith}
use Rattle.std.specs.Prelude.{Some, None}
use Rattle.std.proofs.lemmas.List.{length-set}
use Rattle.tau_model.specs.Store.{database}
use Rattle.tau_pool.specs.declared.item.Job.{Job}
use Rattle.tau_replay.specs.Recovering.{Stands}
use Rattle.tau_replay.proofs.Lists.{of_get}
use Rattle.tau_replay.proofs.RecoveryGoesOn.{going_finish}
use Rattle.tau_replay.proofs.Hands.{hands_finish, less_finish}
use Rattle.tau_replay.proofs.Following.{follow_finish}
use Rattle.tau_replay.proofs.turns.finish.Goals as goal
use Rattle.tau_base.proofs.Lists.{got_within}

pub redo-requires : goal.redo-requires
redo-requires g c =
    let w = c.requires.0 in
    let f = w.hands.flying c.args.worker c.args.job c.requires.1 in
    let (r, held, of) = of_get c.args.log.now g.course.records c.args.replay.now.pools.items c.args.job.place f.item w.going.items f.there in
    (r, subst (λ (j : Job). Stands c.args.log.now j.stream j.index r) (sym f.named) of.stands)

pub index_mut-requires : goal.index_mut-requires
index_mut-requires g c =
    let lt = got_within c.args.replay.now.hands.items c.args.worker (Some c.args.job) c.requires.1 in
    let v = c.args.replay.now.hands in
    omega (arith, lt, v.ok)

pub returns-clause-going : goal.returns-clause-going
returns-clause-going g c =
    let w = c.requires.0 in
    let f = w.hands.flying c.args.worker c.args.job c.requires.1 in
    let (r, held, of) = of_get c.args.log.now g.course.records c.args.replay.now.pools.items c.args.job.place f.item w.going.items f.there in
    let stands : Stands c.args.log.now c.args.job.stream c.args.job.index r = subst (λ (j : Job). Stands c.args.log.now j.stream j.index r) (sym f.named) of.stands in
    record {
      order = w.order ++ r ∷ [];
      going = going_finish c.args.log.now g.course c.args.replay.now.pools (database c.args.replay.now.store) w.order c.args.job c.finish.new.self r (database c.redo.new.store) w.going f c.finish.ensures.finished c.finish.ensures.recovered held (c.in_ok-redo.ensures.ok r stands);
      hands = hands_finish c.args.replay.now.pools c.args.replay.now.hands.items c.args.worker c.args.job c.finish.new.self w.hands c.requires.1 c.finish.ensures.finished;
      sixteen = length-set c.args.replay.now.hands.items c.args.worker None ∙ w.sixteen;
    }

pub returns-clause-less : goal.returns-clause-less
returns-clause-less g c =
    let f = c.requires.0.hands.flying c.args.worker c.args.job c.requires.1 in
    (less_finish c.args.replay.now.pools c.args.job c.finish.new.self f c.finish.ensures.finished).0

pub returns-clause-followed : goal.returns-clause-followed
returns-clause-followed g c turns followed =
    let w = c.requires.0 in
    let f = w.hands.flying c.args.worker c.args.job c.requires.1 in
    let (r, held, of) = of_get c.args.log.now g.course.records c.args.replay.now.pools.items c.args.job.place f.item w.going.items f.there in
    let stands : Stands c.args.log.now c.args.job.stream c.args.job.index r = subst (λ (j : Job). Stands c.args.log.now j.stream j.index r) (sym f.named) of.stands in
    follow_finish c.args.log.now g.course turns c.args.worker c.args.replay.now.pools c.finish.new.self c.args.replay.now.hands.items c.args.job r (database c.args.replay.now.store) (database c.redo.new.store) followed c.requires.1 stands
    c.finish.ensures.finished c.finish.ensures.recovered (c.in_ok-redo.ensures.ok r stands)
