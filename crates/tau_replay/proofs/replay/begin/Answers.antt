-- Nothing is started.
use Rattle.tau_model.specs.Store.{database}
use Rattle.tau_replay.specs.Course.{whole}
use Rattle.tau_replay.proofs.Begins.{whole_unstarted, begins_ok}
use Rattle.tau_replay.proofs.replay.begin.Goals as goal

pub returns-clause-going : goal.returns-clause-going
returns-clause-going c =
    let p = c.in_ok-pools.ensures in
    let w = c.workers_of.ensures in
    (begins_ok c.args.log.now (whole c.args.log.now) (whole_unstarted c.args.log.now c.requires) c.in_ok-pools.pools p.items p.ends p.recovered c.workers_of.result (database c.new-2.result) c.new-2.ensures w.pools w.idle w.store).0

pub returns-clause-followed : goal.returns-clause-followed
returns-clause-followed c =
    let p = c.in_ok-pools.ensures in
    let w = c.workers_of.ensures in
    (begins_ok c.args.log.now (whole c.args.log.now) (whole_unstarted c.args.log.now c.requires) c.in_ok-pools.pools p.items p.ends p.recovered c.workers_of.result (database c.new-2.result) c.new-2.ensures w.pools w.idle w.store).1
