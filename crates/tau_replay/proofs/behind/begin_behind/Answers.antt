-- Nothing is started.
use Rattle.tau_model.specs.Store.{database}
use Rattle.tau_model.specs.Tables.{db_of_rows}
use Rattle.tau_replay.specs.Course.{after}
use Rattle.tau_replay.proofs.Begins.{after_unstarted, begins_ok}
use Rattle.tau_replay.proofs.behind.begin_behind.Goals as goal

pub returns-clause-going : goal.returns-clause-going
returns-clause-going c =
    let log = c.args.log.now in
    let base = db_of_rows c.args.rows.now in
    let p = c.in_ok-pools.ensures in
    let w = c.workers_of.ensures in
    (begins_ok log (after log c.args.from.now base) (after_unstarted log c.requires c.args.from.now base) c.in_ok-pools.pools p.items p.ends p.recovered c.workers_of.result (database c.in_ok-store.store) c.in_ok-store.ensures w.pools w.idle w.store).0

pub returns-clause-followed : goal.returns-clause-followed
returns-clause-followed c =
    let log = c.args.log.now in
    let base = db_of_rows c.args.rows.now in
    let p = c.in_ok-pools.ensures in
    let w = c.workers_of.ensures in
    (begins_ok log (after log c.args.from.now base) (after_unstarted log c.requires c.args.from.now base) c.in_ok-pools.pools p.items p.ends p.recovered c.workers_of.result (database c.in_ok-store.store) c.in_ok-store.ensures w.pools w.idle w.store).1
