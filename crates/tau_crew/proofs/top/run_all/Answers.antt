use Rattle.std.proofs.Common.{rules, ℕ, ◌<◌, ◌≡◌, List, length, ap, subst, sym, ◌∙◌, arith}
use Rattle.std.specs.Prelude.{slice_index_or}
use Rattle.tau_core.specs.declared.state.Load.{Load}
use Rattle.tau_crew.specs.declared.manager.ManagerJob.{ManagerJob}
use Rattle.tau_crew.specs.Dealing.{AreDealt, IsDealing}
use Rattle.tau_crew.specs.Together.{IsManagerReady}
use Rattle.tau_disk.specs.Disk.{Rose}
use Rattle.tau_crew.specs.Ending.{IsBack}
use Rattle.tau_crew.proofs.Dealing.{dealing_begins}
use Rattle.tau_crew.proofs.Tops.{all_start, head_ready, lent_back, managers_ready}
use Rattle.tau_crew.proofs.top.run_all.Goals as goal

pub deal_managers-requires-clause-dealing : goal.deal_managers-requires-clause-dealing
deal_managers-requires-clause-dealing g c = dealing_begins c.args.desk.now.table.shared.key.value c.args.desk.now.table.shared.table_id c.args.head c.requires.first c.requires.whole c.agrees.ensures c.requires.own

pub run_phase-head-requires-clause-ready : goal.run_phase-head-requires-clause-ready
run_phase-head-requires-clause-ready g c κs within =
    let first = c.args.desk.now.table.shared.key.value in
    let streams : c.args.desk.now.streams ≡ first.load.streams = c.args.desk.now.streams_are.0 in
    let lent : c.deref_mut.result.now ≡ c.deal_managers.new.jobs.items = c.deref_mut.ensures.value in
    head_ready c.args.desk.now c.args.head c.deal_managers.new.head c.clerk_job-clerk.new.head c.clerk_job-clerk.result.seat c.requires.opened c.requires.first c.requires.whole c.agrees.ensures c.requires.unbegun (subst (λ (n : ℕ). IsDealing first c.args.desk.now.table.shared.table_id n c.deal_managers.new.head) streams c.deal_managers.ensures.dealing) c.deal_managers.ensures.workers c.clerk_job-clerk.ensures.split

pub run_phase-head-requires-clause-managers : goal.run_phase-head-requires-clause-managers
run_phase-head-requires-clause-managers g c κs within =
    let first = c.args.desk.now.table.shared.key.value in
    let streams : c.args.desk.now.streams ≡ first.load.streams = c.args.desk.now.streams_are.0 in
    let lent : c.deref_mut.result.now ≡ c.deal_managers.new.jobs.items = c.deref_mut.ensures.value in
    let (bases, begun) = c.requires.begun in
    let anchors : length c.args.desk.now.load.opening.anchors.items ≡ c.args.desk.now.streams = ap (λ (l : Load). length l.opening.anchors.items) c.args.desk.now.same_load ∙ c.requires.opened.stands.sound.opened ∙ sym streams in
    subst (λ (xs : List (ManagerJob g.row.D.Denot g.D.Disk)). (k : ℕ) (d : ManagerJob g.row.D.Denot g.D.Disk) → k < length xs → IsManagerReady c.args.desk.now (slice_index_or xs k d)) (sym lent)
    (managers_ready c.args.desk.now bases c.args.writers.now.items c.deal_managers.new.jobs.items c.args.desk.now.streams (begun.count ∙ ap (length {A = ℕ}) (sym c.requires.opened.opening.ends) ∙ c.requires.opened.stands.sound.ends ∙ sym streams) (sym streams) anchors (c.deal_managers.ensures.dealt bases begun))

pub run_phase-head-requires-clause-some : goal.run_phase-head-requires-clause-some
run_phase-head-requires-clause-some g c κs within =
    let first = c.args.desk.now.table.shared.key.value in
    let streams : c.args.desk.now.streams ≡ first.load.streams = c.args.desk.now.streams_are.0 in
    let lent : c.deref_mut.result.now ≡ c.deal_managers.new.jobs.items = c.deref_mut.ensures.value in
    let (bases, begun) = c.requires.begun in
    let count = (c.deal_managers.ensures.dealt bases begun).count in
    let long = ap (length {A = ManagerJob g.row.D.Denot g.D.Disk}) lent in
    let low = c.requires.opened.stands.sound.streams_low in
    omega (arith, count, long, low, streams)

pub returns-clause-back : goal.returns-clause-back
returns-clause-back g c = λ bases begun.
    let first = c.args.desk.now.table.shared.key.value in
    let table = c.args.desk.now.table.shared.table_id in
    let ws = c.args.writers.now.items in
    let held = g.K.Sink.held c.args.sink.now in
    let rose = Rose (g.K.Sink.faults c.args.sink.now) (g.K.Sink.faults c.run_phase-head.new.sink) in
    let new = c.run_phase-head.new.managers in
    let streams : c.args.desk.now.streams ≡ first.load.streams = c.args.desk.now.streams_are.0 in
    let lent : c.deref_mut.result.now ≡ c.deal_managers.new.jobs.items = c.deref_mut.ensures.value in
    let dealt : AreDealt first table bases ws first.load.streams c.deref_mut.result.now =
    subst (λ (z : ℕ × List (ManagerJob g.row.D.Denot g.D.Disk)). AreDealt first table bases ws z.0 z.1) (λ i. (streams i, sym lent i)) (c.deal_managers.ensures.dealt bases begun) in
    let start = all_start c.args.desk.now c.args.head c.deal_managers.new.head c.clerk_job-clerk.new.head c.clerk_job-clerk.result.seat c.requires.opened c.requires.first c.requires.unbegun c.deal_managers.ensures.workers c.clerk_job-clerk.ensures.split in
    let back = c.run_phase-head.ensures.back bases ws held begun dealt start c.clerk_job-clerk.ensures.tells (λ t. c.clerk_job-clerk.ensures.heard held) c.clerk_job-clerk.ensures.works.0 in
    subst (λ (js : List (ManagerJob g.row.D.Denot g.D.Disk)). IsBack first table bases ws g.K.Sink.tells held (g.K.Sink.held c.run_phase-head.new.sink) rose c.run_phase-head.result.0 js c.run_phase-head.new.clerk c.run_phase-head.result.1)
    (sym (lent_back c.deal_managers.new.jobs.len new c.deal_managers.new.jobs.items (search rules) (search rules))) back
