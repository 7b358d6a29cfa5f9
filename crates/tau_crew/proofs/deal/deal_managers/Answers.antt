use Rattle.std.proofs.Common.{ℕ, ◌<◌, ◌≡◌, ◌∙◌, ap, drop, subst, arith}
use Rattle.tau_crew.specs.Dealing.{AreDealt}
use Rattle.tau_crew.proofs.Dealing.{deals_more, drop_more, one_longer}
use Rattle.tau_crew.proofs.WorkStays.{workers_then}
use Rattle.tau_crew.proofs.deal.deal_managers.Goals as goal

pub loop-stream-preserved : goal.loop-stream-preserved
loop-stream-preserved g c =
    let key = c.args.desk.now.table.shared.key.value in
    let i = c.loop-stream.invariant in
    let one = c.deal_manager.ensures.dealt in
    let streams = c.args.desk.now.streams_are.0 in
    let there : c.loop-stream.stream < key.load.streams = (let lt = c.loop-stream-test.true in omega (arith, streams, lt)) in (
      c.deal_manager.ensures.dealing,
      one.rest ∙ ap (drop 1) i.1 ∙ drop_more c.args.writers.now.items c.loop-stream.stream,
      one_longer c.loop-stream.jobs.items c.deal_manager.new.jobs.items one.job c.loop-stream.stream one.jobs_are i.2,
      c.deal_manager.ensures.room ∙ i.3,
      λ bases b.
          deals_more key c.args.desk.now.table.shared.table_id bases c.args.writers.now.items c.loop-stream.writers.items c.deal_manager.new.writers.items c.loop-stream.stream c.loop-stream.jobs.items c.deal_manager.new.jobs.items b (c.requires.writers ∙ streams) there i.1 (i.4 bases b) one,
      workers_then key.load c.args.head.now c.loop-stream.head c.deal_manager.new.head i.5 c.deal_manager.ensures.workers,
      c.deal_manager.ensures.kept ∙ i.6,
    )

pub returns-clause-dealt : goal.returns-clause-dealt
returns-clause-dealt g c = λ bases b.
    let end : c.loop-stream.stream ≡ c.args.desk.now.streams = (let le = c.loop-stream.auto.stream-end in let not_less = c.loop-stream-test.false in omega (arith, le, not_less)) in
    subst (λ (k : ℕ). AreDealt c.args.desk.now.table.shared.key.value c.args.desk.now.table.shared.table_id bases c.args.writers.now.items k c.loop-stream.jobs.items) end (c.loop-stream.invariant.4 bases b)
