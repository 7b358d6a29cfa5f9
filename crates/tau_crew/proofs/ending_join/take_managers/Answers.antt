use Rattle.std.proofs.Common.{rules, ◌≡◌, ◌∙◌, ◌∷◌, []}
use Rattle.tau_crew.proofs.EndJoins.{keeps_head, last_is, last_seat, managers_all, managers_step, writers_step}
use Rattle.tau_crew.proofs.ending_join.take_managers.Goals as goal

pub join_manager-writer-requires-clause-own : goal.join_manager-writer-requires-clause-own
join_manager-writer-requires-clause-own g c =
    let (done, all, had) = c.loop-job.invariant.1 in
    (c.loop-job.invariant.0.table ∙ c.requires.own, (last_seat _ _ c.args.jobs.items c.loop-job.jobs.items c.pop.new.self.items done c.in-Some.job c.requires.seats all c.in-Some.ensures.items).own)

pub join_manager-writer-requires-clause-opened : goal.join_manager-writer-requires-clause-opened
join_manager-writer-requires-clause-opened g c =
    let (done, all, had) = c.loop-job.invariant.1 in
    (c.loop-job.invariant.0.opened ∙ c.requires.opened, (last_seat _ _ c.args.jobs.items c.loop-job.jobs.items c.pop.new.self.items done c.in-Some.job c.requires.seats all c.in-Some.ensures.items).opened)

pub loop-job-preserved : goal.loop-job-preserved
loop-job-preserved g c =
    let (done, all, had) = c.loop-job.invariant.1 in (
      keeps_head _ _ _ _ c.loop-job.invariant.0 c.join_manager-writer.ensures.takes.keeps,
      (
        c.in-Some.job ∷ done,
        last_is c.args.jobs.items c.loop-job.jobs.items c.pop.new.self.items done c.in-Some.job all c.in-Some.ensures.items,
        managers_step _ _ c.args.jobs.items c.loop-job.jobs.items c.pop.new.self.items done c.in-Some.job c.loop-job.head c.join_manager-writer.new.head c.requires.seats all c.in-Some.ensures.items had c.join_manager-writer.ensures.takes,
      ),
      writers_step c.loop-job.jobs.items c.pop.new.self.items c.in-Some.job c.loop-job.writers.items c.push_reserved.new.self.items c.join_manager-writer.result c.in-Some.ensures.items c.push_reserved.ensures.items c.join_manager-writer.ensures.writer ∙ c.loop-job.invariant.2,
      search rules,
      search rules,
    )

pub returns-clause-has : goal.returns-clause-has
returns-clause-has g c =
    let (done, all, had) = c.loop-job.invariant.1 in
    let none : c.loop-job.jobs.items ≡ [] = search rules in
    managers_all _ c.loop-job.head c.args.jobs.items c.loop-job.jobs.items done all none had
