use Rattle.tau_crew.proofs.EndTold.{ends_short}
use Rattle.tau_crew.proofs.ending.end_short.Goals as goal

pub close_run-core-requires : goal.close_run-core-requires
close_run-core-requires g c = let (bases, ws, m) = c.requires.managers in record { back = (bases, ws, c.args.jobs.items, c.args.clerk, c.gather_back-told.ensures.writers, c.gather_back-told.ensures.back bases ws m) }

pub returns-clause-short : goal.returns-clause-short
returns-clause-short g c = λ bases ws held faults short b.
    ends_short _ bases ws c.gather_back-told.new.writers.items c.args.clerk c.close_run-core.result _ held _ _ b.managers.long
    (c.close_run-core.ensures bases ws c.args.jobs.items c.args.clerk c.gather_back-told.ensures.writers (c.gather_back-told.ensures.back bases ws b.managers)).run
    b.clerk.clerk.written b.heard b.sink
