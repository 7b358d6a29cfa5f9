use Rattle.tau_crew.specs.Gathering.{GathersMore}
use Rattle.tau_crew.proofs.gather.gather_workers.Given as goal

abbrev pub invariant-loop-worker : goal.invariant-loop-worker
invariant-loop-worker g l = GathersMore l.initial.seat l.seat l.initial.body.items l.body.items
