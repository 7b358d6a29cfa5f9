use Rattle.tau_crew.specs.Gathering.{GathersMore}
use Rattle.tau_crew.proofs.gather.gather_rounds.Given as goal

abbrev pub invariant-loop-round : goal.invariant-loop-round
invariant-loop-round g l = GathersMore l.initial.seat l.seat l.initial.body.items l.body.items
