-- One is looked at.
use Rattle.std.proofs.Common.{subst, List}
use Rattle.tau_follow.specs.declared.spot.Spot.{Spot}
use Rattle.tau_follow.specs.Waits.{AreFound}
use Rattle.tau_follow.proofs.waits.Waits.find.Goals as goal

pub looks-preserved : goal.looks-preserved
looks-preserved c = record {
  found = λ h. c.in-Ok.ensures.found c.pop.new.self.items (subst (λ (l : List Spot). AreFound c.args.streams.now c.args.stages.now l c.looks.self.queues.items) c.in-Some.ensures.items (c.looks.invariant.found h)) c.if-ready.false;
  above = λ h. c.in-Ok.ensures.above (c.looks.invariant.above h);
  lost = c.looks.invariant.lost;
}
