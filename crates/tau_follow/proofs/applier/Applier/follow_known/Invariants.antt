-- Records are applied, and fewer are open.
use Rattle.tau_follow_laws.specs.Following.{Followed}
use Rattle.tau_follow.specs.Applying.{open_all}
use Rattle.tau_follow.specs.Holding.{HasApplied, IsKnown}
use Rattle.tau_follow.specs.Reading.{BeginsWith}
use Rattle.tau_follow.proofs.applier.Applier.follow_known.Given as goal

abbrev pub invariant-steps : goal.invariant-steps
invariant-steps l = ((s : Followed) → HasApplied l.streams s l.initial.self → IsKnown l.streams l.initial.self l.initial.reached.items → HasApplied l.streams s l.self × IsKnown l.streams l.self l.reached.items) × BeginsWith l.initial.self.order.items l.self.order.items

abbrev pub decreases-steps : goal.decreases-steps
decreases-steps l = open_all l.self.stages.items
