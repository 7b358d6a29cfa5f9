use Rattle.tau_epoch.proofs.Meets.{meet_left, meet_right, meet_greatest}
use Rattle.tau_epoch.proofs.laws.meet_is_greatest_lower_bound.Goals as goal

pub returns-clause-left : goal.returns-clause-left
returns-clause-left c = meet_left

pub returns-clause-right : goal.returns-clause-right
returns-clause-right c = meet_right

pub returns-clause-greatest : goal.returns-clause-greatest
returns-clause-greatest c = meet_greatest
