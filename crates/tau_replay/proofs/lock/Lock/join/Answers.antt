-- The step keeps the rule.
use Rattle.std.proofs.Common.{rules}
use Rattle.tau_replay.proofs.Steps.{joins_one}
use Rattle.tau_replay.proofs.lock.Lock.join.Goals as goal

pub join_seat-requires : goal.join_seat-requires
join_seat-requires c = (search rules, search rules, search rules, search rules, joins_one _ _ _ _ _ c.requires.idle.0.2 c.requires.idle.0.1 c.requires.idle.1.1)
