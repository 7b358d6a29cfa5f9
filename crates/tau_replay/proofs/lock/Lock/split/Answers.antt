-- The step keeps the rule.
use Rattle.std.proofs.Common.{rules}
use Rattle.tau_replay.proofs.Steps.{splits_one}
use Rattle.tau_replay.proofs.lock.Lock.split.Goals as goal

pub split_seat-requires : goal.split_seat-requires
split_seat-requires c = (search rules, search rules, splits_one _ _ _ c.requires.idle.2 c.requires.idle.1)
