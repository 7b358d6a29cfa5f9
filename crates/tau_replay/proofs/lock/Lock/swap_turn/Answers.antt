-- The step keeps the rule.
use Rattle.std.proofs.Common.{rules}
use Rattle.tau_replay.proofs.Steps.{takes_swapped}
use Rattle.tau_replay.proofs.lock.Lock.swap_turn.Goals as goal

pub swap-requires : goal.swap-requires
swap-requires c =
    let sized = c.args.self.now.sized in
    (search rules, search rules, takes_swapped _ _ _ c.args.seat.now.me sized.1 c.requires.idle)

pub returns-clause-took : goal.returns-clause-took
returns-clause-took c = λ is. c.swap.ensures.2.0 (search rules)

pub returns-clause-missed : goal.returns-clause-missed
returns-clause-missed c = λ is. c.swap.ensures.2.1 (search rules)
