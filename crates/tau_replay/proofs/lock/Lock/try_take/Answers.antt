-- The step keeps the rule.
use Rattle.std.proofs.Common.{rules}
use Rattle.tau_replay.proofs.Steps.{takes_free}
use Rattle.tau_replay.proofs.lock.Lock.try_take.Goals as goal

pub compare_exchange-requires : goal.compare_exchange-requires
compare_exchange-requires c =
    let sized = c.args.self.now.sized in
    (search rules, search rules, takes_free _ _ _ c.args.seat.now.me sized.1 c.requires.idle)

pub returns-clause-took : goal.returns-clause-took
returns-clause-took c = λ is. c.compare_exchange.ensures.2.0 (search rules)

pub returns-clause-missed : goal.returns-clause-missed
returns-clause-missed c = λ is. c.compare_exchange.ensures.2.1 (search rules)
