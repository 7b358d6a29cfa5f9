use Rattle.tau_desk_runs.proofs.seats.closes.Goals as goal

pub close-requires-clause-rests : goal.close-requires-clause-rests
close-requires-clause-rests c = c.is_idle.ensures.rests c.if-not-is_idle.false
