use Rattle.tau_crew.proofs.flush.hand_over.Goals as goal

pub returns-clause-ready : goal.returns-clause-ready
returns-clause-ready g c = λ format n j content r. c.prepare.ensures.ready format n j content (c.add.ensures.ready format n j content r)

pub returns-in_err-prepare-clause-ready : goal.returns-in_err-prepare-clause-ready
returns-in_err-prepare-clause-ready g c = λ format n j content r. c.prepare.ensures.ready format n j content (c.add.ensures.ready format n j content r)
