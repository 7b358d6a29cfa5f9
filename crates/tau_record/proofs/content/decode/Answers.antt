use Rattle.tau_record.proofs.content.decode.Goals as goal

pub returns-clause-found : goal.returns-clause-found
returns-clause-found c = c.decode_as.ensures.found

pub returns-clause-only : goal.returns-clause-only
returns-clause-only c = c.decode_as.ensures.only

pub returns-clause-bad : goal.returns-clause-bad
returns-clause-bad c = c.decode_as.ensures.bad
