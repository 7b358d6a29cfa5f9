use Rattle.tau_begin.proofs.Beginning.{all_places}
use Rattle.tau_begin.proofs.open.start_on.Goals as goal

pub returns-clause-places : goal.returns-clause-places
returns-clause-places c = all_places c.args.log.now.elv c.as_slice-positions.ensures.small

pub returns-in_default-clause-places : goal.returns-in_default-clause-places
returns-in_default-clause-places c = all_places c.args.log.now.elv c.as_slice-positions.ensures.small
