use Rattle.tau_crew_facts.proofs.ManagerWriter.{entry_moves, stored_kept}
use Rattle.tau_crew_facts.proofs.laws.stored_is_kept.Goals as goal

pub returns-clause-entry : goal.returns-clause-entry
returns-clause-entry g c = λ format n j base taken w0 w works h. entry_moves format n j base taken w0 w works h

pub returns-clause-kept : goal.returns-clause-kept
returns-clause-kept g c = λ format n j base taken more stored w0 w w' h k t x since. stored_kept format n j base g.met.D.Disk.only_now taken more stored w0 w w' h k t x since
