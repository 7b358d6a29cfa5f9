use Rattle.tau_crew.proofs.ManagerEnds.{enters_again, stays_stored}
use Rattle.tau_crew.proofs.laws.stored_stays.Goals as goal

pub returns-clause-entry : goal.returns-clause-entry
returns-clause-entry g c = λ format n j base w0 job m enough works. enters_again format n j base w0 job m enough works

pub returns-clause-kept : goal.returns-clause-kept
returns-clause-kept g c = λ format n j base w0 job job' m enough works keeps t. stays_stored g.met.D.Disk.counts_now g.met.D.Disk.only_now format n j base w0 job job' m enough works keeps t
