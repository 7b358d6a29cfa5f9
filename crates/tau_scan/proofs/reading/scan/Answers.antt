-- The same cause, without the contents.
use Rattle.std.proofs.Common.{Err, ap}
use Rattle.tau_scan.specs.declared.fault.ScanRefusal.{ScanRefusal}
use Rattle.tau_scan.specs.declared.fault.ScanRefusal.TheVariants.{Bad}
use Rattle.tau_scan.proofs.Contents.{err_is}
use Rattle.tau_scan.proofs.reading.scan.Goals as goal

pub returns-in-Err-clause-calls_bad : goal.returns-in-Err-clause-calls_bad
returns-in-Err-clause-calls_bad g c fault is = c.in-Err.ensures.calls_bad fault (ap (λ (r : ScanRefusal). Err r) (err_is c.in-Err.refusal (Bad fault) is))
