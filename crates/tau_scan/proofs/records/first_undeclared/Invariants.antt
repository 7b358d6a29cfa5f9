-- Each record so far names only what is declared.
use Rattle.std.proofs.Common.{◌≡◌, drop}
use Rattle.tau_scan.specs.Reading.{first_undeclared}
use Rattle.tau_scan.proofs.records.first_undeclared.Given as goal

abbrev pub invariant-loop-placed : goal.invariant-loop-placed
invariant-loop-placed l = first_undeclared l.declarations l.records ≡ first_undeclared l.declarations (drop l.placed-index l.records)
