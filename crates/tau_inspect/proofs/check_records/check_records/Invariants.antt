-- The first records fit, and their numbers are flagged.
use Rattle.std.proofs.Common.{take, map, length}
use Rattle.tau_inspect.specs.Audit.{records, FitsRecord}
use Rattle.tau_inspect.specs.ByNumber.{HasFlags}
use Rattle.tau_inspect.specs.Firsts.{AllFit}
use Rattle.tau_inspect.specs.Cases.{in_case}
use Rattle.tau_inspect.proofs.check_records.check_records.Given as goal

abbrev pub invariant-loop-i : goal.invariant-loop-i
invariant-loop-i l = record {
  fit : AllFit (FitsRecord (in_case l.case)) (take l.i (records (in_case l.case)));
  seen : HasFlags (length l.case.load.now.calls) (map (λ r. r.number) (take l.i (records (in_case l.case)))) l.seen.items;
}
