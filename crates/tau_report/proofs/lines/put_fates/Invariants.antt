use Rattle.std.proofs.Common.{◌≡◌, ◌+◌, ◌++◌, drop}
use Rattle.tau_report.specs.Report.{fate_lines}
use Rattle.tau_report.proofs.lines.put_fates.Given as goal

abbrev pub invariant-loop-fate : goal.invariant-loop-fate
invariant-loop-fate l = record {
  counted : l.number ≡ l.fate-index;
  text : l.initial.out.items ++ fate_lines 1 l.fates ≡ l.out.items ++ fate_lines (l.number + 1) (drop l.fate-index l.fates);
}
