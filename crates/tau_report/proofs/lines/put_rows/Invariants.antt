use Rattle.std.proofs.Common.{◌≡◌, ◌++◌, take}
use Rattle.tau_report.specs.Report.{row_lines}
use Rattle.tau_report.proofs.lines.put_rows.Given as goal

abbrev pub invariant-loop-row : goal.invariant-loop-row
invariant-loop-row l = l.out.items ≡ l.initial.out.items ++ row_lines l.tables (take l.row-index l.rows)
