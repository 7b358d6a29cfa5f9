use Rattle.std.proofs.Common.{◌≡◌, ◌++◌, take}
use Rattle.tau_report.specs.Report.{order_lines}
use Rattle.tau_report.proofs.lines.put_order.Given as goal

abbrev pub invariant-loop-number : goal.invariant-loop-number
invariant-loop-number l = l.out.items ≡ l.initial.out.items ++ order_lines (take l.number-index l.order)
