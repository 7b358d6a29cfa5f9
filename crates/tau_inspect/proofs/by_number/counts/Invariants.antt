-- The counts of the first numbers.
use Rattle.std.proofs.Common.{take}
use Rattle.tau_inspect.specs.ByNumber.{HasCounts}
use Rattle.tau_inspect.proofs.by_number.counts.Given as goal

abbrev pub invariant-loop-i : goal.invariant-loop-i
invariant-loop-i l = HasCounts l.count (take l.i l.numbers) l.counts.items
