-- The flags of the first numbers.
use Rattle.std.proofs.Common.{take}
use Rattle.tau_inspect.specs.ByNumber.{HasFlags}
use Rattle.tau_inspect.proofs.by_number.flags.Given as goal

abbrev pub invariant-loop-i : goal.invariant-loop-i
invariant-loop-i l = HasFlags l.count (take l.i l.numbers) l.flags.items
