-- The first numbers stand so.
use Rattle.std.proofs.Common.{◌≡◌, take, length}
use Rattle.std.specs.Prelude.{Some, slice_get}
use Rattle.tau_inspect.specs.Firsts.{AllFit}
use Rattle.tau_inspect.proofs.check_order.first_other.Given as goal

abbrev pub invariant-loop-i : goal.invariant-loop-i
invariant-loop-i l = AllFit (λ before n. slice_get l.due (length before) ≡ Some n) (take l.i l.order)
