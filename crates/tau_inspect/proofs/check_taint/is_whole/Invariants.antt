-- The first calls have their records and acknowledgements.
use Rattle.std.proofs.Common.{ℕ, ◌<◌, ◌≡◌, true}
use Rattle.std.specs.Prelude.{Some, slice_get}
use Rattle.tau_model.specs.History.{Act, Numbered}
use Rattle.tau_inspect.specs.Audit.{acts, is_told}
use Rattle.tau_inspect.specs.Cases.{in_case}
use Rattle.tau_inspect.proofs.check_taint.is_whole.Given as goal

abbrev pub invariant-loop-i : goal.invariant-loop-i
invariant-loop-i l = (j : ℕ) (x : Act Numbered) → j < l.i → slice_get (acts (in_case l.case)) j ≡ Some x → is_told (in_case l.case) x ≡ true
