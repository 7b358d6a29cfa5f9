-- Each so far is one.
use Rattle.std.proofs.Common.{◌≡◌, ◌≤◌, ◌<◌, ℕ, true, Some}
use Rattle.std.specs.Prelude.{slice_get}
use Rattle.tau_record.specs.declared.entry.Placed.{Placed}
use Rattle.tau_follow.specs.Applying.{is_call}
use Rattle.tau_follow.proofs.feed.are_calls.Given as goal

abbrev pub invariant-loop-i : goal.invariant-loop-i
invariant-loop-i l = (k : ℕ) (p : Placed) → l.from ≤ k → k < l.i → slice_get l.records k ≡ Some p → is_call p.entry ≡ true
