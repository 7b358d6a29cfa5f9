-- The streams so far.
use Rattle.std.proofs.Common.{ℕ, ◌≡◌, ◌<◌, ◌≤◌, true, Some, length, slice_index}
use Rattle.std.specs.Prelude.{slice_get}
use Rattle.tau_pool.specs.Item.{Item}
use Rattle.tau_pool.specs.Passing.{is_passed}
use Rattle.tau_pool.specs.First.{first_from, reach_one}
use Rattle.tau_pool.proofs.pools.reached_of.Given as goal

abbrev pub invariant-loop-j : goal.invariant-loop-j
invariant-loop-j l = record {
  wide : length l.rlv ≡ length l.ends;
  many : length l.nexts.items ≡ l.j;
  low : l.next ≤ length l.items;
  passed : (k : ℕ) (x : Item) → k < l.next → slice_get l.items k ≡ Some x → is_passed l.j x ≡ true;
  firsts : (i : ℕ) → i < l.j → slice_index l.nexts.items i ≡ first_from i 0 l.items;
  reached : (i : ℕ) → i < l.j → slice_index l.rlv i ≡ reach_one i (slice_index l.ends i) (slice_get l.items (first_from i 0 l.items));
}
