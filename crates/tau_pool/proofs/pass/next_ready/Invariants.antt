-- In the streams so far nothing else is recovered.
use Rattle.std.proofs.Common.{ℕ, ◌≡◌, ◌<◌, length, drop, slice_index}
use Rattle.tau_model.specs.History.{Member}
use Rattle.tau_pool.specs.declared.waits.Wait.{Wait}
use Rattle.tau_pool.specs.Kept.{IsMet, waits_in}
use Rattle.tau_pool.proofs.pass.next_ready.Given as goal

abbrev pub invariant-loop-k : goal.invariant-loop-k
invariant-loop-k l = record {
  met : IsMet l.rlv l.items l.waits l.passed.items;
  count : length l.passed.items ≡ length l.rlv;
  blocked : (k : ℕ) (w : Wait) → k < l.k → Member w (drop (slice_index l.passed.items k) (waits_in l.waits k)) → slice_index l.rlv k < w.at;
}
