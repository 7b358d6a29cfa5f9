-- All are found, and in the queues so far each waits for more.
use Rattle.std.proofs.Common.{ℕ, ◌<◌, ◌≡◌, List, Some, length, slice_index}
use Rattle.std.specs.Prelude.{slice_get}
use Rattle.tau_record.specs.declared.entry.Placed.{Placed}
use Rattle.tau_follow.specs.declared.stage.Stage.{Stage}
use Rattle.tau_follow.specs.Queue.{Wait, AreAbove}
use Rattle.tau_follow.specs.Waits.{AreFound}
use Rattle.tau_follow.proofs.waits.drain_all.Given as goal

abbrev pub invariant-loop-k : goal.invariant-loop-k
invariant-loop-k l = record {
  many : length l.queues.items ≡ length l.initial.queues.items;
  found : (streams : List (List Placed)) (stages : List (List Stage)) → AreFound streams stages l.initial.looked.items l.initial.queues.items → AreFound streams stages l.looked.items l.queues.items;
  above : (j : ℕ) (queue : List Wait) → j < l.k → slice_get l.queues.items j ≡ Some queue → AreAbove (slice_index l.reached j) queue;
}
