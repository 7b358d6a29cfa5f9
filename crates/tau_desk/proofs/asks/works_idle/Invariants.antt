use Rattle.std.proofs.Common.{ℕ, ◌<◌, ◌≡◌, Option}
use Rattle.std.specs.Prelude.{Some, slice_get}
use Rattle.tau_desk.specs.Asks.{IsIdle}
use Rattle.tau_desk.specs.Shares.{PlainWork}
use Rattle.tau_desk.proofs.asks.works_idle.Given as goal

abbrev pub invariant-loop-worker : goal.invariant-loop-worker
invariant-loop-worker l = (w : ℕ) → w < l.worker → (o : Option PlainWork) → slice_get l.works.items w ≡ Some o → IsIdle o
