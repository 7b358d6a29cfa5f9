use Rattle.std.proofs.Common.{ℕ, ◌≤◌, ◌≡◌, ◌⊎◌, true, List}
use Rattle.tau_disk.specs.Disk.{Rose}
use Rattle.tau_model.specs.History.{Act}
use Rattle.tau_machine.specs.Hands.{Txn}
use Rattle.tau_machine.specs.Events as machine
use Rattle.tau_core.specs.View.{Hidden}
use Rattle.tau_core.specs.Stands.{Stands, Stood}
use Rattle.tau_run.specs.Heard.{Heard}
use Rattle.tau_step.specs.Progressed.{Comes}
use Rattle.tau_step.proofs.PartsOfPasses.{clerks_below}
use Rattle.tau_step.proofs.clerk.Clerk.pass.Given as goal

abbrev pub invariant-loop-worker : goal.invariant-loop-worker
invariant-loop-worker g l = record {
  stood : Stood l.core;
  load : l.core.load ≡ l.fn.core.load;
  comes : (order : List (Act Txn)) (h : Hidden) (es : List machine.Event) → Stands l.fn.core order h → Comes (clerks_below l.worker) l.fn.core l.core l.fn.self.acks l.self.acks order h es;
  heard : g.K.Sink.tells → (base : List ℕ) → Heard base l.fn.self.acks l.fn.self.sink_failed (g.K.Sink.held l.fn.sink) → Heard base l.self.acks l.self.sink_failed (g.K.Sink.held l.sink);
  cause : l.self.sink_failed ≡ true → (l.fn.self.sink_failed ≡ true) ⊎ Rose (g.K.Sink.faults l.fn.sink) (g.K.Sink.faults l.sink);
  faults : g.K.Sink.faults l.fn.sink ≤ g.K.Sink.faults l.sink;
}
