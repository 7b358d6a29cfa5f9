-- No call is lost: each number that a worker accounts for is that of a committed call at the end, and is acknowledged.
use Rattle.std.proofs.Common.{ℕ, ◌<◌, ◌≡◌, true, List, length, subst}
use Rattle.std.specs.Prelude.{None}
use Rattle.tau_base.specs.declared.value.LogMode.{LogMode}
use Rattle.tau_model.specs.History.{Act}
use Rattle.tau_machine.specs.Hands.{Txn}
use Rattle.tau_machine.specs.State.{Core}
use Rattle.tau_text.specs.declared.load.Workload.{Workload}
use Rattle.tau_core.specs.declared.state.Load.{Load}
use Rattle.tau_core.specs.View.{setting_of}
use Rattle.tau_run.specs.Run.{Run, AllAcked, has_ack}
use Rattle.tau_run.specs.CoreRun.{IsRunOf, IsCourse}
use Rattle.tau_run.specs.Keeping.{NoneLost}
use Rattle.tau_run.specs.StopsLeave.{IsOver}
use Rattle.tau_run.proofs.Complete.{committed_at}
use Rattle.tau_run.proofs.Ended.{all_acked_of}
use Rattle.tau_run.proofs.Sound.{declared}

-- of the events nothing is needed but that each number is still somewhere
pub kept_acked : (n m : ℕ) (mode : LogMode) (load : Workload) (l : Load) (K : List (Act Txn)) (s : Core) (run : Run) (c : IsCourse n m mode load run.start l K s) → IsRunOf n l K s load run → IsOver n s →
    NoneLost (length load.calls) s → ((j : ℕ) → j < n → (s.streams j).stop ≡ None) → AllAcked load run
kept_acked n m mode load l K s run c is over kept going k low high =
    let w = kept k low high in
    let rest = over.done going w.0 in
    let t = committed_at (setting_of l) K s c.inv k w.0 w.1 (over.rests w.0) rest.0 rest.1 in
    subst (λ (i : ℕ). has_ack run i ≡ true) t.2 (all_acked_of n m mode load l K s run (declared n m mode load l K s run c) is over going t.0 t.1)
