use Rattle.std.proofs.Common.{◌≡◌, ℕ, List, drop, length}
use Rattle.std.specs.Prelude.{vec_capacity}
use Rattle.tau_base.specs.Modes.{format_of}
use Rattle.tau_run.specs.Writers.{IsBegun}
use Rattle.tau_crew.specs.Dealing.{AreDealt, IsDealing, KeepsWorkers}
use Rattle.tau_crew.proofs.deal.deal_managers.Given as goal

abbrev pub invariant-loop-stream : goal.invariant-loop-stream
invariant-loop-stream g l =
    IsDealing l.desk.table.shared.key.value l.desk.table.shared.table_id l.stream l.head × (l.writers.items ≡ drop l.stream l.initial.writers.items) × (length l.jobs.items ≡ l.stream)
    × (vec_capacity l.jobs ≡ vec_capacity l.initial.jobs)
    × ((bases : ℕ → List ℕ) → IsBegun (format_of l.desk.table.shared.key.value.load.mode) bases l.initial.writers.items l.desk.table.shared.key.value.load.opening → AreDealt l.desk.table.shared.key.value l.desk.table.shared.table_id bases l.initial.writers.items l.stream l.jobs.items)
    × KeepsWorkers l.desk.table.shared.key.value.load l.initial.head l.head
    × (vec_capacity l.writers ≡ vec_capacity l.initial.writers)
