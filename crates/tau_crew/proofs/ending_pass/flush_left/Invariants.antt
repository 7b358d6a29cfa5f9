-- The managers that went on are managers of their streams as before.
use Rattle.std.proofs.Common.{ℕ, List}
use Rattle.tau_crew.specs.Ending.{AreManagersBack}
use Rattle.tau_crew.proofs.ending_pass.flush_left.Given as goal

abbrev pub invariant-loop-stream : goal.invariant-loop-stream
invariant-loop-stream g l = (bases : ℕ → List ℕ) (ws : List _) → AreManagersBack l.desk.table.shared.key.value l.desk.table.shared.table_id bases ws l.initial.jobs.items → AreManagersBack l.desk.table.shared.key.value l.desk.table.shared.table_id bases ws l.jobs.items
