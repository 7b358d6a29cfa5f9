-- The managers that are left, and those whose roles the head has.
use Rattle.std.proofs.Common.{◌≡◌, ◌++◌, ◌+◌, List, length, map, reverse, vec_len, vec_capacity}
use Rattle.tau_crew.specs.EndJoins.{HasManagers, KeepsHead, writer_in}
use Rattle.tau_crew.proofs.ending_join.take_managers.Given as goal

abbrev pub invariant-loop-job : goal.invariant-loop-job
invariant-loop-job g l =
    KeepsHead l.desk.table.shared.key.value l.initial.head l.head
    × ((done : List _) × (l.initial.jobs.items ≡ l.jobs.items ++ done) × HasManagers l.desk.table.shared.key.value l.head (length l.jobs.items) done)
    × (map writer_in l.jobs.items ++ reverse l.writers.items ≡ map writer_in l.initial.jobs.items ++ reverse l.initial.writers.items)
    × (vec_len l.jobs + vec_len l.writers ≡ vec_len l.initial.jobs + vec_len l.initial.writers)
    × (vec_capacity l.writers ≡ vec_capacity l.initial.writers)

abbrev pub decreases-loop-job : goal.decreases-loop-job
decreases-loop-job g l = vec_len l.jobs
