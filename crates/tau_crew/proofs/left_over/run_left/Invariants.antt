use Rattle.tau_crew.specs.Ending.{IsHeadBack}
use Rattle.tau_crew.specs.LeftOver.{AllHaveRun, KeepsBeside}
use Rattle.tau_crew.proofs.left_over.run_left.Given as goal

abbrev pub invariant-loop : goal.invariant-loop
invariant-loop g l = record { beside : KeepsBeside l.initial.head l.head; back : IsHeadBack l.desk.table.shared.key.value l.desk.table.shared.table_id l.head; ran : AllHaveRun l.desk.table.shared.key.value.load l.head }
