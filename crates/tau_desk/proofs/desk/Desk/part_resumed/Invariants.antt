use Rattle.std.specs.Prelude.{if◌then◌else◌, ◌==◌}
use Rattle.tau_rule.specs.Heads.{left_by}
use Rattle.tau_desk.specs.Resumes.{told_resumed}
use Rattle.tau_desk.proofs.desk.Desk.part_resumed.Given as goal

abbrev pub ghosts-part_resumed_told : goal.ghosts-part_resumed_told
ghosts-part_resumed_told a = record { knows = λ k. if k == 0 then left_by a.worker a.seat.now.me.0 else told_resumed a.worker a.at a.seat.now.me.0 }
