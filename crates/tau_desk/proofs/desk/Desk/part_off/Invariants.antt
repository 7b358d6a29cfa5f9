use Rattle.std.specs.Prelude.{if◌then◌else◌, ◌==◌}
use Rattle.tau_rule.specs.Heads.{left_by, split_off}
use Rattle.tau_desk.proofs.desk.Desk.part_off.Given as goal

abbrev pub ghosts-part_off_told : goal.ghosts-part_off_told
ghosts-part_off_told a = record { knows = λ k. if k == 0 then left_by a.role a.seat.now.me.0 else split_off a.role a.seat.now.me.0 }
