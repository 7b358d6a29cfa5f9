use Rattle.tau_rule.specs.Heads.{both_at}
use Rattle.tau_desk.proofs.desk.Desk.take_manager.Given as goal

abbrev pub ghosts-take_manager_told : goal.ghosts-take_manager_told
ghosts-take_manager_told a = record { knows = λ i. both_at a.stream a.seat.now.me.0 a.other.me.0 }
