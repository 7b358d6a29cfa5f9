use Rattle.tau_rule.specs.Steps.{idle}
use Rattle.tau_desk.proofs.desk.Desk.give_back.Given as goal

abbrev pub ghosts-give_back_told : goal.ghosts-give_back_told
ghosts-give_back_told a = record { knows = λ _. idle a.seat.now.me.0 }
