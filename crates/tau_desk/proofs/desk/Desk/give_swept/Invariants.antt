use Rattle.tau_rule.specs.Steps.{idle}
use Rattle.tau_desk.proofs.desk.Desk.give_swept.Given as goal

abbrev pub ghosts-give_swept_told : goal.ghosts-give_swept_told
ghosts-give_swept_told a = record { knows = λ _. idle a.seat.now.me.0 }
