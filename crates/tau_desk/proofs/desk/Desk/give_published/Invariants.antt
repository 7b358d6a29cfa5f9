use Rattle.tau_rule.specs.Steps.{idle}
use Rattle.tau_desk.proofs.desk.Desk.give_published.Given as goal

abbrev pub ghosts-give_published_told : goal.ghosts-give_published_told
ghosts-give_published_told a = record { knows = λ _. idle a.seat.now.me.0 }
