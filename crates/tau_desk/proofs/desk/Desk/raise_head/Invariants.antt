use Rattle.tau_desk.specs.Ends.{told_head_raised}
use Rattle.tau_desk.proofs.desk.Desk.raise_head.Given as goal

abbrev pub ghosts-raise_head_as : goal.ghosts-raise_head_as
ghosts-raise_head_as a = record { knows = λ _. told_head_raised a.seat.now.me.0 }
