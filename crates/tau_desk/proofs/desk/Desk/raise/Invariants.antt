use Rattle.tau_desk.specs.Manages.{told_raised}
use Rattle.tau_desk.proofs.desk.Desk.raise.Given as goal

abbrev pub ghosts-raise_as : goal.ghosts-raise_as
ghosts-raise_as a = record { knows = λ _. told_raised a.seat.now.me.0 }
