use Rattle.tau_desk.specs.Manages.{told_acked}
use Rattle.tau_desk.proofs.desk.Desk.give_acked.Given as goal

abbrev pub ghosts-give_acked_told : goal.ghosts-give_acked_told
ghosts-give_acked_told a = record { knows = λ _. told_acked a.seat.now.me.0 a.worker a.call.now }
