use Rattle.tau_desk.specs.Manages.{told_gathered}
use Rattle.tau_desk.proofs.desk.Desk.give_gathered.Given as goal

abbrev pub ghosts-give_gathered_told : goal.ghosts-give_gathered_told
ghosts-give_gathered_told a = record { knows = λ _. told_gathered a.seat.now.me.0 a.outbox.value.pieces }
