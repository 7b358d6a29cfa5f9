use Rattle.tau_desk.specs.Works.{told_read}
use Rattle.tau_desk.proofs.desk.Desk.give_read.Given as goal

abbrev pub ghosts-give_read_told : goal.ghosts-give_read_told
ghosts-give_read_told a = record { knows = λ _. told_read a.seat.now.me.0 a.number a.lv.value }
