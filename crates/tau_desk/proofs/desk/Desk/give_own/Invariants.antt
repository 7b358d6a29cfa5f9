use Rattle.tau_desk.specs.Manages.{told_own}
use Rattle.tau_desk.proofs.desk.Desk.give_own.Given as goal

abbrev pub ghosts-give_own_told : goal.ghosts-give_own_told
ghosts-give_own_told a = record { knows = λ _. told_own a.seat.now.me.0 a.stock.now.own.pieces }
