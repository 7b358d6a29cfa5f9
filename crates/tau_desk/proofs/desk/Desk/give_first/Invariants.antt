use Rattle.tau_desk.specs.Works.{told_joined}
use Rattle.tau_desk.proofs.desk.Desk.give_first.Given as goal

abbrev pub ghosts-give_first_told : goal.ghosts-give_first_told
ghosts-give_first_told a = record { knows = λ _. told_joined a.self.now.table.shared.key.value.load a.seat.now.me.0 a.txn.now a.kept.now }
