use Rattle.tau_rule.specs.Places.{placed}
use Rattle.tau_desk.proofs.desk.Desk.place.Given as goal

abbrev pub ghosts-place_as : goal.ghosts-place_as
ghosts-place_as a = record { knows = λ start. placed a.self.now.table.shared.key.value.load a.seat.now.me.0 a.txn.now start }
