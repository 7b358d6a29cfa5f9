use Rattle.tau_desk.specs.Works.{told_read_only}
use Rattle.tau_desk.proofs.desk.Desk.give_read_only.Given as goal

abbrev pub ghosts-give_read_only_told : goal.ghosts-give_read_only_told
ghosts-give_read_only_told a = record { knows = λ _. told_read_only a.self.now.table.shared.key.value.load a.seat.now.me.0 a.txn.now a.kept.now (a.room.records, a.room.calls) }
