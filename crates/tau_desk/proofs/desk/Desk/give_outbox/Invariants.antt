use Rattle.tau_rule.specs.Boxes.{told_box}
use Rattle.tau_desk.proofs.desk.Desk.give_outbox.Given as goal

abbrev pub ghosts-give_outbox_told : goal.ghosts-give_outbox_told
ghosts-give_outbox_told a = record { knows = λ _. told_box a.self.now.table.shared.key.value.load a.seat.now.me.0 a.txn.now (a.room.records, a.room.calls) }
