use Rattle.tau_rule.specs.Steps.{told}
use Rattle.tau_desk.proofs.desk.Desk.give_shard.Given as goal

abbrev pub ghosts-give_shard_told : goal.ghosts-give_shard_told
ghosts-give_shard_told a = record { knows = λ _. told a.self.now.table.shared.key.value.load a.seat.now.me.0 a.txn.now }
