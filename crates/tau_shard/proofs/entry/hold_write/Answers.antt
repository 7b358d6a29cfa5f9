use Rattle.tau_shard.proofs.Masks.{entry_write}
use Rattle.tau_shard.proofs.entry.hold_write.Goals as goal

pub returns : goal.returns
returns c = entry_write c.args.entry.now c.args.worker c.with-entry.result c.with-entry.ensures
