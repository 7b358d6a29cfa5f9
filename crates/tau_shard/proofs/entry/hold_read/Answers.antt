use Rattle.std.proofs.Common.{true, false}
use Rattle.tau_shard.proofs.Masks.{entry_both}
use Rattle.tau_shard.proofs.entry.hold_read.Goals as goal

pub returns : goal.returns
returns c = entry_both c.args.entry.now c.args.worker true false c.with-entry.result c.without-entry.result c.with-entry.ensures c.without-entry.ensures
