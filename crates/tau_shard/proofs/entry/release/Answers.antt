use Rattle.std.proofs.Common.{false}
use Rattle.tau_shard.proofs.Masks.{entry_both}
use Rattle.tau_shard.proofs.entry.release.Goals as goal

pub returns : goal.returns
returns c = entry_both c.args.entry.now c.args.worker false false c.without-entry.result c.without-entry-2.result c.without-entry.ensures c.without-entry-2.ensures
