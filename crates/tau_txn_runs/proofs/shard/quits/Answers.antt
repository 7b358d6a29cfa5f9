use Rattle.std.proofs.Common.{ap, ◌∙◌, refl}
use Rattle.tau_base.specs.declared.value.Mode.TheVariants.{Write}
use Rattle.tau_shard.specs.Shard.{Shard, entry_in}
use Rattle.tau_shard.specs.Read.{shard_of}
use Rattle.tau_shard.proofs.Bridge.{locked_held}
use Rattle.tau_txn_runs.proofs.shard.quits.Goals as goal

pub quit-requires : goal.quit-requires
quit-requires c =
    let held = ap (λ (t : Shard). (entry_in t c.key-key.result).holders c.args.worker) c.in-Ok.ensures.locked ∙ locked_held (shard_of c.args.shard.now) c.args.worker c.key-key.result Write in
    record { low = c.requires; held = rw held refl }
