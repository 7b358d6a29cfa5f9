use Rattle.std.proofs.Common.{ap, ◌∙◌, refl}
use Rattle.std.specs.Prelude.{None, IsSome}
use Rattle.tau_base.specs.declared.value.Value.{Value}
use Rattle.tau_base.specs.declared.value.Mode.TheVariants.{Read}
use Rattle.tau_shard.specs.Shard.{Shard, entry_in}
use Rattle.tau_shard.specs.Read.{shard_of}
use Rattle.tau_shard.proofs.Bridge.{locked_held}
use Rattle.tau_txn_runs.proofs.shard.reads.Goals as goal

pub free-requires : goal.free-requires
free-requires c =
    let held = ap (λ (t : Shard). (entry_in t c.key-key.result).holders c.args.worker) c.in-Ok.ensures.locked ∙ locked_held (shard_of c.args.shard.now) c.args.worker c.key-key.result Read in
    record { low = c.requires; held = rw held refl; writes = λ h. absurd (none_some h) }
  where
    none_some : IsSome {T = Value} None → ⊥
    none_some e = cc
