use Rattle.std.proofs.Common.{sym, ap, ◌∙◌, Option}
use Rattle.tau_base.specs.declared.value.Value.{Value}
use Rattle.tau_shard.specs.Shard.{shard_freed}
use Rattle.tau_shard.specs.Read.{shard_of}
use Rattle.tau_shard.proofs.shard.Shard.free.Goals as goal

pub returns : goal.returns
returns c = c.free_by.ensures ∙ ap (λ (o : Option Value). shard_freed (shard_of c.args.self.now) c.args.worker c.args.key c.args.lv.now o) c.as_ref.ensures.value

pub free_by-requires : goal.free_by-requires
free_by-requires c = record { low = c.requires.low; held = c.requires.held; writes = λ h. c.requires.writes (sym c.as_ref.ensures.variant ∙ h) }
