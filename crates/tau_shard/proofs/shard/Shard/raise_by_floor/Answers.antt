use Rattle.std.proofs.Common.{ap, ◌∙◌}
use Rattle.std.specs.Prelude.{None}
use Rattle.tau_shard.specs.Shard.{entry_or}
use Rattle.tau_shard.specs.Plain.{PlainShard}
use Rattle.tau_shard.specs.Blocks.{dep_locked}
use Rattle.tau_shard.proofs.Puts.{by_floor}
use Rattle.tau_shard.proofs.shard.Shard.raise_by_floor.Goals as goal

pub returns : goal.returns
returns c =
    c.raise.ensures ∙ by_floor c.args.mode c.args.dep.now c.self.inside.floor
    ∙ ap (λ (p : PlainShard). dep_locked c.args.mode c.args.dep.now (entry_or p.floor None)) c.self.view_is
