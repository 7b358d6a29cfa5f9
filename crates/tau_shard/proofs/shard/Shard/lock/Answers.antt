use Rattle.std.proofs.Common.{ap, ◌∙◌}
use Rattle.tau_shard.specs.Shard.{Shard}
use Rattle.tau_shard.proofs.shard.Shard.lock.Goals as goal

pub returns-clause-value : goal.returns-clause-value
returns-clause-value c = c.value.ensures ∙ ap (λ (s : Shard). s.rows c.args.key) c.in_ok-lock_key.ensures.locked
