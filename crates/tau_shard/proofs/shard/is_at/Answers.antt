use Rattle.std.proofs.Common.{sym, ◌∙◌}
use Rattle.tau_shard.proofs.Stands.{stands_compared}
use Rattle.tau_shard.proofs.shard.is_at.Goals as goal

pub returns-in-Some : goal.returns-in-Some
returns-in-Some g c =
    λ e. stands_compared c.args.map.now.entries c.in-Some.found.now c.args.key c.args.at c.in-Some.field-0-1.now (sym c.eq.ensures ∙ e) c.in-Some.ensures.entry c.in-Some.ensures.value
