use Rattle.std.proofs.Common.{ap, ◌∙◌}
use Rattle.indexmap.specs.IndexMap.{get}
use Rattle.tau_base.specs.Database.{Db}
use Rattle.tau_shard.specs.Plain.{PlainShard}
use Rattle.tau_shard.specs.Read.{is_key, entry_option, shard_of}
use Rattle.tau_shard.proofs.Puts.{with_rows}
use Rattle.tau_shard.proofs.shard.Shard.prepare_row.Goals as goal

pub returns-clause-same : goal.returns-clause-same
returns-clause-same c =
    ap (λ (r : Db). with_rows r (λ x. entry_option (get is_key c.self.inside.entries x)) c.self.inside.floor) c.place_row.ensures.same
    ∙ ap (λ (p : PlainShard). shard_of p) c.self.view_is
