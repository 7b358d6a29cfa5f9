use Rattle.std.proofs.Common.{◌≡◌, subst}
use Rattle.std.specs.Map.{lookup}
use Rattle.tau_base.specs.Database.{Db, same_key, db_of}
use Rattle.tau_shard.specs.Plain.{PlainShard}
use Rattle.tau_shard.specs.Read.{shard_of}
use Rattle.tau_shard.specs.Present.{present_rows}
use Rattle.tau_shard.proofs.shard.Shard.present.Goals as goal

pub returns-then-is_err-clause-database : goal.returns-then-is_err-clause-database
returns-then-is_err-clause-database c =
    subst (λ (p : PlainShard). ◌≡◌ {A = Db} (db_of (λ x. lookup (same_key x) (present_rows p.rows))) (shard_of p).rows) c.self.view_is c.append_present-appended.ensures.database

pub returns-else-is_err-clause-database : goal.returns-else-is_err-clause-database
returns-else-is_err-clause-database c =
    subst (λ (p : PlainShard). ◌≡◌ {A = Db} (db_of (λ x. lookup (same_key x) (present_rows p.rows))) (shard_of p).rows) c.self.view_is c.append_present-appended.ensures.database
