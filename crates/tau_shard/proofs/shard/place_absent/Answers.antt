use Rattle.std.proofs.Common.{[], ◌∷◌, sym, ap, ◌∙◌, Option}
use Rattle.std.specs.Option.{unwrap_or}
use Rattle.std.specs.Map.{lookup}
use Rattle.indexmap.specs.IndexMap.{get}
use Rattle.tau_base.specs.declared.value.Value.{Value}
use Rattle.tau_base.specs.declared.value.Value.TheVariants.{Absent}
use Rattle.tau_base.specs.Database.{written, db_of}
use Rattle.tau_shard.specs.Read.{is_key}
use Rattle.tau_shard.proofs.Puts.{set_rows, same_rows}
use Rattle.tau_shard.proofs.shard.place_absent.Goals as goal

pub returns-clause-same : goal.returns-clause-same
returns-clause-same c =
    set_rows (λ q. get is_key c.args.rows.now q) (λ q. get is_key c.insert.new.self q) c.args.key Absent (λ q. c.in_ok-insert.ensures.updates.0 q)
    ∙ ap (λ (v : Value). written ((c.args.key, v) ∷ []) (db_of (λ x. lookup (is_key x) c.args.rows.now.entries))) (sym (ap (λ (o : Option Value). unwrap_or o Absent) c.requires))
    ∙ same_rows (db_of (λ x. lookup (is_key x) c.args.rows.now.entries)) c.args.key
