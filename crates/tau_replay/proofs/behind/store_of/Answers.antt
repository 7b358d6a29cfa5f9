-- Rows that are written to no rows.
use Rattle.std.proofs.Common.{Bool, true, false, cond, ◌≡◌, List, [], ◌∷◌, refl, ap, ◌∙◌}
use Rattle.std.specs.Prelude.{Some}
use Rattle.std.specs.Option.{unwrap_or}
use Rattle.std.specs.Map.{lookup}
use Rattle.std.proofs.Math.Path.{fun_ext}
use Rattle.tau_base.specs.declared.value.Key.{Key}
use Rattle.tau_base.specs.declared.value.Value.{Value}
use Rattle.tau_base.specs.declared.value.Value.TheVariants.{Absent}
use Rattle.tau_base.specs.Database.{Db, empty_db, same_key, written}
use Rattle.tau_model.specs.Tables.{db_of_rows}
use Rattle.tau_replay.proofs.behind.store_of.Goals as goal

written_rows : (rows : List (Key × Value)) (k : Key) → written rows empty_db k ≡ db_of_rows rows k
written_rows [] k = refl
written_rows (w ∷ ws) k = by_test (same_key k w.0) (written_rows ws k)
  where
    by_test : (b : Bool) → written ws empty_db k ≡ db_of_rows ws k → cond b w.1 (written ws empty_db k) ≡ unwrap_or (cond b (Some w.1) (lookup (same_key k) ws)) Absent
    by_test true rest = refl
    by_test false rest = rest

pub returns : goal.returns
returns c = c.in_ok-write.ensures.ok ∙ ap (λ (db : Db). written c.args.rows.now db) c.new-store.ensures ∙ fun_ext (written_rows c.args.rows.now)
