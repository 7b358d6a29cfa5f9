-- Room is made first, which leaves the rows.
use Rattle.std.proofs.Common.{List, map, ap, ◌∙◌}
use Rattle.std.specs.Map.{lookup}
use Rattle.tau_base.specs.declared.value.Key.{Key}
use Rattle.tau_base.specs.declared.value.Value.{Value}
use Rattle.tau_base.specs.declared.value.Value.TheVariants.{Int}
use Rattle.tau_base.specs.Database.{db_of, written}
use Rattle.tau_model.specs.Store.{is_key}
use Rattle.tau_model.proofs.rows.Rows.write_numbers.Goals as goal

pub returns-clause-ok : goal.returns-clause-ok
returns-clause-ok c = c.set_numbers.ensures ∙ ap (λ (rows : List (Key × Value)). written (map (λ r. (r.0, Int r.1)) c.args.writes.now) (db_of (λ k. lookup (is_key k) rows))) c.reserve.ensures.entries

pub returns-in_default-clause-err : goal.returns-in_default-clause-err
returns-in_default-clause-err c = ap (λ (rows : List (Key × Value)). db_of (λ k. lookup (is_key k) rows)) c.reserve.ensures.entries
