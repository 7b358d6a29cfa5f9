-- A short row is of the same table as the write that it stands for.
use Rattle.std.proofs.Common.{◌∙◌, sym, ap, List}
use Rattle.std.specs.Prelude.{nat_lt}
use Rattle.std.specs.List.{list_all}
use Rattle.std.proofs.lemmas.List.Folds.{list_all-map}
use Rattle.tau_base.specs.declared.value.Key.{Key}
use Rattle.tau_base.specs.declared.value.Value.{Value}
use Rattle.tau_base.specs.declared.value.Value.TheVariants.{Int}
use Rattle.tau_record.specs.declared.writes.LentWrites.{LentWrites}
use Rattle.tau_record.specs.KeptWrites.{shown}
use Rattle.tau_record.proofs.writes.KeptWrites.are_of.Goals as goal

pub returns-in-Numbers : goal.returns-in-Numbers
returns-in-Numbers c =
    c.numbers_are_of.ensures
    ∙ sym (list_all-map (λ (w : Key × Value). nat_lt w.0.table c.args.tables) (λ r. (r.0, Int r.1)) c.in-Numbers.rows.now)
    ∙ ap (λ (l : LentWrites). list_all (λ w. nat_lt w.0.table c.args.tables) (shown l)) (sym c.in-Numbers.is)
    ∙ ap (λ (ws : List (Key × Value)). list_all (λ w. nat_lt w.0.table c.args.tables) ws) c.lent.ensures
