-- The row has another value, or goes.
use Rattle.std.proofs.Common.{[], ◌∷◌, List, subst, sym, arith}
use Rattle.tau_base.specs.Database.{written}
use Rattle.tau_base.specs.declared.value.Key.{Key}
use Rattle.tau_base.specs.declared.value.Value.{Value}
use Rattle.tau_base.specs.declared.value.Value.TheVariants.{Absent}
use Rattle.tau_model.specs.Tables.{IsTablesOf}
use Rattle.tau_follow.proofs.Renewing.{put_one, put_none}
use Rattle.tau_follow.proofs.renew.change.Goals as goal

pub returns-then-is_value-clause-tables : goal.returns-then-is_value-clause-tables
returns-then-is_value-clause-tables c = λ db t e.
    (let w : Key × Value = (c.args.key, c.args.value) in
    subst (λ (l : List (Key × Value)). IsTablesOf (written (w ∷ []) db) l) (sym c.put_row.ensures.put) (put_one db c.args.rows.now.items c.args.place w t (e, c.is_value.ensures.value c.if-is_value.true)))

pub returns-clause-tables : goal.returns-clause-tables
returns-clause-tables c = λ db t e.
    subst (λ (v : Value). IsTablesOf (written ((c.args.key, v) ∷ []) db) c.remove.new.self.items) (sym (c.is_value.ensures.none c.if-is_value.false))
    (subst (λ (l : List (Key × Value)). IsTablesOf (written ((c.args.key, Absent) ∷ []) db) l) (sym c.remove.ensures.items) (put_none db c.args.rows.now.items c.args.place c.args.key t e))

pub returns-clause-room : goal.returns-clause-room
returns-clause-room c = omega (arith, c.remove.ensures.len, c.remove.ensures.capacity)
