-- The row comes, or was not there and does not come.
use Rattle.std.proofs.Common.{[], ◌∷◌, List, subst, sym, arith}
use Rattle.tau_base.specs.Database.{written}
use Rattle.tau_base.specs.declared.value.Key.{Key}
use Rattle.tau_base.specs.declared.value.Value.{Value}
use Rattle.tau_model.specs.Tables.{IsTablesOf}
use Rattle.tau_follow.proofs.Renewing.{put_new, put_nothing}
use Rattle.tau_follow.proofs.renew.come.Goals as goal

pub returns-then-not-is_value-clause-tables : goal.returns-then-not-is_value-clause-tables
returns-then-not-is_value-clause-tables c = λ db t gap.
    subst (λ (v : Value). IsTablesOf (written ((c.args.key, v) ∷ []) db) c.args.rows.now.items) (sym (c.is_value.ensures.none c.if-not-is_value.true)) (put_nothing db c.args.rows.now.items c.args.place c.args.key t gap)

pub returns-in-Ok-clause-tables : goal.returns-in-Ok-clause-tables
returns-in-Ok-clause-tables c = λ db t gap.
    (let w : Key × Value = (c.args.key, c.args.value) in
    subst (λ (l : List (Key × Value)). IsTablesOf (written (w ∷ []) db) l) (sym c.in-Ok.ensures.items) (put_new db c.args.rows.now.items c.args.place w t gap (c.is_value.ensures.value c.if-not-is_value.false)))

pub returns-in-Err-clause-tables : goal.returns-in-Err-clause-tables
returns-in-Err-clause-tables c = absurd (omega (arith, c.in-Err.ensures.full, c.requires.room))

pub returns-in-Ok-clause-room : goal.returns-in-Ok-clause-room
returns-in-Ok-clause-room c = omega (arith, c.in-Ok.ensures.len, c.in-Ok.ensures.capacity)

pub returns-in-Err-clause-room : goal.returns-in-Err-clause-room
returns-in-Err-clause-room c = absurd (omega (arith, c.in-Err.ensures.full, c.requires.room))
