-- The place that is lent takes the value.
use Rattle.std.proofs.Common.{◌∷◌, [], refl, ap, subst, ◌∙◌, Option, arith}
use Rattle.std.specs.Prelude.{IsSome}
use Rattle.indexmap.specs.IndexMap.{get}
use Rattle.tau_base.specs.declared.value.Value.{Value}
use Rattle.tau_base.specs.Database.{written}
use Rattle.tau_model.specs.Store.{is_key, rows_of}
use Rattle.tau_model.proofs.Places.{rows_set}
use Rattle.tau_model.proofs.rows.Rows.put_row.Goals as goal

pub returns-clause-set : goal.returns-clause-set
returns-clause-set c =
    let w : Value = c.put_value.new.place in
    let some : IsSome (get is_key c.args.self.now.rows c.args.key) = subst (λ (o : Option Value). IsSome o) c.in-Some.ensures.value refl in
    rows_set (λ q. get is_key c.args.self.now.rows q) (λ q. get is_key (c.get_mut.follows.lender w) q) c.args.key w (λ q. ((c.get_mut.follows.holds w).3 some).0 q)
    ∙ ap (λ (v : Value). written ((c.args.key, v) ∷ []) (rows_of c.args.self.now)) c.put_value.ensures

pub returns-clause-room : goal.returns-clause-room
returns-clause-room c = let same = (c.get_mut.follows.holds c.put_value.new.place).6 in omega (arith, same)
