-- It is noted as a value.
use Rattle.std.proofs.Common.{◌≡◌, ◌∷◌, [], subst}
use Rattle.std.specs.Prelude.{OnOk}
use Rattle.tau_base.specs.Database.{written}
use Rattle.tau_base.specs.declared.value.Value.{Value}
use Rattle.tau_follow.specs.Renewing.{after}
use Rattle.tau_follow.proofs.renew.note_number.Goals as goal

pub returns : goal.returns
returns c = λ db. subst (λ (v : Value). OnOk c.note.result (after c.note.new.writes.items db ≡ written ((c.args.number.now.0, v) ∷ []) (after c.args.writes.now.items db))) c.value_of.ensures (c.note.ensures db)
