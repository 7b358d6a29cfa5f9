-- What the machine has written is written.
use Rattle.std.proofs.Common.{ap, ◌∙◌, List}
use Rattle.tau_base.specs.Database.{written}
use Rattle.tau_base.specs.declared.value.Key.{Key}
use Rattle.tau_base.specs.declared.value.Value.{Value}
use Rattle.tau_model.specs.Store.{database}
use Rattle.tau_follow.proofs.redo.run.Goals as goal

pub returns-in-Ok-clause-ok : goal.returns-in-Ok-clause-ok
returns-in-Ok-clause-ok c = c.in-Ok.ensures.ok ∙ ap (λ (l : List (Key × Value)). written l (database c.args.store.now)) (c.writes.ensures.same ∙ c.finish.ensures)
