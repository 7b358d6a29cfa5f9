-- One more write counts after the others.
use Rattle.std.proofs.Common.{[], ◌∷◌, ap, ◌∙◌, List}
use Rattle.tau_base.specs.declared.value.Key.{Key}
use Rattle.tau_base.specs.declared.value.Value.{Value}
use Rattle.tau_follow.specs.Renewing.{after}
use Rattle.tau_follow.proofs.Renewing.{after_more}
use Rattle.tau_follow.proofs.renew.note.Goals as goal

pub returns-in-Ok : goal.returns-in-Ok
returns-in-Ok c = λ db. ap (λ (l : List (Key × Value)). after l db) c.in-Ok.ensures.items ∙ after_more c.args.writes.now.items ((c.args.key, c.args.value) ∷ []) db
