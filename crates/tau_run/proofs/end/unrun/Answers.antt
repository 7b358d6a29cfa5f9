use Rattle.std.proofs.Common.{◌∙◌, ◌++◌, ◌∷◌, [], List, ap}
use Rattle.std.proofs.lemmas.List.{replicate-append-replicate}
use Rattle.tau_report.specs.declared.report.Fate.{Fate}
use Rattle.tau_report.specs.declared.report.Fate.TheVariants.{Unrun}
use Rattle.tau_run.proofs.end.unrun.Goals as goal

pub loop-preserved : goal.loop-preserved
loop-preserved c = c.in_ok-push.ensures.items ∙ ap (λ (f : Fate). c.loop.fates.items ++ f ∷ []) c.unrun.ensures ∙ ap (λ (l : List Fate). l ++ Unrun ∷ []) c.loop.invariant ∙ replicate-append-replicate c.loop.counter 1 Unrun
