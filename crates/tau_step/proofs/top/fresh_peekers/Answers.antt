use Rattle.std.proofs.Common.{◌∙◌, ◌++◌, ◌∷◌, [], List, ap}
use Rattle.std.proofs.lemmas.List.{replicate-append-replicate}
use Rattle.tau_occ.specs.Peeker.{PlainPeeker, blank_peeker}
use Rattle.tau_step.proofs.top.fresh_peekers.Goals as goal

pub loop-preserved : goal.loop-preserved
loop-preserved c =
    c.in_ok-push.ensures.items ∙ ap (λ (q : PlainPeeker). c.loop.peekers.items ++ q ∷ []) c.new.ensures ∙ ap (λ (l : List PlainPeeker). l ++ blank_peeker ∷ []) c.loop.invariant ∙ replicate-append-replicate c.loop.counter 1 blank_peeker
