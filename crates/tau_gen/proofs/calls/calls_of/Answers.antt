use Rattle.std.proofs.Common.{List, [], ◌∷◌, ◌++◌, sym, ap, ◌∙◌}
use Rattle.tau_base.specs.declared.value.Call.{Call}
use Rattle.tau_gen.specs.Generated.{calls_of}
use Rattle.tau_gen.proofs.Ranges.{calls_more}
use Rattle.tau_gen.proofs.calls.calls_of.Goals as goal

pub loop-i-preserved : goal.loop-i-preserved
loop-i-preserved c =
    c.in_ok-push.ensures.ok ∙ ap (λ (xs : List Call). xs ++ c.call_of.result ∷ []) c.loop-i.invariant ∙ ap (λ (x : Call). calls_of c.args.start c.loop-i.i ++ x ∷ []) c.call_of.ensures ∙ sym (calls_more c.args.start c.loop-i.i)
