use Rattle.std.proofs.Common.{◌∙◌}
use Rattle.tau_model.proofs.KeptCalls.{calls_count}
use Rattle.tau_model.proofs.committed_list.CommittedList.len.Goals as goal

pub returns : goal.returns
returns c =
    c.len.ensures ∙ c.self.inside.heads.ok.0
    ∙ calls_count c.self.inside.texts.items c.self.inside.heads.items c.self.inside.deps.items c.args.self.now.items c.self.invariant.same (λ i. (c.self.view_is i).items)
