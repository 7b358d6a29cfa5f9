use Rattle.std.proofs.Common.{sym, subst, ◌∙◌}
use Rattle.tau_core.specs.State.{Plain}
use Rattle.tau_core.specs.View.{core_of}
use Rattle.tau_core.specs.Parts.{Shows}
use Rattle.tau_core.proofs.Rested.{shown_apart}
use Rattle.tau_core.proofs.top.Core.into_parts.Goals as goal

pub returns-clause-shown : goal.returns-clause-shown
returns-clause-shown c = λ K h g. subst (λ (x : Plain). Shows x (core_of c.args.self h) h.taken) (sym (c.parts_of.ensures ∙ c.self.view_is)) (shown_apart c.args.self K h g)
