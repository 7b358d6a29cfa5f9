use Rattle.std.proofs.Common.{List, subst}
use Rattle.tau_model.specs.History.{Act}
use Rattle.tau_machine.specs.Hands.{Txn}
use Rattle.tau_core.specs.State.{Plain, plain}
use Rattle.tau_core.specs.View.{Hidden}
use Rattle.tau_core.specs.Stands.{Stands}
use Rattle.tau_core.specs.LeftOvers.{ResumeSteps}
use Rattle.tau_core.proofs.LeftBack.{resume_steps, resume_stood}
use Rattle.tau_core.proofs.top.Core.resume.Goals as goal

pub invariant_of-self : goal.invariant_of-self
invariant_of-self c =
    let g = c.self.invariant in
    resume_stood (plain c.self.inside.state) (plain c.resume.new.state) g.0 g.1 c.resume.result (resume_steps (plain c.self.inside.state) (plain c.resume.new.state) g.0 g.1 g.2 c.resume.result c.resume.ensures)

pub returns : goal.returns
returns c = subst (λ (p : Plain). (K : List (Act Txn)) (h : Hidden) → Stands p K h → ResumeSteps p (plain c.resume.new.state) K h c.resume.result) c.self.view_is
    (λ K h g. resume_steps (plain c.self.inside.state) (plain c.resume.new.state) K h g c.resume.result c.resume.ensures)
