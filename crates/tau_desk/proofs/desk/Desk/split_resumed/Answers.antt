use Rattle.std.proofs.Common.{ℕ, length, refl, ap, subst, ◌∙◌}
use Rattle.std.specs.Prelude.{None}
use Rattle.tau_core.specs.declared.state.Load.{Load}
use Rattle.tau_desk.specs.Resumes.{CanGoOn}
use Rattle.tau_desk.specs.Seats.{PlainHead}
use Rattle.tau_desk.proofs.desk.Desk.split_resumed.Goals as goal

pub returns-in-None-clause-split : goal.returns-in-None-clause-split
returns-in-None-clause-split c =
    let count = c.len.ensures ∙ ap (λ (l : Load). length l.calls) c.args.self.now.same_load in
    let none = subst (λ (n : ℕ). CanGoOn n c.head.inside.workers.items None) count c.in-None.ensures in
    (refl, subst (λ (p : PlainHead). CanGoOn (length c.args.self.now.table.shared.key.value.load.calls) p.workers None) c.head.view_is none)
