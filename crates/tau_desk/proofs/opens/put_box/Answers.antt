use Rattle.std.proofs.Common.{sym, ◌∙◌}
use Rattle.tau_desk.proofs.opens.put_box.Goals as goal

pub returns : goal.returns
returns c = (_, c.in_ok-push.ensures.items, λ x e f. (e ∙ sym c.in_ok-outbox.ensures.ok, f ∙ sym c.in_ok-pending.ensures.ok))
