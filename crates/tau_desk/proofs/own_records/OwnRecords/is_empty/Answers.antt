use Rattle.std.proofs.Common.{sym, ap, ◌∙◌}
use Rattle.std.proofs.lemmas.Bool.{eqb-true}
use Rattle.tau_desk.proofs.OwnCount.{counted_empty}
use Rattle.tau_desk.proofs.own_records.OwnRecords.is_empty.Goals as goal

pub returns-clause-none : goal.returns-clause-none
returns-clause-none c = λ zero. sym (ap (λ o. o.pieces) c.self.view_is) ∙ counted_empty c.self.inside.bytes c.self.inside.outbox.pieces c.self.invariant (eqb-true c.self.inside.bytes 0 zero)
