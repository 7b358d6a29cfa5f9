use Rattle.std.proofs.Common.{ap, ◌∙◌}
use Rattle.std.specs.Prelude.{is_some}
use Rattle.tau_desk.proofs.Peeking.{seat_ready}
use Rattle.tau_desk.proofs.seat.WorkerSeat.peek.Goals as goal

pub peek-requires-clause-role : goal.peek-requires-clause-role
peek-requires-clause-role g c = (
  c.self.inside.worker,
  _,
  seat_ready c.args.desk.now.table.shared.key.value c.self.inside.seat.me c.self.inside.worker _ _ _ (ap (λ v. v.me.0.opened) c.self.view_is ∙ c.requires.opened) c.self.invariant (ap (λ v. is_some v.work.txn.hand) c.self.view_is ∙ c.requires.hand),
)
