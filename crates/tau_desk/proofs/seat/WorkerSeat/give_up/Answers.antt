use Rattle.std.proofs.Common.{ap, sym, subst, ◌∙◌}
use Rattle.tau_txn.specs.Txn.{PlainTxn, has_joined}
use Rattle.tau_desk.specs.Seats.{IsWorkerSeat}
use Rattle.tau_desk.specs.Works.{GivesUp}
use Rattle.tau_desk.proofs.WorkerUndoes.{seat_given_up}
use Rattle.tau_desk.proofs.seat.WorkerSeat.give_up.Goals as goal

pub invariant_of-self-2 : goal.invariant_of-self-2
invariant_of-self-2 c =
    let s = subst (λ x. IsWorkerSeat x.seat.me x.worker x.work (x.anchor, x.anchor_lv) x.seen) (sym c.self-inside.view_is) c.self.invariant in
    seat_given_up _ _ _ c.give_back_keys.new.txn _ _ s (ap (λ x. has_joined x.work.txn) c.self-inside.view_is ∙ ap (λ v. has_joined v.work.txn) c.self.view_is ∙ c.requires.unjoined)
    (subst (λ (t : PlainTxn). GivesUp t c.give_back_keys.new.txn) c.deref_mut.ensures.value c.give_back_keys.ensures)
