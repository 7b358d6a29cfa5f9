use Rattle.std.proofs.Common.{ap, subst, sym, ◌∙◌}
use Rattle.tau_core.specs.State.{Plain}
use Rattle.tau_desk.specs.Seats.{IsWorkerSeat}
use Rattle.tau_desk.proofs.GoingOn.{seat_room}
use Rattle.tau_desk.proofs.seat.WorkerSeat.make_room.Goals as goal

pub invariant_of-self : goal.invariant_of-self
invariant_of-self g c =
    let origin : Plain = c.args.desk.now.table.shared.key.value in
    let opened = ap (λ x. x.seat.me.0.opened) c.self-inside.view_is ∙ ap (λ v. v.me.0.opened) c.self.view_is ∙ c.requires.opened in
    let s = subst (λ x. IsWorkerSeat x.seat.me x.worker x.work (x.anchor, x.anchor_lv) x.seen) (sym c.self-inside.view_is) c.self.invariant in
    seat_room origin _ c.make_room.new.seat.me _ _ (c.make_room.new.room.records, c.make_room.new.room.calls) _ _ opened s c.make_room.ensures.step c.make_room.ensures.room.0 c.make_room.ensures.room.1
