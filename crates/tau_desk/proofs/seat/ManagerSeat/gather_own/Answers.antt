use Rattle.std.proofs.Common.{◌≡◌, [], subst, sym, ap, ◌∙◌}
use Rattle.tau_core.specs.State.{Plain}
use Rattle.tau_rule.specs.Rule.{manager_role}
use Rattle.tau_rule.specs.Steps.{Sat}
use Rattle.tau_rule.proofs.Turns.{one_role}
use Rattle.tau_desk.specs.Manages.{told_own}
use Rattle.tau_desk.specs.Seats.{IsManagerSeat}
use Rattle.tau_desk.proofs.Taking.{at_key}
use Rattle.tau_desk.proofs.OwnAnchors.{own_gives, own_small, seat_own}
use Rattle.tau_desk.proofs.seat.ManagerSeat.gather_own.Goals as goal

pub take-part-requires-clause-role : goal.take-part-requires-clause-role
take-part-requires-clause-role g c =
    let h = c.self.invariant in
    (manager_role h.origin.load c.self.inside.stream, h.role, one_role c.self.inside.seat.me.0 (manager_role h.origin.load c.self.inside.stream) h.role h.roles)

pub give_own-requires-clause-event : goal.give_own-requires-clause-event
give_own-requires-clause-event g c =
    let key : Plain = c.args.desk.now.table.shared.key.value in
    let given =
    own_gives key c.self.inside.seat.me c.take-part.new.seat.me c.self.inside.stream c.anchor_number-number.result c.self.inside.stock
    (at_key c.self.inside.seat.me c.self.inside.stream c.self.inside.stock c.self.inside.seen key c.self.invariant (ap (λ s. s.me.0.opened) c.self.view_is ∙ c.requires.opened)) c.take-part.result c.gather_own.new.self.own.pieces
    c.args.body.now.items c.gather_own.new.body.items c.gather_own.new.self.gathered c.anchor_number-number.ensures c.take-part.ensures.held c.in_ok-gather_own.ensures.moved in
    (c.in_ok-gather_own.ensures.moved.taken, given.0, given.1)

pub invariant_of-self-2 : goal.invariant_of-self-2
invariant_of-self-2 g c =
    let knows : c.give_own.new.seat.me ≡ (told_own c.self.inside.seat.me.0 c.gather_own.new.self.own.pieces, []) = c.give_own.ensures.given ∙ ap (λ (m : Sat). (told_own m.0 c.gather_own.new.self.own.pieces, [])) c.take-part.ensures.held in
    subst (λ (m : Sat). IsManagerSeat m c.self.inside.stream c.gather_own.new.self c.self.inside.seen) (sym knows)
    (seat_own c.self.inside.seat.me c.self.inside.stream c.self.inside.stock c.gather_own.new.self c.self.inside.seen c.args.body.now.items c.gather_own.new.body.items c.self.invariant c.in_ok-gather_own.ensures.moved c.in_ok-gather_own.ensures.rest.0
    (own_small c.args.desk.now.table.shared.key.value c.self.inside.seat.me c.self.inside.stream c.anchor_number-number.result c.self.inside.stock
    (at_key c.self.inside.seat.me c.self.inside.stream c.self.inside.stock c.self.inside.seen c.args.desk.now.table.shared.key.value c.self.invariant (ap (λ s. s.me.0.opened) c.self.view_is ∙ c.requires.opened)) c.take-part.result c.gather_own.new.self.own.pieces
    c.args.body.now.items c.gather_own.new.body.items c.gather_own.new.self.gathered c.take-part.ensures.agrees c.in_ok-gather_own.ensures.moved))
