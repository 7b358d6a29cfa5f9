use Rattle.std.proofs.Common.{◌≡◌, ◌+◌, ◌-◌, ◌<◌, ◌^◌, ◌++◌, ℕ, None, [], ◌∷◌, length, refl, subst, sym, ap, ◌∙◌, arith}
use Rattle.std.specs.Prelude.{slice_index}
use Rattle.tau_base.specs.Modes.{format_of}
use Rattle.tau_core.specs.State.{Plain}
use Rattle.tau_rule.specs.Rule.{manager_role}
use Rattle.tau_rule.specs.Steps.{Agrees, Sat, holding, idle}
use Rattle.tau_rule.proofs.Turns.{one_role}
use Rattle.tau_desk.specs.Seats.{IsManagerSeat, PlainManagerSeat}
use Rattle.tau_desk.specs.Manages.{PlacesAnchor, told_anchored}
use Rattle.tau_desk.proofs.Anchored.{anchor_long, own_order, seat_anchored, to_anchor}
use Rattle.tau_desk.proofs.Taking.{at_key, idle_again}
use Rattle.tau_desk.proofs.seat.ManagerSeat.place_anchor.Goals as goal

pub place_anchor-start-requires-clause-anchor : goal.place_anchor-start-requires-clause-anchor
place_anchor-start-requires-clause-anchor g c =
    let key : Plain = c.args.desk.now.table.shared.key.value in
    let h = at_key c.self.inside.seat.me c.self.inside.stream c.self.inside.stock c.self.inside.seen key c.self.invariant (ap (λ s. s.me.0.opened) c.self.view_is ∙ c.requires.opened) in
    let same = Rattle.tau_rule.proofs.Gives.one_origin c.self.invariant.origin key (sym c.self.invariant.opened ∙ ap (λ s. s.me.0.opened) c.self.view_is ∙ c.requires.opened) in
    let streams = c.args.desk.now.streams_are in
    to_anchor key c.self.inside.seat.me c.self.inside.stream c.self.inside.stock h c.self.inside.seen c.in_ok-bytes.bytes.items c.self.invariant.seen_is (c.self.invariant.seen_wide ∙ ap (λ (p : Plain). p.load.streams) same)
    (let a = streams.0 in let b = streams.2 in omega (arith, a, b)) (c.in_ok-bytes.ensures (format_of key.load.mode))
    (subst (λ (s : PlainManagerSeat). slice_index key.load.opening.anchors.items s.stream + length s.stock.anchors < 2 ^ 32 - 1) (sym c.self.view_is) c.requires.few)

pub take-part-requires-clause-role : goal.take-part-requires-clause-role
take-part-requires-clause-role g c =
    let h = seat_anchored c.self.inside.seat.me c.self.inside.stream c.self.inside.stock (record c.self.inside.stock { anchors = c.self.inside.stock.anchors ++ c.self.inside.seen ∷ []; own = record c.self.inside.stock.own { pieces = c.self.inside.stock.own.pieces ++ record { start = c.place_anchor-start.result; bytes = c.in_ok-bytes.bytes.items } ∷ [] } })
    c.self.inside.seen c.in_ok-bytes.bytes.items c.place_anchor-start.result c.self.invariant (record { anchors = refl; pieces = refl; gathered = refl }) in
    (manager_role h.origin.load c.self.inside.stream, h.role, one_role c.place_anchor-start.new.seat.me.0 (manager_role h.origin.load c.self.inside.stream) h.role (ap (λ (m : Sat). m.0.roles) c.place_anchor-start.ensures.placed ∙ h.roles))

pub put-requires-clause-order : goal.put-requires-clause-order
put-requires-clause-order g c =
    let key : Plain = c.args.desk.now.table.shared.key.value in
    let h = at_key c.self.inside.seat.me c.self.inside.stream c.self.inside.stock c.self.inside.seen key c.self.invariant (ap (λ s. s.me.0.opened) c.self.view_is ∙ c.requires.opened) in
    let agrees : Agrees key (told_anchored c.self.inside.seat.me.0 c.in_ok-bytes.bytes.items c.place_anchor-start.result) c.anchor_number-number.result c.take-part.result =
    subst (λ (m : Sat). Agrees key m.0 c.anchor_number-number.result c.take-part.result) c.place_anchor-start.ensures.placed c.take-part.ensures.agrees in
    own_order key c.self.inside.seat.me c.self.inside.stream c.anchor_number-number.result c.self.inside.stock h c.in_ok-bytes.bytes.items c.place_anchor-start.result c.take-part.result agrees

pub put-requires-clause-some : goal.put-requires-clause-some
put-requires-clause-some g c =
    let key : Plain = c.args.desk.now.table.shared.key.value in
    let same = Rattle.tau_rule.proofs.Gives.one_origin c.self.invariant.origin key (sym c.self.invariant.opened ∙ ap (λ s. s.me.0.opened) c.self.view_is ∙ c.requires.opened) in
    let wide : length c.self.inside.seen ≡ key.load.streams = c.self.invariant.seen_wide ∙ ap (λ (p : Plain). p.load.streams) same in
    let streams = c.args.desk.now.streams_are in
    let some = (anchor_long (format_of key.load.mode) (length c.self.inside.seen) c.self.inside.seen c.in_ok-bytes.bytes.items (let a = streams.0 in let b = streams.2 in omega (arith, a, b, wide)) (c.in_ok-bytes.ensures (format_of key.load.mode) [])).0 in
    let o = c.in_ok-bytes.bytes.ok in
    omega (arith, some, o)

pub give_back-requires-clause-same : goal.give_back-requires-clause-same
give_back-requires-clause-same g c =
    let h = seat_anchored c.self.inside.seat.me c.self.inside.stream c.self.inside.stock c.put.new.self c.self.inside.seen c.in_ok-bytes.bytes.items c.place_anchor-start.result c.self.invariant c.put.ensures.puts in
    let held = c.take-part.ensures.held in record {
      taken = c.take-part.result;
      number = manager_role h.origin.load c.self.inside.stream;
      role = h.role;
      held = ap (λ (x : Sat). x.0.hand) held;
      carried = ap (λ (x : Sat). x.1) held;
      roles = ap (λ (x : Sat). x.0.roles) held ∙ ap (λ (m : Sat). m.0.roles) c.place_anchor-start.ensures.placed ∙ h.roles;
      same = λ s p. p;
    }

pub invariant_of-self : goal.invariant_of-self
invariant_of-self g c =
    let m' : Sat = (told_anchored c.self.inside.seat.me.0 c.in_ok-bytes.bytes.items c.place_anchor-start.result, c.self.inside.seat.me.1) in
    let knows : c.give_back.new.seat.me ≡ m' =
    c.give_back.ensures.given ∙ ap (λ (m : Sat). (idle m.0, [])) c.take-part.ensures.held ∙ ap (λ (m : Sat). (idle (holding c.anchor_number-number.result m.0 c.take-part.result), [])) c.place_anchor-start.ensures.placed
    ∙ idle_again c.anchor_number-number.result m' c.take-part.result c.self.invariant.idle c.self.invariant.none in
    subst (λ (m : Sat). IsManagerSeat m c.self.inside.stream c.put.new.self c.self.inside.seen) (sym knows)
    (seat_anchored c.self.inside.seat.me c.self.inside.stream c.self.inside.stock c.put.new.self c.self.inside.seen c.in_ok-bytes.bytes.items c.place_anchor-start.result c.self.invariant c.put.ensures.puts)

pub returns-clause-placed : goal.returns-clause-placed
returns-clause-placed g c =
    let key : Plain = c.args.desk.now.table.shared.key.value in
    let same = Rattle.tau_rule.proofs.Gives.one_origin c.self.invariant.origin key (sym c.self.invariant.opened ∙ ap (λ s. s.me.0.opened) c.self.view_is ∙ c.requires.opened) in
    let wide : length c.self.inside.seen ≡ key.load.streams = c.self.invariant.seen_wide ∙ ap (λ (p : Plain). p.load.streams) same in
    let m' : Sat = (told_anchored c.self.inside.seat.me.0 c.in_ok-bytes.bytes.items c.place_anchor-start.result, c.self.inside.seat.me.1) in
    let knows : c.give_back.new.seat.me ≡ (told_anchored c.self.inside.seat.me.0 c.in_ok-bytes.bytes.items c.place_anchor-start.result, []) =
    c.give_back.ensures.given ∙ ap (λ (m : Sat). (idle m.0, [])) c.take-part.ensures.held ∙ ap (λ (m : Sat). (idle (holding c.anchor_number-number.result m.0 c.take-part.result), [])) c.place_anchor-start.ensures.placed
    ∙ idle_again c.anchor_number-number.result m' c.take-part.result c.self.invariant.idle c.self.invariant.none ∙ ap (λ l. (told_anchored c.self.inside.seat.me.0 c.in_ok-bytes.bytes.items c.place_anchor-start.result, l)) c.self.invariant.none in
    let back = c.give_back.ensures.own in
    let took = c.take-part.ensures.own in
    let placed = c.place_anchor-start.ensures.own in
    let s : PlainManagerSeat = record { table_id = c.self.inside.seat.table_id; id = c.self.inside.seat.id; me = c.self.inside.seat.me; stream = c.self.inside.stream; stock = c.self.inside.stock; seen = c.self.inside.seen } in
    let s' : PlainManagerSeat = record { table_id = c.give_back.new.seat.table_id; id = c.give_back.new.seat.id; me = c.give_back.new.seat.me; stream = c.self.inside.stream; stock = c.put.new.self; seen = c.self.inside.seen } in
    let all : PlacesAnchor key.load s s' = record {
      bytes = c.in_ok-bytes.bytes.items;
      start = c.place_anchor-start.result;
      spelled = λ vectors. subst (λ (n : ℕ). Rattle.tau_record.specs.Record.Spells (format_of key.load.mode) n vectors Rattle.std.proofs.Common.false (Rattle.tau_record.specs.declared.entry.Entry.TheVariants.Anchor c.self.inside.seen) c.in_ok-bytes.bytes.items) wide (c.in_ok-bytes.ensures (format_of key.load.mode) vectors);
      small = (let a = c.place_anchor-start.ensures.small in let o = c.in_ok-bytes.bytes.ok in omega (arith, a, o));
      puts = c.put.ensures.puts;
      after = λ i. record s { table_id = (back.0 ∙ took.0 ∙ placed.0) i; id = (back.1 ∙ took.1 ∙ placed.1) i; me = knows i; stock = c.put.new.self };
    } in
    subst (λ (z : PlainManagerSeat). PlacesAnchor key.load z s') c.self.view_is all
