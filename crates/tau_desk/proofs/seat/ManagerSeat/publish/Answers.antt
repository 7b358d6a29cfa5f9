use Rattle.std.proofs.Common.{◌≡◌, ◌+◌, ◌-◌, inr, arith, length, ℕ, List, None, [], ◌∷◌, ap, sym, subst, ◌∙◌, refl}
use Rattle.std.specs.Prelude.{Some, slice_get, slice_index}
use Rattle.tau_core.specs.declared.state.Load.{Load}
use Rattle.tau_core.specs.Pieces.{Names}
use Rattle.tau_core.specs.State.{Plain}
use Rattle.tau_core.proofs.Lists.{member_got}
use Rattle.tau_rule.specs.Rule.{anchor_part, manager_role}
use Rattle.tau_rule.specs.Steps.{Agrees, Sat}
use Rattle.tau_rule.specs.declared.part.Part.TheVariants as part
use Rattle.tau_rule.proofs.Turns.{one_role}
use Rattle.tau_rule.proofs.Gives.{one_origin}
use Rattle.tau_desk.specs.Shares.{IsStock}
use Rattle.tau_desk.specs.Seats.{PlainManagerSeat}
use Rattle.tau_desk.specs.Visits.{Publishes}
use Rattle.tau_desk.proofs.Publishing.{anchor_same, named_most, was_named}
use Rattle.tau_desk.proofs.Taking.{at_key}
use Rattle.tau_desk.proofs.seat.ManagerSeat.publish.Goals as goal

pub take_anchor-before-requires-clause-role : goal.take_anchor-before-requires-clause-role
take_anchor-before-requires-clause-role g c =
    let h = c.self.invariant in
    (manager_role h.origin.load c.self.inside.stream, h.role, one_role c.self.inside.seat.me.0 (manager_role h.origin.load c.self.inside.stream) h.role h.roles)

pub give_published-requires-clause-event : goal.give_published-requires-clause-event
give_published-requires-clause-event g c =
    let h = c.self.invariant in
    let key : Plain = c.args.desk.now.table.shared.key.value in
    let same : h.origin ≡ key = one_origin h.origin key (sym h.opened ∙ ap (λ s. s.me.0.opened) c.self.view_is ∙ c.requires.opened) in
    let s = subst (λ (p : Plain). IsStock p.load c.self.inside.stream h.role c.self.inside.stock) same h.stock in
    let held = c.take_anchor-before.ensures.held in
    let newest = c.in-Some.ensures.newest in
    let vector : List ℕ = c.newest_in-lv.result.value in
    let i : ℕ = length c.self.inside.stock.anchors - 1 in
    let wide : length vector ≡ key.load.streams = s.wide vector (member_got c.self.inside.stock.anchors i vector c.newest_in-lv.ensures.newest) in
    let first : slice_index c.as_slice.result.now c.self.inside.stream ≡ slice_index key.load.opening.anchors.items c.self.inside.stream =
    ap (λ (l : List ℕ). slice_index l c.self.inside.stream) c.as_slice.ensures.value ∙ ap (λ (l : Load). slice_index l.opening.anchors.items c.self.inside.stream) c.args.desk.now.same_load in
    let number : c.in-Some.newest ≡ slice_index key.load.opening.anchors.items c.self.inside.stream + i + 1 = (let n = newest.2 in let some = newest.1 in omega (arith, n, some, first)) in
    let named : Names key.load c.self.inside.stream s.managed.anchors c.in-Some.newest vector = inr (i, number, ap (λ (l : List (List ℕ)). slice_get l i) s.anchors ∙ c.newest_in-lv.ensures.newest) in
    record {
      taken = held.0;
      role = h.role;
      managed = s.managed;
      before = (c.take_anchor-before.result.0, c.take_anchor-before.result.1.value);
      opened = ap (λ (x : Sat). x.0.opened) held.1 ∙ ap (λ s. s.me.0.opened) c.self.view_is ∙ c.requires.opened;
      held = ap (λ (x : Sat). x.0.hand) held.1 ∙ ap (λ (n : ℕ). Some (n, held.0)) c.anchor_number-number.ensures;
      carried = ap (λ (x : Sat). x.1) held.1 ∙ ap (λ (n : ℕ). (n, None) ∷ []) c.anchor_number-number.ensures;
      roles = ap (λ (x : Sat). x.0.roles) held.1 ∙ h.roles ∙ ap (λ (p : Plain). (manager_role p.load c.self.inside.stream, h.role) ∷ []) same;
      share = s.share;
      there = s.there;
      was = held.2;
      newer = newest.0;
      named = named;
      wide = wide;
    }

pub give_back-requires-clause-same : goal.give_back-requires-clause-same
give_back-requires-clause-same g c =
    let h = c.self.invariant in
    let held = c.take_anchor-before.ensures.held in record {
      taken = held.0;
      number = manager_role h.origin.load c.self.inside.stream;
      role = h.role;
      held = ap (λ (x : Sat). x.0.hand) held.1;
      carried = ap (λ (x : Sat). x.1) held.1;
      roles = ap (λ (x : Sat). x.0.roles) held.1 ∙ h.roles;
      same = anchor_same c.args.desk.now.table.shared.key.value c.anchor_number-number.result held.0 (part.Anchor c.take_anchor-before.result.0 c.take_anchor-before.result.1) (c.take_anchor-before.result.0, c.take_anchor-before.result.1.value) held.2 refl;
    }

pub returns-in-Some-clause-publishes : goal.returns-in-Some-clause-publishes
returns-in-Some-clause-publishes g c =
    let h = c.self.invariant in
    let key : Plain = c.args.desk.now.table.shared.key.value in
    let opened = ap (λ s. s.me.0.opened) c.self.view_is ∙ c.requires.opened in
    let held = c.take_anchor-before.ensures.held in
    let agrees : Agrees key c.self.inside.seat.me.0 (anchor_part key.load c.self.inside.stream) held.0 = subst (λ (n : ℕ). Agrees key c.self.inside.seat.me.0 n held.0) c.anchor_number-number.ensures held.3 in
    let first : slice_index c.as_slice.result.now c.self.inside.stream ≡ slice_index key.load.opening.anchors.items c.self.inside.stream =
    ap (λ (l : List ℕ). slice_index l c.self.inside.stream) c.as_slice.ensures.value ∙ ap (λ (l : Load). slice_index l.opening.anchors.items c.self.inside.stream) c.args.desk.now.same_load in
    let s : PlainManagerSeat = record { table_id = c.self.inside.seat.table_id; id = c.self.inside.seat.id; me = c.self.inside.seat.me; stream = c.self.inside.stream; stock = c.self.inside.stock; seen = c.self.inside.seen } in
    let newest = c.in-Some.ensures.newest in
    let vector : List ℕ = c.newest_in-lv.result.value in
    let i : ℕ = length c.self.inside.stock.anchors - 1 in
    let number : c.in-Some.newest ≡ slice_index key.load.opening.anchors.items c.self.inside.stream + i + 1 = (let n = newest.2 in let some = newest.1 in omega (arith, n, some, first)) in
    let all : Publishes key s = record {
      part_taken = held.0;
      agrees = agrees;
      before = (c.take_anchor-before.result.0, c.take_anchor-before.result.1.value);
      was = held.2;
      after = (c.in-Some.newest, vector);
      up = (let a = newest.0 in omega (arith, a));
      named = inr (i, number, c.newest_in-lv.ensures.newest);
      newest = λ some. (let n = newest.2 in omega (arith, n, first));
    } in
    subst (λ (z : PlainManagerSeat). Publishes key z) c.self.view_is all

pub returns-in-None-clause-publishes : goal.returns-in-None-clause-publishes
returns-in-None-clause-publishes g c =
    let h = c.self.invariant in
    let key : Plain = c.args.desk.now.table.shared.key.value in
    let opened = ap (λ s. s.me.0.opened) c.self.view_is ∙ c.requires.opened in
    let held = c.take_anchor-before.ensures.held in
    let agrees : Agrees key c.self.inside.seat.me.0 (anchor_part key.load c.self.inside.stream) held.0 = subst (λ (n : ℕ). Agrees key c.self.inside.seat.me.0 n held.0) c.anchor_number-number.ensures held.3 in
    let first : slice_index c.as_slice.result.now c.self.inside.stream ≡ slice_index key.load.opening.anchors.items c.self.inside.stream =
    ap (λ (l : List ℕ). slice_index l c.self.inside.stream) c.as_slice.ensures.value ∙ ap (λ (l : Load). slice_index l.opening.anchors.items c.self.inside.stream) c.args.desk.now.same_load in
    let s : PlainManagerSeat = record { table_id = c.self.inside.seat.table_id; id = c.self.inside.seat.id; me = c.self.inside.seat.me; stream = c.self.inside.stream; stock = c.self.inside.stock; seen = c.self.inside.seen } in
    let before : ℕ × List ℕ = (c.take_anchor-before.result.0, c.take_anchor-before.result.1.value) in
    let named = was_named key c.self.inside.seat.me c.self.inside.stream c.self.inside.stock (at_key c.self.inside.seat.me c.self.inside.stream c.self.inside.stock c.self.inside.seen key h opened) held.0 before held.2 agrees in
    let most = named_most key.load c.self.inside.stream c.self.inside.stock.anchors before.0 before.1 named in
    let all : Publishes key s = record {
      part_taken = held.0;
      agrees = agrees;
      before = before;
      was = held.2;
      after = before;
      up = omega arith;
      named = named;
      newest = λ some. (let least = c.in-None.ensures.none some in omega (arith, most, least, first));
    } in
    subst (λ (z : PlainManagerSeat). Publishes key z) c.self.view_is all
