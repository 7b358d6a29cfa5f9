use Rattle.std.proofs.Common.{ℕ, ◌+◌, ◌≡◌, List, [], refl, sym, ap, subst, ◌∙◌, Option}
use Rattle.std.specs.Prelude.{Some, None, slice_get, slice_set}
use Rattle.tau_core.specs.State.{Plain}
use Rattle.tau_rule.specs.Heads.{left_by, split_off}
use Rattle.tau_rule.specs.Rule.{has, manager_role}
use Rattle.tau_rule.specs.Steps.{Sat}
use Rattle.tau_desk.specs.Seats.{IsHead, IsManagerSeat, PlainHead}
use Rattle.tau_desk.specs.Shares.{PlainStock}
use Rattle.tau_desk.proofs.SplittingOff.{head_less_manager, manager_off}
use Rattle.tau_desk.proofs.desk.Desk.split_manager.Goals as goal
use Rattle.tau_desk.proofs.JoiningIn.{same_origin}

pub part_off-seat-requires-clause-there : goal.part_off-seat-requires-clause-there
part_off-seat-requires-clause-there c =
    let desk = c.args.self.now in
    let key = desk.table.shared.key.value in
    let h = c.head.invariant in
    let head = c.head.inside in
    let v = c.head.view_is in
    let a : h.origin ≡ key = same_origin head.seat.me.0.opened h.origin key h.opened (ap (λ (p : PlainHead). p.me.0.opened) v ∙ c.requires.opened) in
    let l : desk.load ≡ key.load = desk.same_load in
    let s : desk.streams ≡ key.load.streams = desk.streams_are.0 in
    let j = c.args.stream in
    let e : slice_get head.managers.items j ≡ Some (Some c.take_stock-stock.result) = c.take_stock-stock.ensures.taken in
    let g = h.manager j c.take_stock-stock.result e in
    let at : desk.load.workers + j ≡ manager_role h.origin.load j = (λ i. (l i).workers + j) ∙ sym (ap (λ (p : Plain). manager_role p.load j) a) in
    (g.role, ap (λ (n : ℕ). has n head.seat.me.0) at ∙ g.is)

pub invariant_of-head : goal.invariant_of-head
invariant_of-head c =
    let desk = c.args.self.now in
    let key = desk.table.shared.key.value in
    let h = c.head.invariant in
    let head = c.head.inside in
    let v = c.head.view_is in
    let a : h.origin ≡ key = same_origin head.seat.me.0.opened h.origin key h.opened (ap (λ (p : PlainHead). p.me.0.opened) v ∙ c.requires.opened) in
    let l : desk.load ≡ key.load = desk.same_load in
    let s : desk.streams ≡ key.load.streams = desk.streams_are.0 in
    let j = c.args.stream in
    let e : slice_get head.managers.items j ≡ Some (Some c.take_stock-stock.result) = c.take_stock-stock.ensures.taken in
    let g = h.manager j c.take_stock-stock.result e in
    let at : desk.load.workers + j ≡ manager_role h.origin.load j = (λ i. (l i).workers + j) ∙ sym (ap (λ (p : Plain). manager_role p.load j) a) in
    let me : c.part_off-seat.new.seat.me ≡ (left_by (manager_role h.origin.load j) head.seat.me.0, []) = c.part_off-seat.ensures.parted.0 ∙ (λ i. (left_by (at i) head.seat.me.0, h.none i)) in
    subst (λ (z : Sat × List (Option PlainStock)). IsHead z.0 head.workers.items z.1 head.clerk head.seen) (λ i. (sym me i, sym c.take_stock-stock.ensures.left i))
    (head_less_manager head.seat.me head.workers.items head.managers.items head.clerk head.seen h j g.stock.there)

pub invariant_of-result : goal.invariant_of-result
invariant_of-result c =
    let desk = c.args.self.now in
    let key = desk.table.shared.key.value in
    let h = c.head.invariant in
    let head = c.head.inside in
    let v = c.head.view_is in
    let a : h.origin ≡ key = same_origin head.seat.me.0.opened h.origin key h.opened (ap (λ (p : PlainHead). p.me.0.opened) v ∙ c.requires.opened) in
    let l : desk.load ≡ key.load = desk.same_load in
    let s : desk.streams ≡ key.load.streams = desk.streams_are.0 in
    let j = c.args.stream in
    let e : slice_get head.managers.items j ≡ Some (Some c.take_stock-stock.result) = c.take_stock-stock.ensures.taken in
    let g = h.manager j c.take_stock-stock.result e in
    let at : desk.load.workers + j ≡ manager_role h.origin.load j = (λ i. (l i).workers + j) ∙ sym (ap (λ (p : Plain). manager_role p.load j) a) in
    let me : c.part_off-seat.result.me ≡ (split_off (manager_role h.origin.load j) head.seat.me.0, []) = c.part_off-seat.ensures.parted.1 ∙ (λ i. (split_off (at i) head.seat.me.0, [])) in
    subst (λ (z : Sat). IsManagerSeat z j c.take_stock-stock.result head.seen) (sym me) (manager_off head.seat.me head.workers.items head.managers.items head.clerk head.seen h j c.take_stock-stock.result e)

pub returns : goal.returns
returns c =
    let desk = c.args.self.now in
    let key = desk.table.shared.key.value in
    let h = c.head.invariant in
    let head = c.head.inside in
    let v = c.head.view_is in
    let a : h.origin ≡ key = same_origin head.seat.me.0.opened h.origin key h.opened (ap (λ (p : PlainHead). p.me.0.opened) v ∙ c.requires.opened) in
    let l : desk.load ≡ key.load = desk.same_load in
    let s : desk.streams ≡ key.load.streams = desk.streams_are.0 in
    let j = c.args.stream in
    let own = c.part_off-seat.ensures.own in
    let parted = c.part_off-seat.ensures.parted in
    let at : desk.load.workers + j ≡ manager_role key.load j = (λ i. (l i).workers + j) in
    record {
      split = record {
        split = record {
          head_is = parted.0 ∙ (λ i. (left_by (at i) (v i).me.0, h.none i));
          new_is = parted.1 ∙ (λ i. (split_off (at i) (v i).me.0, []));
        };
        left = λ i. record { table_id = (own.0 ∙ ap (λ (p : PlainHead). p.table_id) v) i; id = (own.1 ∙ ap (λ (p : PlainHead). p.id) v) i; me = c.part_off-seat.new.seat.me; workers = (v i).workers; managers = (c.take_stock-stock.ensures.left ∙ ap (λ (p : PlainHead). slice_set p.managers j None) v) i; clerk = (v i).clerk; seen = (v i).seen };
        table = own.2 ∙ ap (λ (p : PlainHead). p.table_id) v;
        stream = refl;
        stock = ap (λ (p : PlainHead). slice_get p.managers j) (sym v) ∙ c.take_stock-stock.ensures.taken;
        seen = ap (λ (p : PlainHead). p.seen) v;
      };
    }
