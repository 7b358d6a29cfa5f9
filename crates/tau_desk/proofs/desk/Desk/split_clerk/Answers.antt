use Rattle.std.proofs.Common.{◌+◌, ◌≡◌, false, [], sym, ap, subst, ◌∙◌}
use Rattle.tau_core.specs.State.{Plain}
use Rattle.tau_rule.specs.Heads.{left_by, split_off}
use Rattle.tau_rule.specs.Rule.{clerk_role}
use Rattle.tau_rule.specs.Steps.{Sat}
use Rattle.tau_desk.specs.Seats.{IsHead, PlainHead}
use Rattle.tau_desk.proofs.SplittingOff.{head_less_clerk}
use Rattle.tau_desk.proofs.desk.Desk.split_clerk.Goals as goal
use Rattle.tau_desk.proofs.JoiningIn.{same_origin}

pub invariant_of-head : goal.invariant_of-head
invariant_of-head c =
    let desk = c.args.self.now in
    let key = desk.table.shared.key.value in
    let h = c.head.invariant in
    let head = c.head.inside in
    let v = c.head.view_is in
    let a : h.origin ≡ key = same_origin head.seat.me.0.opened h.origin key h.opened (ap (λ (p : PlainHead). p.me.0.opened) v ∙ c.requires.opened) in
    let l : desk.load ≡ key.load = desk.same_load in
    let s : desk.streams ≡ key.load.streams = desk.streams_are.0 in
    let at : desk.load.workers + desk.streams ≡ clerk_role h.origin.load = (λ i. (l i).workers + s i) ∙ sym (ap (λ (p : Plain). clerk_role p.load) a) in
    let me : c.part_off-seat.new.seat.me ≡ (left_by (clerk_role h.origin.load) head.seat.me.0, []) = c.part_off-seat.ensures.parted.0 ∙ (λ i. (left_by (at i) head.seat.me.0, h.none i)) in
    subst (λ (z : Sat). IsHead z head.workers.items head.managers.items false head.seen) (sym me) (head_less_clerk head.seat.me head.workers.items head.managers.items head.clerk head.seen h)

pub returns : goal.returns
returns c =
    let desk = c.args.self.now in
    let key = desk.table.shared.key.value in
    let h = c.head.invariant in
    let head = c.head.inside in
    let v = c.head.view_is in
    let a : h.origin ≡ key = same_origin head.seat.me.0.opened h.origin key h.opened (ap (λ (p : PlainHead). p.me.0.opened) v ∙ c.requires.opened) in
    let l : desk.load ≡ key.load = desk.same_load in
    let s : desk.streams ≡ key.load.streams = desk.streams_are.0 in
    let own = c.part_off-seat.ensures.own in
    let parted = c.part_off-seat.ensures.parted in
    let at : desk.load.workers + desk.streams ≡ clerk_role key.load = (λ i. (l i).workers + s i) in
    record {
      split = record {
        split = record {
          head_is = parted.0 ∙ (λ i. (left_by (at i) (v i).me.0, h.none i));
          new_is = parted.1 ∙ (λ i. (split_off (at i) (v i).me.0, []));
        };
        left = λ i. record { table_id = (own.0 ∙ ap (λ (p : PlainHead). p.table_id) v) i; id = (own.1 ∙ ap (λ (p : PlainHead). p.id) v) i; me = c.part_off-seat.new.seat.me; workers = (v i).workers; managers = (v i).managers; clerk = false; seen = (v i).seen };
        table = own.2 ∙ ap (λ (p : PlainHead). p.table_id) v;
        seen = ap (λ (p : PlainHead). p.seen) v;
      };
    }
