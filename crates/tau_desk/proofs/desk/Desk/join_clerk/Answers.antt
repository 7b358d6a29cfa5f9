use Rattle.std.proofs.Common.{ℕ, ◌≡◌, true, List, [], length, sym, ap, subst, ◌∙◌}
use Rattle.tau_base.specs.Vectors.{join}
use Rattle.tau_core.specs.State.{Plain}
use Rattle.tau_rule.specs.Heads.{both}
use Rattle.tau_rule.specs.Rule.{clerk_role, has}
use Rattle.tau_rule.specs.Steps.{Sat}
use Rattle.tau_desk.specs.Seats.{HasClerk, IsHead, PlainHead}
use Rattle.tau_desk.proofs.JoiningIn.{has_own, head_and_clerk, same_origin}
use Rattle.tau_desk.proofs.desk.Desk.join_clerk.Goals as goal

pub invariant_of-head : goal.invariant_of-head
invariant_of-head c =
    let key = c.args.self.now.table.shared.key.value in
    let h = c.head.invariant in
    let s = c.seat.invariant in
    let head = c.head.inside in
    let seat = c.seat.inside in
    let v = c.head.view_is in
    let z = c.seat.view_is in
    let a : h.origin ≡ key = same_origin head.seat.me.0.opened h.origin key h.opened (ap (λ (p : PlainHead). p.me.0.opened) v ∙ c.requires.opened.0) in
    let b : s.origin ≡ key = same_origin seat.seat.me.0.opened s.origin key s.opened (ap (λ p. p.me.0.opened) z ∙ c.requires.opened.1) in
    let same : s.origin ≡ h.origin = b ∙ sym a in
    let wide : length seat.seen ≡ h.origin.load.streams = s.seen_wide ∙ ap (λ (p : Plain). p.load.streams) same in
    let me : c.take_in.new.seat.me ≡ (both head.seat.me.0 seat.seat.me.0, []) = c.take_in.ensures.joined ∙ (λ i. (both head.seat.me.0 seat.seat.me.0, h.none i)) in
    let has_it : HasClerk h.origin seat.seat.me.0 = record {
      role = s.role;
      acked = s.acked;
      is = ap (λ (n : ℕ). has n seat.seat.me.0) (ap (λ (p : Plain). clerk_role p.load) (sym same)) ∙ has_own (clerk_role s.origin.load) s.role seat.seat.me.0 s.roles;
      share = s.share;
      wide = s.wide ∙ ap (λ (p : Plain). p.load.workers) same;
    } in
    subst (λ (y : Sat × List ℕ). IsHead y.0 head.workers.items head.managers.items true y.1) (λ i. (sym me i, sym c.raise.ensures i))
    (head_and_clerk head.seat.me head.workers.items head.managers.items head.clerk head.seen h seat.seat.me seat.seen s.seen_is wide (clerk_role s.origin.load) s.role s.roles (ap (λ (p : Plain). clerk_role p.load) same) has_it)

pub returns : goal.returns
returns c =
    let key = c.args.self.now.table.shared.key.value in
    let h = c.head.invariant in
    let s = c.seat.invariant in
    let head = c.head.inside in
    let seat = c.seat.inside in
    let v = c.head.view_is in
    let z = c.seat.view_is in
    let own = c.take_in.ensures.own in
    let me : c.take_in.new.seat.me ≡ (both c.args.head.now.me.0 c.args.seat.me.0, []) = c.take_in.ensures.joined ∙ (λ i. (both (v i).me.0 (z i).me.0, h.none i)) in
    record {
      joined = λ i. record {
        table_id = (own.0 ∙ ap (λ (p : PlainHead). p.table_id) v) i;
        id = (own.1 ∙ ap (λ (p : PlainHead). p.id) v) i;
        me = me i;
        workers = (v i).workers;
        managers = (v i).managers;
        clerk = true;
        seen = (c.raise.ensures ∙ (λ k. join (v k).seen (z k).seen)) i;
      };
    }
