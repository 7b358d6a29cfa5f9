use Rattle.std.proofs.Common.{ℕ, ◌<◌, ◌≡◌, List, [], length, sym, ap, subst, ◌∙◌, arith}
use Rattle.std.specs.Prelude.{Some, slice_index, slice_set}
use Rattle.tau_base.specs.Vectors.{join}
use Rattle.tau_core.specs.State.{Plain}
use Rattle.tau_rule.specs.Heads.{both_at}
use Rattle.tau_rule.specs.Rule.{manager_role}
use Rattle.tau_rule.specs.Steps.{Sat}
use Rattle.tau_desk.specs.Seats.{IsHead, PlainHead}
use Rattle.tau_desk.specs.Shares.{IsStock}
use Rattle.tau_desk.proofs.JoiningIn.{head_and_manager, join_wide, same_origin}
use Rattle.tau_desk.proofs.desk.Desk.join_manager.Goals as goal

pub invariant_of-head : goal.invariant_of-head
invariant_of-head c =
    let key = c.args.self.now.table.shared.key.value in
    let h = c.head.invariant in
    let s = c.seat.invariant in
    let head = c.head.inside in
    let seat = c.seat.inside in
    let v = c.head.view_is in
    let z = c.seat.view_is in
    let a : h.origin ≡ key = same_origin head.seat.me.0.opened h.origin key h.opened (ap (λ (p : PlainHead). p.me.0.opened) v ∙ c.requires.opened.0) in
    let b : s.origin ≡ key = same_origin seat.seat.me.0.opened s.origin key s.opened (ap (λ p. p.me.0.opened) z ∙ c.requires.opened.1) in
    let same : s.origin ≡ h.origin = b ∙ sym a in
    let wide : length seat.seen ≡ h.origin.load.streams = s.seen_wide ∙ ap (λ (p : Plain). p.load.streams) same in
    let me : c.take_manager.new.seat.me ≡ (both_at seat.stream head.seat.me.0 seat.seat.me.0, []) = c.take_manager.ensures.joined ∙ (λ i. (both_at seat.stream head.seat.me.0 seat.seat.me.0, h.none i)) in
    let j : ℕ = seat.stream in
    let seen : c.set.new.self ≡ slice_set (join head.seen seat.seen) j (slice_index seat.seen j) = c.set.ensures ∙ (λ i. slice_set (c.raise.ensures i) j (c.get-upto.ensures.same i)) in
    let stock = subst (λ (p : Plain). IsStock p.load j s.role seat.stock) same s.stock in
    subst (λ (y : Sat × List ℕ). IsHead y.0 head.workers.items (slice_set head.managers.items j (Some seat.stock)) head.clerk y.1) (λ i. (sym me i, sym seen i))
    (head_and_manager head.seat.me head.workers.items head.managers.items head.clerk head.seen h seat.seat.me seat.seen s.seen_is wide (manager_role s.origin.load j) s.role s.roles j seat.stock (ap (λ (p : Plain). manager_role p.load j) same) stock)

pub returns : goal.returns
returns c =
    let key = c.args.self.now.table.shared.key.value in
    let h = c.head.invariant in
    let s = c.seat.invariant in
    let head = c.head.inside in
    let seat = c.seat.inside in
    let v = c.head.view_is in
    let z = c.seat.view_is in
    let own = c.take_manager.ensures.own in
    let me : c.take_manager.new.seat.me ≡ (both_at c.args.seat.stream c.args.head.now.me.0 c.args.seat.me.0, []) = c.take_manager.ensures.joined ∙ (λ i. (both_at (z i).stream (v i).me.0 (z i).me.0, h.none i)) in
    record {
      joined = λ i. record {
        table_id = (own.0 ∙ ap (λ (p : PlainHead). p.table_id) v) i;
        id = (own.1 ∙ ap (λ (p : PlainHead). p.id) v) i;
        me = me i;
        workers = (v i).workers;
        managers = slice_set (v i).managers (z i).stream (Some (z i).stock);
        clerk = (v i).clerk;
        seen = (c.set.ensures ∙ (λ k. slice_set (c.raise.ensures k) seat.stream (c.get-upto.ensures.same k)) ∙ (λ k. slice_set (join (v k).seen (z k).seen) (z k).stream (slice_index (z k).seen (z k).stream))) i;
      };
    }

pub set-requires-clause-there : goal.set-requires-clause-there
set-requires-clause-there c =
    let h = c.head.invariant in
    let s = c.seat.invariant in
    let head = c.head.inside in
    let seat = c.seat.inside in
    let key = c.args.self.now.table.shared.key.value in
    let a : h.origin ≡ key = same_origin head.seat.me.0.opened h.origin key h.opened (ap (λ (p : PlainHead). p.me.0.opened) c.head.view_is ∙ c.requires.opened.0) in
    let b : s.origin ≡ key = same_origin seat.seat.me.0.opened s.origin key s.opened (ap (λ p. p.me.0.opened) c.seat.view_is ∙ c.requires.opened.1) in
    let same : s.origin ≡ h.origin = b ∙ sym a in
    let there : seat.stream < h.origin.load.streams = subst (λ (p : Plain). seat.stream < p.load.streams) same s.stock.there in
    let theirs : length seat.seen ≡ h.origin.load.streams = s.seen_wide ∙ ap (λ (p : Plain). p.load.streams) same in
    let wide : length (join head.seen seat.seen) ≡ h.origin.load.streams = join_wide head.seen seat.seen h.origin.load.streams h.seen_wide theirs in
    let e : length c.raise.new.self ≡ h.origin.load.streams = ap (length {A = ℕ}) c.raise.ensures ∙ wide in
    omega (arith, e, there)
