use Rattle.std.proofs.Common.{ℕ, ◌≡◌, List, [], length, refl, sym, ap, subst, ◌∙◌}
use Rattle.std.specs.Prelude.{Some, slice_set}
use Rattle.tau_base.specs.Vectors.{join}
use Rattle.tau_core.specs.State.{Plain}
use Rattle.tau_rule.specs.Heads.{both}
use Rattle.tau_rule.specs.Steps.{Sat}
use Rattle.tau_desk.specs.Seats.{IsHead, PlainHead, PlainWorkerSeat}
use Rattle.tau_desk.specs.Shares.{IsWork, PlainWork}
use Rattle.tau_desk.proofs.JoiningIn.{head_and_worker, same_origin}
use Rattle.tau_desk.proofs.desk.Desk.join_worker.Goals as goal

pub invariant_of-head : goal.invariant_of-head
invariant_of-head c =
    let key = c.args.self.now.table.shared.key.value in
    let h = c.head.invariant in
    let s = c.seat.invariant in
    let head = c.head.inside in
    let seat = c.seat.inside in
    let v = c.head.view_is in
    let z = c.seat.view_is in
    let a : h.origin ≡ key = same_origin head.seat.me.0.opened h.origin key h.opened (ap (λ (p : PlainHead). p.me.0.opened) v ∙ c.requires.opened.0) in
    let b : s.origin ≡ key = same_origin seat.seat.me.0.opened s.origin key s.seat.opened (ap (λ p. p.me.0.opened) z ∙ c.requires.opened.1) in
    let same : s.origin ≡ h.origin = b ∙ sym a in
    let wide : length seat.seen ≡ h.origin.load.streams = s.seen_wide ∙ ap (λ (p : Plain). p.load.streams) same in
    let me : c.take_in.new.seat.me ≡ (both head.seat.me.0 seat.seat.me.0, []) = c.take_in.ensures.joined ∙ (λ i. (both head.seat.me.0 seat.seat.me.0, h.none i)) in
    let work = subst (λ (p : Plain). IsWork p.load seat.worker s.role c.args.seat.work) same (subst (λ (y : PlainWorkerSeat). IsWork s.origin.load seat.worker s.role y.work) z s.work) in
    let w : ℕ = seat.worker in
    subst (λ (y : Sat × PlainWork × List ℕ). IsHead y.0 (slice_set head.workers.items w (Some y.1)) head.managers.items head.clerk y.2) (λ i. (sym me i, sym (ap (λ (y : PlainWorkerSeat). y.work) z) i, sym c.raise.ensures i))
    (head_and_worker head.seat.me head.workers.items head.managers.items head.clerk head.seen h seat.seat.me seat.seen s.seen_is wide w s.role s.seat.roles w c.args.seat.work refl work c.requires.posted)

pub returns : goal.returns
returns c =
    let key = c.args.self.now.table.shared.key.value in
    let h = c.head.invariant in
    let s = c.seat.invariant in
    let head = c.head.inside in
    let seat = c.seat.inside in
    let v = c.head.view_is in
    let z = c.seat.view_is in
    let own = c.take_in.ensures.own in
    let me : c.take_in.new.seat.me ≡ (both c.args.head.now.me.0 c.args.seat.me.0, []) = c.take_in.ensures.joined ∙ (λ i. (both (v i).me.0 (z i).me.0, h.none i)) in
    record {
      joined = λ i. record {
        table_id = (own.0 ∙ ap (λ (p : PlainHead). p.table_id) v) i;
        id = (own.1 ∙ ap (λ (p : PlainHead). p.id) v) i;
        me = me i;
        workers = slice_set (v i).workers (z i).worker (Some (z i).work);
        managers = (v i).managers;
        clerk = (v i).clerk;
        seen = (c.raise.ensures ∙ (λ k. join (v k).seen (z k).seen)) i;
      };
    }
