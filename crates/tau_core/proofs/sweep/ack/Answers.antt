use Rattle.std.proofs.Common.{ℕ, Bool, true, false, ◌≡◌, refl}
use Rattle.tau_ack.specs.declared.Waiting.{Waiting}
use Rattle.tau_ack.specs.Pending.{NoneCovered, TakesFirst}
use Rattle.tau_core.specs.State.{Plain, plain}
use Rattle.tau_core.specs.Clerk.{Pends, AckedBy}
use Rattle.tau_core.specs.Answered.{acked_by}
use Rattle.tau_core.proofs.Found.{seat_in, found_seat}
use Rattle.tau_core.proofs.sweep.ack.Goals as goal

module _ (p p' : Plain) (w : ℕ) (q : Pends p w p') (call : Waiting) where
  acked : (found : Bool) → (found ≡ true → TakesFirst p.plv q.seat.pending.calls call q.pending.calls) → (found ≡ false → NoneCovered p.plv q.seat.pending.calls) → (found ≡ false → q.pending.calls ≡ q.seat.pending.calls) →
      AckedBy p w (acked_by found call) p'
  acked true first none same = (q, first refl)
  acked false first none same = (q, none refl, same refl)

pub returns : goal.returns
returns c =
    let is = found_seat c.args.state.now c.args.worker c.index_mut-seat.result.now c.seat.inside c.requires.sound c.requires.there c.index_mut-seat.ensures.value c.seat.view_is in
    acked (plain c.args.state.now) _ c.args.worker (record { seat = seat_in c.seat.inside; pending = c.take_covered_into.new.self; is = is; room = c.take_covered_into.ensures.room; after = refl }) c.take_covered_into.new.taken c.take_covered_into.result
    c.take_covered_into.ensures.first c.take_covered_into.ensures.none c.take_covered_into.ensures.unchanged
