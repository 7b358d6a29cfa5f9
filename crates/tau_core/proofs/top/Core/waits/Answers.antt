use Rattle.std.proofs.Common.{◌≤◌, ◌<◌, length, sym, subst, Option}
use Rattle.std.specs.Prelude.{◌↔◌, IsTrue, not, slice_get}
use Rattle.tau_core.specs.declared.state.State.{State}
use Rattle.tau_core.specs.Plain.{PlainSeat}
use Rattle.tau_core.specs.State.{Plain}
use Rattle.tau_core.specs.View.{pending_in}
use Rattle.tau_core.proofs.Found.{found_seat}
use Rattle.tau_core.proofs.Waits.{some_wait}
use Rattle.tau_core.proofs.top.Core.waits.Goals as goal

pub returns : goal.returns
returns c = subst (λ (p : Plain). IsTrue (not c.is_empty.result) ↔ (1 ≤ length (pending_in (slice_get p.seats c.args.worker)))) c.self.view_is
    (let s : State = c.self.inside.state in
    let there : c.args.worker < s.load.workers = subst (λ (p : Plain). c.args.worker < p.load.workers) (sym c.self.view_is) c.requires.there in
    let is = found_seat s c.args.worker c.index-seat.result.now c.seat.inside c.self.invariant.2.sound there c.index-seat.ensures c.seat.view_is in
    subst (λ (o : Option PlainSeat). IsTrue (not c.is_empty.result) ↔ (1 ≤ length (pending_in o))) (sym is) (some_wait c.is_empty.result c.seat.inside.pending.calls c.is_empty.ensures))
