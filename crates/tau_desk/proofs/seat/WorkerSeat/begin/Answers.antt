use Rattle.std.proofs.Common.{◌≡◌, ap, ◌∙◌, arith}
use Rattle.std.specs.Prelude.{None}
use Rattle.tau_core.specs.State.{Plain}
use Rattle.tau_desk.proofs.CallBegins.{seat_begins}
use Rattle.tau_desk.proofs.seat.WorkerSeat.begin.Goals as goal

pub invariant_of-self : goal.invariant_of-self
invariant_of-self c =
    let origin : Plain = c.args.desk.now.table.shared.key.value in
    let rests : c.self.inside.work.txn.hand ≡ None = ap (λ v. v.work.txn.hand) c.self.view_is ∙ c.requires.rests in
    let low = c.requires.room in
    let spare = ap (λ v. v.work.spare.1) c.self.view_is in
    seat_begins origin c.self.inside.seat.me c.self.inside.worker c.self.inside.work c.begin_next.new.work (c.self.inside.anchor, c.self.inside.anchor_lv) c.self.inside.seen c.begin_next.result
    (ap (λ v. v.me.0.opened) c.self.view_is ∙ c.requires.opened) c.self.invariant c.requires.run.stands.sound.workers_low rests (omega (arith, low, spare)) c.begin_next.ensures.begins c.begin_next.ensures.roomy c.begin_next.ensures.runs
