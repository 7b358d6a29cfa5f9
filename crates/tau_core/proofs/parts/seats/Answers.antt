use Rattle.std.proofs.Common.{◌+◌, ◌≡◌, List, [], ◌∷◌, ◌++◌, sym, subst, rules}
use Rattle.tau_core.specs.Plain.{PlainSeat}
use Rattle.tau_core.specs.Opens.{AreSeats}
use Rattle.tau_core.proofs.Pushes.{seats_more}
use Rattle.tau_core.proofs.parts.seats.Goals as goal

pub loop-worker-preserved : goal.loop-worker-preserved
loop-worker-preserved c =
    let more : c.push.new.self.items ≡ c.loop-worker.all.items ++ c.seat.result ∷ [] = search rules in
    subst (λ (l : List PlainSeat). AreSeats (c.loop-worker.worker + 1) c.args.streams c.args.mode l) (sym more)
    (seats_more c.loop-worker.worker c.args.streams c.args.mode c.loop-worker.all.items c.seat.result c.loop-worker.invariant c.seat.ensures)
