use Rattle.std.proofs.Common.{subst, sym}
use Rattle.tau_desk.specs.Seats.{PlainManagerSeat}
use Rattle.tau_crew.specs.Driving.{KeepsSeat}
use Rattle.tau_crew.proofs.Anchoring.{keeps_anchored, keeps_room}
use Rattle.tau_crew.proofs.anchor.anchor.Goals as goal

pub returns-clause-keeps : goal.returns-clause-keeps
returns-clause-keeps g c =
    subst (λ (s : PlainManagerSeat). KeepsSeat c.args.seat.now s) (sym c.publish.ensures.same)
    (keeps_anchored c.args.desk.now.table.shared.key.value.load c.args.seat.now c.reserve.new.self c.place_anchor.new.self c.place_anchor.result (keeps_room c.args.seat.now c.reserve.new.self c.reserve.ensures.kept) c.place_anchor.ensures.placed c.place_anchor.ensures.same)
