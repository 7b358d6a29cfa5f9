-- The seat stays as it is until it has the turn.
use Rattle.std.proofs.Common.{◌≡◌}
use Rattle.tau_desk.proofs.desk.Desk.look_for.Given as goal

abbrev pub invariant-loop : goal.invariant-loop
invariant-loop l = (l.seat.table_id ≡ l.initial.seat.table_id) × (l.seat.id ≡ l.initial.seat.id) × (l.seat.me ≡ l.initial.seat.me)
