use Rattle.std.proofs.Common.{◌≡◌, false}
use Rattle.tau_desk.specs.Looks.{LooksOver}
use Rattle.tau_desk.specs.Manages.{SeesOn}
use Rattle.tau_desk.proofs.seat.ManagerSeat.persisted_all.Given as goal

abbrev pub invariant-loop-stream : goal.invariant-loop-stream
invariant-loop-stream l = record {
  sees : SeesOn l.initial.self.me l.self.me l.initial.self.seen l.self.seen;
  rest : l.self ≡ record l.initial.self { me = l.self.me; seen = l.self.seen };
  none : l.rose ≡ false → l.self.seen ≡ l.initial.self.seen;
  looks : LooksOver l.desk.table.shared.key.value l.initial.self.me.0 l.stream l.initial.self.seen l.self.seen l.rose;
}
