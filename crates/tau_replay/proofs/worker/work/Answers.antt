-- The worker begins with nothing in flight, and steps for the same hands to the end.
use Rattle.std.proofs.Common.{refl, arith}
use Rattle.tau_replay.proofs.Crews.{spare_for, went_length}
use Rattle.tau_replay.proofs.worker.work.Goals as goal

pub loop-init : goal.loop-init
loop-init g c = record {
  own = refl;
  of_log = refl;
  stands = spare_for c.args.first c.args.many c.args.seat.me c.requires.spare;
  tasks = c.in-Ok.ensures;
  busy = omega arith;
  room = omega arith;
}

pub returns-in-Stop-clause-workers : goal.returns-in-Stop-clause-workers
returns-in-Stop-clause-workers g c = went_length c.args.first c.args.many c.args.seat.me c.step.new.seat.me (spare_for c.args.first c.args.many c.args.seat.me c.requires.spare) c.step.ensures.went.stands
