use Rattle.tau_disk.specs.Streams.{held_by}
use Rattle.tau_engine.proofs.Rehearsed.{heard_now}
use Rattle.tau_engine.proofs.drill.play.Goals as goal

pub returns-clause-told : goal.returns-clause-told
returns-clause-told c = heard_now c.args.streams c.args.workers c.args.load.now c.args.disks.now.items c.rehearse.new.disks.items (held_by c.args.out.now) (held_by c.rehearse.new.sink) c.in_ok-rehearse.ensures.told
