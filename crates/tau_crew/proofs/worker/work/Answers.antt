use Rattle.tau_crew.proofs.WorkEnds.{ends_run, ends_short, same_then}
use Rattle.tau_crew.proofs.worker.work.Goals as goal

pub returns-in-Ok : goal.returns-in-Ok
returns-in-Ok g c =
    ends_run c.args.desk.now.table.shared.key.value c.args.seat.now c.run_in.new.seat c.agrees.ensures c.agrees-in-Ok.ensures c.requires.opened c.requires.rests c.run_in.ensures.works
    c.in-Ok.ensures.rests c.in-Ok.ensures.ended tt

pub returns-in-Err : goal.returns-in-Err
returns-in-Err g c =
    ends_short c.args.desk.now.table.shared.key.value.load c.args.seat.now c.cut_short.new.seat c.agrees-in-Err.ensures
    (same_then c.args.seat.now c.run_in.new.seat c.cut_short.new.seat c.run_in.ensures.works.seat c.cut_short.ensures.seat) c.cut_short.ensures.held c.cut_short.ensures.unjoined c.cut_short.ensures.raised c.in-Err.error
