use Rattle.tau_disk.specs.Disk.{Rose}
use Rattle.tau_commands.specs.Outside.{Wrote}
use Rattle.tau_commands.proofs.Answering.{fed_badly}
use Rattle.tau_commands.proofs.follower.feed_text.Goals as goal

pub returns : goal.returns
returns g c =
    let failed = rw c.in-Err-Bad.field-0-is at c.in-Err-Bad.is in
    fed_badly c.args.streams c.args.text.now (Wrote g.K.Sink.tells (g.K.Sink.held c.args.sink.now) (g.K.Sink.held c.refuse_after.new.sink)) (Rose (g.K.Sink.faults c.args.sink.now) (g.K.Sink.faults c.refuse_after.new.sink))
    c.follow_text.new.lines.items c.in-Err-Bad.fault c.refuse_after.result (λ pieces are. c.follow_text.ensures.bad pieces c.in-Err-Bad.fault are failed) c.refuse_after.ensures
