use Rattle.tau_disk.specs.Disk.{Rose}
use Rattle.tau_commands.specs.Outside.{Input, Output}
use Rattle.tau_commands.proofs.Audited.{says_read, says_unread}
use Rattle.tau_commands.proofs.verdict.audit.Goals as goal

pub returns-in-Ok : goal.returns-in-Ok
returns-in-Ok g c =
    let s : Input = record { tells = g.S.Source.tells; left = g.S.Source.left c.args.source.now; left' = g.S.Source.left c.read_case.new.source; rose = Rose (g.S.Source.faults c.args.source.now) (g.S.Source.faults c.read_case.new.source) } in
    let o : Output = record { hears = g.K.Sink.tells; held = g.K.Sink.held c.args.sink.now; held' = g.K.Sink.held c.audit_disks.new.sink; faults = g.K.Sink.faults c.args.sink.now; faults' = g.K.Sink.faults c.audit_disks.new.sink } in
    let said = says_read s c.args.streams c.args.workers g.D.Disk o c.read_case.ensures.source c.requires.high c.in-Ok.load c.in-Ok.report c.in-Ok.ensures.case c.args.disks.now c.audit_disks.new.disks c.audit_disks.result c.audit_disks.ensures.read c.audit_disks.ensures.tells in
    record { source = said.source; ends = said.ends; of = said.of }

pub returns-in-Err : goal.returns-in-Err
returns-in-Err g c =
    let s : Input = record { tells = g.S.Source.tells; left = g.S.Source.left c.args.source.now; left' = g.S.Source.left c.read_case.new.source; rose = Rose (g.S.Source.faults c.args.source.now) (g.S.Source.faults c.read_case.new.source) } in
    let o : Output = record { hears = g.K.Sink.tells; held = g.K.Sink.held c.args.sink.now; held' = g.K.Sink.held c.refuse.new.sink; faults = g.K.Sink.faults c.args.sink.now; faults' = g.K.Sink.faults c.refuse.new.sink } in
    let said = says_unread s c.args.streams c.args.workers g.D.Disk o c.read_case.ensures.source c.args.disks.now c.in-Err.refusal c.refuse.result c.in-Err.ensures.case c.refuse.ensures in
    record { source = said.source; ends = said.ends; of = said.of }
