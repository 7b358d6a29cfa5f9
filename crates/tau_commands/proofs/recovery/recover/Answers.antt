use Rattle.std.proofs.Common.{subst}
use Rattle.tau_commands.specs.Outside.{Output, Wrote}
use Rattle.tau_commands.specs.Recovery.{LogTells}
use Rattle.tau_commands.proofs.First.{refused_read, log_read, refused_redone, log_redone}
use Rattle.tau_commands.proofs.recovery.recover.Goals as goal

pub returns-in-Ok-clause-read : goal.returns-in-Ok-clause-read
returns-in-Ok-clause-read g c =
    let o : Output = record { hears = g.K.Sink.tells; held = g.K.Sink.held c.args.sink.now; held' = g.K.Sink.held c.tell_log.new.sink; faults = g.K.Sink.faults c.args.sink.now; faults' = g.K.Sink.faults c.tell_log.new.sink } in
    log_read g.D.Disk o c.args.disks.now c.scan_first.new.disks c.args.streams c.in-Ok.log c.tell_log.result c.in-Ok.ensures c.tell_log.ensures.kind c.tell_log.ensures.no_disk c.tell_log.ensures.refusal c.tell_log.ensures.write_fault
    (λ e. subst (λ s. LogTells c.in-Ok.log (Wrote g.K.Sink.tells (g.K.Sink.held c.args.sink.now) (g.K.Sink.held c.tell_log.new.sink)) s) e c.tell_log.ensures.told)

pub returns-in-Ok-clause-of : goal.returns-in-Ok-clause-of
returns-in-Ok-clause-of g c =
    let o : Output = record { hears = g.K.Sink.tells; held = g.K.Sink.held c.args.sink.now; held' = g.K.Sink.held c.tell_log.new.sink; faults = g.K.Sink.faults c.args.sink.now; faults' = g.K.Sink.faults c.tell_log.new.sink } in
    log_redone g.D.Disk o c.args.disks.now c.scan_first.new.disks c.args.streams c.in-Ok.log c.tell_log.result c.in-Ok.ensures c.tell_log.ensures.told c.tell_log.ensures.tangled c.tell_log.ensures.write_fault c.tell_log.ensures.kind c.tell_log.ensures.no_disk

pub returns-in-Err-clause-read : goal.returns-in-Err-clause-read
returns-in-Err-clause-read g c =
    let o : Output = record { hears = g.K.Sink.tells; held = g.K.Sink.held c.args.sink.now; held' = g.K.Sink.held c.refuse_scan.new.sink; faults = g.K.Sink.faults c.args.sink.now; faults' = g.K.Sink.faults c.refuse_scan.new.sink } in
    refused_read g.D.Disk o c.args.disks.now c.scan_first.new.disks c.args.streams c.in-Err.refusal c.refuse_scan.result c.in-Err.ensures c.refuse_scan.ensures

pub returns-in-Err-clause-of : goal.returns-in-Err-clause-of
returns-in-Err-clause-of g c =
    let o : Output = record { hears = g.K.Sink.tells; held = g.K.Sink.held c.args.sink.now; held' = g.K.Sink.held c.refuse_scan.new.sink; faults = g.K.Sink.faults c.args.sink.now; faults' = g.K.Sink.faults c.refuse_scan.new.sink } in
    refused_redone g.D.Disk o c.args.disks.now c.scan_first.new.disks c.args.streams c.in-Err.refusal c.refuse_scan.result c.in-Err.ensures c.refuse_scan.ensures
