use Rattle.std.proofs.Common.{subst}
use Rattle.tau_inspect.specs.Inspection.{inspect_text}
use Rattle.tau_commands.specs.Inspecting.{InspectTells, TellsText}
use Rattle.tau_commands.specs.Outside.{Output, Wrote}
use Rattle.tau_commands.specs.Recovery.{images_of}
use Rattle.tau_commands.proofs.First.{inspect_free, inspect_tells, inspects, refused_of, refused_read, text_read, told_of}
use Rattle.tau_commands.proofs.inspection.inspect.Goals as goal

pub returns-in-Ok-clause-read : goal.returns-in-Ok-clause-read
returns-in-Ok-clause-read g c =
    let o : Output = record { hears = g.K.Sink.tells; held = g.K.Sink.held c.args.sink.now; held' = g.K.Sink.held c.tell_records.new.sink; faults = g.K.Sink.faults c.args.sink.now; faults' = g.K.Sink.faults c.tell_records.new.sink } in
    text_read g.D.Disk o c.args.disks.now c.scan_first.new.disks c.args.streams c.in-Ok.log c.tell_records.result c.in-Ok.ensures c.tell_records.ensures.kind c.tell_records.ensures.write_fault
    (λ e. subst (λ s. TellsText (inspect_text c.in-Ok.log) (Wrote g.K.Sink.tells (g.K.Sink.held c.args.sink.now) (g.K.Sink.held c.tell_records.new.sink)) s) e c.tell_records.ensures.told)

pub returns-in-Ok-clause-of : goal.returns-in-Ok-clause-of
returns-in-Ok-clause-of g c =
    let o : Output = record { hears = g.K.Sink.tells; held = g.K.Sink.held c.args.sink.now; held' = g.K.Sink.held c.tell_records.new.sink; faults = g.K.Sink.faults c.args.sink.now; faults' = g.K.Sink.faults c.tell_records.new.sink } in
    inspects g.D.Disk o c.args.disks.now c.scan_first.new.disks c.args.streams c.tell_records.result
    (told_of g.D.Disk o c.args.disks.now c.scan_first.new.disks c.args.streams InspectTells c.in-Ok.log c.tell_records.result c.in-Ok.ensures c.tell_records.ensures.kind c.tell_records.ensures.write_fault
    (λ is. inspect_tells (images_of g.D.Disk.seen c.args.disks.now c.args.streams) (Wrote o.hears o.held o.held') c.in-Ok.log is c.tell_records.result c.tell_records.ensures.told))

pub returns-in-Err-clause-read : goal.returns-in-Err-clause-read
returns-in-Err-clause-read g c =
    let o : Output = record { hears = g.K.Sink.tells; held = g.K.Sink.held c.args.sink.now; held' = g.K.Sink.held c.refuse_scan.new.sink; faults = g.K.Sink.faults c.args.sink.now; faults' = g.K.Sink.faults c.refuse_scan.new.sink } in
    refused_read g.D.Disk o c.args.disks.now c.scan_first.new.disks c.args.streams c.in-Err.refusal c.refuse_scan.result c.in-Err.ensures c.refuse_scan.ensures

pub returns-in-Err-clause-of : goal.returns-in-Err-clause-of
returns-in-Err-clause-of g c =
    let o : Output = record { hears = g.K.Sink.tells; held = g.K.Sink.held c.args.sink.now; held' = g.K.Sink.held c.refuse_scan.new.sink; faults = g.K.Sink.faults c.args.sink.now; faults' = g.K.Sink.faults c.refuse_scan.new.sink } in
    inspects g.D.Disk o c.args.disks.now c.scan_first.new.disks c.args.streams c.refuse_scan.result
    (refused_of g.D.Disk o c.args.disks.now c.scan_first.new.disks c.args.streams InspectTells (inspect_free (images_of g.D.Disk.seen c.args.disks.now c.args.streams) (Wrote o.hears o.held o.held')) c.in-Err.refusal c.refuse_scan.result c.in-Err.ensures c.refuse_scan.ensures)
