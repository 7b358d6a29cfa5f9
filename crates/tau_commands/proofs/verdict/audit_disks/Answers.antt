use Rattle.std.proofs.Common.{subst}
use Rattle.tau_inspect.specs.Audit.{case_of}
use Rattle.tau_commands.specs.Auditing.{AuditTells, TellsVerdict}
use Rattle.tau_commands.specs.Outside.{Output, Wrote}
use Rattle.tau_commands.specs.Recovery.{images_of}
use Rattle.tau_commands.proofs.Verdicts.{audit_free, audit_tells, is_case}
use Rattle.tau_commands.proofs.First.{refused_of, refused_read, text_read, told_of}
use Rattle.tau_commands.proofs.verdict.audit_disks.Goals as goal

pub tell_verdict-requires : goal.tell_verdict-requires
tell_verdict-requires g c = is_case c.args.streams c.args.workers c.args.load.now c.args.report.now c.in-Ok.log c.requires.workers c.requires.read c.in-Ok.ensures.gives.sound c.in-Ok.ensures.gives.width

pub returns-in-Ok-clause-read : goal.returns-in-Ok-clause-read
returns-in-Ok-clause-read g c =
    let o : Output = record { hears = g.K.Sink.tells; held = g.K.Sink.held c.args.sink.now; held' = g.K.Sink.held c.tell_verdict.new.sink; faults = g.K.Sink.faults c.args.sink.now; faults' = g.K.Sink.faults c.tell_verdict.new.sink } in
    text_read g.D.Disk o c.args.disks.now c.scan_first.new.disks c.args.streams c.in-Ok.log c.tell_verdict.result c.in-Ok.ensures c.tell_verdict.ensures.kind c.tell_verdict.ensures.write_fault
    (λ e. subst (λ s. TellsVerdict (case_of c.args.load.now c.args.workers c.args.report.now c.in-Ok.log) (Wrote g.K.Sink.tells (g.K.Sink.held c.args.sink.now) (g.K.Sink.held c.tell_verdict.new.sink)) s) e c.tell_verdict.ensures.told)

pub returns-in-Ok-clause-tells : goal.returns-in-Ok-clause-tells
returns-in-Ok-clause-tells g c =
    let o : Output = record { hears = g.K.Sink.tells; held = g.K.Sink.held c.args.sink.now; held' = g.K.Sink.held c.tell_verdict.new.sink; faults = g.K.Sink.faults c.args.sink.now; faults' = g.K.Sink.faults c.tell_verdict.new.sink } in
    told_of g.D.Disk o c.args.disks.now c.scan_first.new.disks c.args.streams (AuditTells c.args.workers c.args.load.now c.args.report.now) c.in-Ok.log c.tell_verdict.result c.in-Ok.ensures c.tell_verdict.ensures.kind c.tell_verdict.ensures.write_fault
    (λ is. audit_tells c.args.workers c.args.load.now c.args.report.now (images_of g.D.Disk.seen c.args.disks.now c.args.streams) (Wrote o.hears o.held o.held') c.in-Ok.log is c.tell_verdict.result c.tell_verdict.ensures.told)

pub returns-in-Err-clause-read : goal.returns-in-Err-clause-read
returns-in-Err-clause-read g c =
    let o : Output = record { hears = g.K.Sink.tells; held = g.K.Sink.held c.args.sink.now; held' = g.K.Sink.held c.refuse_scan.new.sink; faults = g.K.Sink.faults c.args.sink.now; faults' = g.K.Sink.faults c.refuse_scan.new.sink } in
    refused_read g.D.Disk o c.args.disks.now c.scan_first.new.disks c.args.streams c.in-Err.refusal c.refuse_scan.result c.in-Err.ensures c.refuse_scan.ensures

pub returns-in-Err-clause-tells : goal.returns-in-Err-clause-tells
returns-in-Err-clause-tells g c =
    let o : Output = record { hears = g.K.Sink.tells; held = g.K.Sink.held c.args.sink.now; held' = g.K.Sink.held c.refuse_scan.new.sink; faults = g.K.Sink.faults c.args.sink.now; faults' = g.K.Sink.faults c.refuse_scan.new.sink } in
    refused_of g.D.Disk o c.args.disks.now c.scan_first.new.disks c.args.streams (AuditTells c.args.workers c.args.load.now c.args.report.now)
    (audit_free c.args.workers c.args.load.now c.args.report.now (images_of g.D.Disk.seen c.args.disks.now c.args.streams) (Wrote o.hears o.held o.held')) c.in-Err.refusal c.refuse_scan.result c.in-Err.ensures c.refuse_scan.ensures
