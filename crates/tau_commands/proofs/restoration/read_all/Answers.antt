use Rattle.std.proofs.Common.{ℕ, ◌≡◌, sym, ap, subst, ◌∙◌}
use Rattle.std.specs.Prelude.{Err, Result}
use Rattle.tau_disk.specs.Used.{OnlyRead}
use Rattle.tau_scan.specs.Outside.{calls_to_read}
use Rattle.tau_commands.specs.declared.slots.Found.{Found}
use Rattle.tau_commands.specs.declared.status.Status.{Status}
use Rattle.tau_commands.specs.Finding.{ReadsAll, WasReadWhole}
use Rattle.tau_commands.proofs.Found.{no_log, slot_stops}
use Rattle.tau_commands.proofs.Recoveries.{clean_of}
use Rattle.tau_commands.proofs.SlotReading.{each_only}
use Rattle.tau_commands.proofs.restoration.read_all.Goals as goal
use Rattle.tau_commands.proofs.restoration.read_all.Goals.{in-Err, in-Ok-read_slots}

pub returns-after-read_slots : goal.returns-after-read_slots
returns-after-read_slots g c =
    let bad = rw c.in-Err-Bad.field-0-is at c.in-Err-Bad.is in
    let read = rw c.in-Err-Bad.field-0-is at c.in-Err-Bad.ensures.read in
    let calls = c.scan_streams.ensures.calls_bad c.in-Err-Bad.fault bad in
    let slots = each_only g.D.Disk.tells g.D.Disk.seen g.D.Disk.may_leave g.D.Disk.moment g.D.Disk.may_leave_since g.D.Disk.faults g.D.Disk.number g.D.Disk.fails c.args.slots.now c.read_slots.new.disks c.read_slots.ensures.only_read in
    elim c.match-read_slots.branch [
      | in-Err w ↦
          subst (λ (r : Result Found Status). ReadsAll g.D.Disk c.args.streams c.args.front.now c.scan_streams.new.disks c.args.slots.now c.read_slots.new.disks r) (sym (w.result-is ∙ ap (λ (s : Status). Err s) w.slot_status.ensures))
          (slot_stops g.D.Disk (OnlyRead g.D.Disk.tells g.D.Disk.seen g.D.Disk.may_leave g.D.Disk.moment g.D.Disk.may_leave_since) (WasReadWhole g.D.Disk) c.args.streams c.args.front.now c.scan_streams.new.disks c.args.slots.now c.read_slots.new.disks
          c.scan_streams.ensures.only_read c.scan_streams.ensures.untouched slots
          (clean_of g.D.Disk.tells g.D.Disk.number g.D.Disk.fails g.D.Disk.short calls_to_read c.args.front.now c.scan_streams.new.disks c.args.streams calls) w.in-Err.refusal
          (λ j e. let is = w.in-Err.is ∙ ap (λ r. Err r) e in (c.read_slots.ensures.failed j is, c.read_slots.ensures.stopped j is)))
      | in-Ok-read_slots w ↦
          subst (λ (r : Result Found Status). ReadsAll g.D.Disk c.args.streams c.args.front.now c.scan_streams.new.disks c.args.slots.now c.read_slots.new.disks r) (sym w.result-is)
          (no_log g.D.Disk (OnlyRead g.D.Disk.tells g.D.Disk.seen g.D.Disk.may_leave g.D.Disk.moment g.D.Disk.may_leave_since) (WasReadWhole g.D.Disk) c.args.streams c.args.front.now c.scan_streams.new.disks c.args.slots.now c.read_slots.new.disks
          c.scan_streams.ensures.only_read c.scan_streams.ensures.untouched slots c.in-Err-Bad.fault calls w.in-Ok-read_slots.ensures.calls read)
    ]

pub returns-in-Err-read_slots : goal.returns-in-Err-read_slots
returns-in-Err-read_slots g c =
    let slots = each_only g.D.Disk.tells g.D.Disk.seen g.D.Disk.may_leave g.D.Disk.moment g.D.Disk.may_leave_since g.D.Disk.faults g.D.Disk.number g.D.Disk.fails c.args.slots.now c.read_slots-in-Ok.new.disks c.read_slots-in-Ok.ensures.only_read in
    subst (λ (s : Status). ReadsAll g.D.Disk c.args.streams c.args.front.now c.scan_streams.new.disks c.args.slots.now c.read_slots-in-Ok.new.disks (Err s)) (sym c.slot_status-in-Err-read_slots.ensures)
    (slot_stops g.D.Disk (OnlyRead g.D.Disk.tells g.D.Disk.seen g.D.Disk.may_leave g.D.Disk.moment g.D.Disk.may_leave_since) (WasReadWhole g.D.Disk) c.args.streams c.args.front.now c.scan_streams.new.disks c.args.slots.now c.read_slots-in-Ok.new.disks
    c.scan_streams.ensures.only_read c.scan_streams.ensures.untouched slots
    (clean_of g.D.Disk.tells g.D.Disk.number g.D.Disk.fails g.D.Disk.short calls_to_read c.args.front.now c.scan_streams.new.disks c.args.streams c.in-Ok.ensures.calls) c.in-Err-read_slots.refusal
    (λ j e. let is = c.in-Err-read_slots.is ∙ ap (λ r. Err r) e in (c.read_slots-in-Ok.ensures.failed j is, c.read_slots-in-Ok.ensures.stopped j is)))
