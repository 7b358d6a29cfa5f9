-- One more disk is read.
use Rattle.std.proofs.Common.{ℕ, List, ◌+◌, ◌<◌, ◌∙◌, length, get_or, sym, subst, arith}
use Rattle.std.proofs.lemmas.Result.{err_from_is_err_and}
use Rattle.tau_disk.specs.Used.{RoseAt, IsFirstStopped}
use Rattle.tau_commands.proofs.SlotReading.{all_read, failed_is, rose_here, stops_here}
use Rattle.std.proofs.Math.ListN.{set}
use Rattle.std.proofs.lemmas.Option.{slice_get-get_or}
use Rattle.tau_scan.proofs.Disks.{IsReading, reading_on, each_on}
use Rattle.tau_scan.proofs.Plans.{going_on}
use Rattle.tau_commands.proofs.slots.read_slots.Goals as goal

pub loop-j-preserved : goal.loop-j-preserved
loop-j-preserved g c =
    let low : c.loop-j.j < length c.loop-j.disks = omega (arith, c.loop-j-test.true, c.loop-j.invariant.reading.many) in
    let at = slice_get-get_or c.loop-j.disks c.loop-j.j c.index-disks-j.result low in
    record {
      reading =
          subst (λ (xs : List (List ℕ)). IsReading g.D.Disk.tells g.D.Disk.seen g.D.Disk.may_leave g.D.Disk.moment g.D.Disk.may_leave_since g.D.Disk.faults g.D.Disk.number g.D.Disk.fails c.args.disks.now (set c.loop-j.disks c.loop-j.j c.read_slot.new.disk) (c.loop-j.j + 1) xs) (sym c.in_ok-push.ensures.ok)
          (reading_on g.D.Disk.tells g.D.Disk.seen g.D.Disk.may_leave g.D.Disk.moment g.D.Disk.may_leave_since g.D.Disk.faults g.D.Disk.number g.D.Disk.fails c.args.disks.now c.loop-j.disks c.loop-j.j c.loop-j.images
          (get_or c.loop-j.disks c.loop-j.j c.index-disks-j.result) c.read_slot.new.disk c.of.result c.loop-j.invariant.reading low at c.read_slot.ensures.only_read (λ t. c.of.ensures ∙ c.in_ok-image.ensures.bytes t));
      going = going_on g.D.Disk.number g.D.Disk.fails g.D.Disk.tells g.D.Disk.short c.args.disks.now c.loop-j.disks c.loop-j.j (get_or c.loop-j.disks c.loop-j.j c.index-disks-j.result) c.read_slot.new.disk c.loop-j.invariant.going low at
          (λ t. c.in_ok-image.ensures.went t) c.in_ok-image.ensures.calls;
    }

pub returns-in_err-push-clause-only_read : goal.returns-in_err-push-clause-only_read
returns-in_err-push-clause-only_read g c =
    let low : c.loop-j.j < length c.loop-j.disks = omega (arith, c.loop-j-test.true, c.loop-j.invariant.reading.many) in
    each_on g.D.Disk.tells g.D.Disk.seen g.D.Disk.may_leave g.D.Disk.moment g.D.Disk.may_leave_since g.D.Disk.faults g.D.Disk.number g.D.Disk.fails c.args.disks.now c.loop-j.disks c.loop-j.j c.loop-j.images
    (get_or c.loop-j.disks c.loop-j.j c.index-disks-j.result) c.read_slot.new.disk c.loop-j.invariant.reading low
    (slice_get-get_or c.loop-j.disks c.loop-j.j c.index-disks-j.result low) c.read_slot.ensures.only_read

pub returns-in_err-image-clause-only_read : goal.returns-in_err-image-clause-only_read
returns-in_err-image-clause-only_read g c =
    let low : c.loop-j.j < length c.loop-j.disks = omega (arith, c.loop-j-test.true, c.loop-j.invariant.reading.many) in
    each_on g.D.Disk.tells g.D.Disk.seen g.D.Disk.may_leave g.D.Disk.moment g.D.Disk.may_leave_since g.D.Disk.faults g.D.Disk.number g.D.Disk.fails c.args.disks.now c.loop-j.disks c.loop-j.j c.loop-j.images
    (get_or c.loop-j.disks c.loop-j.j c.index-disks-j.result) c.read_slot.new.disk c.loop-j.invariant.reading low
    (slice_get-get_or c.loop-j.disks c.loop-j.j c.index-disks-j.result low) c.read_slot.ensures.only_read

pub returns-in_err-image-clause-failed : goal.returns-in_err-image-clause-failed
returns-in_err-image-clause-failed g c j e =
    let low : c.loop-j.j < length c.loop-j.disks = omega (arith, c.loop-j-test.true, c.loop-j.invariant.reading.many) in
    let p = err_from_is_err_and c.from_residual.result c.from_residual.ensures.1 in
    let (is, rose) = c.in_err-image.ensures.failed j (failed_is c.from_residual.result p.0 c.in_err-image.field-0.0 j p.1 p.2 e) in
    subst (λ (i : ℕ). RoseAt g.D.Disk.faults c.args.disks.now (set c.loop-j.disks c.loop-j.j c.read_slot.new.disk) i) (sym is)
    (rose_here g.D.Disk.faults c.args.disks.now c.loop-j.disks c.loop-j.j (get_or c.loop-j.disks c.loop-j.j c.index-disks-j.result) c.read_slot.new.disk (c.loop-j.invariant.reading.rest c.loop-j.j (omega arith)) low
    (slice_get-get_or c.loop-j.disks c.loop-j.j c.index-disks-j.result low) rose)

pub returns-in_err-image-clause-low : goal.returns-in_err-image-clause-low
returns-in_err-image-clause-low g c j e =
    let p = err_from_is_err_and c.from_residual.result c.from_residual.ensures.1 in
    let (is, rose) = c.in_err-image.ensures.failed j (failed_is c.from_residual.result p.0 c.in_err-image.field-0.0 j p.1 p.2 e) in
    omega (arith, is, c.loop-j-test.true, c.loop-j.invariant.reading.many)

pub returns-in_err-image-clause-stopped : goal.returns-in_err-image-clause-stopped
returns-in_err-image-clause-stopped g c j e =
    let low : c.loop-j.j < length c.loop-j.disks = omega (arith, c.loop-j-test.true, c.loop-j.invariant.reading.many) in
    let p = err_from_is_err_and c.from_residual.result c.from_residual.ensures.1 in
    let named = failed_is c.from_residual.result p.0 c.in_err-image.field-0.0 j p.1 p.2 e in
    let is = c.in_err-image.ensures.failed j named in
    subst (λ (i : ℕ). g.D.Disk.tells → IsFirstStopped g.D.Disk.tells g.D.Disk.number g.D.Disk.fails g.D.Disk.short c.args.disks.now (set c.loop-j.disks c.loop-j.j c.read_slot.new.disk) i) (sym is.0)
    (stops_here g.D.Disk.number g.D.Disk.fails g.D.Disk.tells g.D.Disk.short c.args.disks.now c.loop-j.disks c.loop-j.j c.loop-j.invariant.going (get_or c.loop-j.disks c.loop-j.j c.index-disks-j.result) c.read_slot.new.disk low
    (slice_get-get_or c.loop-j.disks c.loop-j.j c.index-disks-j.result low) (c.in_err-image.ensures.stopped j named))

pub returns-clause-calls : goal.returns-clause-calls
returns-clause-calls g c = all_read g.D.Disk.number g.D.Disk.fails g.D.Disk.tells g.D.Disk.short c.args.disks.now c.loop-j.disks c.loop-j.j c.loop-j.invariant.going (omega (arith, c.loop-j-test.false, c.loop-j.invariant.reading.many))
