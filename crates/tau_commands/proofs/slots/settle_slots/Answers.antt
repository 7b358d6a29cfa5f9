-- One more disk is synced and read.
use Rattle.std.proofs.Common.{ℕ, ◌<◌, ◌∙◌, List, [], ◌∷◌, ◌++◌, length, map, take, get_or, sym, ap, subst, arith, length-append}
use Rattle.std.proofs.Math.ListN.{set}
use Rattle.std.proofs.lemmas.Option.{slice_get-get_or}
use Rattle.std.proofs.lemmas.Result.{err_from_is_err_and}
use Rattle.tau_disk.proofs.Places.{get_dropped}
use Rattle.tau_disk.proofs.Stages.{staged_more}
use Rattle.tau_scan.specs.Outside.{StopsSettling}
use Rattle.tau_scan.proofs.Disks.{taken_more}
use Rattle.tau_scan.proofs.Settling.{SettledAt, synced_at, stops_at}
use Rattle.tau_commands.proofs.SlotReading.{failed_is}
use Rattle.tau_commands.proofs.slots.settle_slots.Goals as goal

pub settle_slot-requires : goal.settle_slot-requires
settle_slot-requires g c t =
    let lt : c.loop-j.j < length c.loop-j.disks = omega (arith, c.loop-j-test.true, c.loop-j.invariant.settled.many, c.requires.many) in
    let here = slice_get-get_or c.loop-j.disks c.loop-j.j c.index-disks-j.result lt in
    c.requires.lengths c.loop-j.j (get_or c.loop-j.disks c.loop-j.j c.index-disks-j.result) c.loop-j-test.true (sym (get_dropped c.loop-j.disks c.args.disks.now c.loop-j.j c.loop-j.j c.loop-j.invariant.settled.rest (omega arith)) ∙ here) t

pub returns-in_err-image-clause-synced : goal.returns-in_err-image-clause-synced
returns-in_err-image-clause-synced g c =
    let lt : c.loop-j.j < length c.loop-j.disks = omega (arith, c.loop-j-test.true, c.loop-j.invariant.settled.many, c.requires.many) in
    synced_at g.D.Disk c.args.lengths.now c.args.disks.now c.loop-j.disks c.loop-j.j (get_or c.loop-j.disks c.loop-j.j c.index-disks-j.result) c.settle_slot.new.disk c.loop-j.invariant.settled lt
    (slice_get-get_or c.loop-j.disks c.loop-j.j c.index-disks-j.result lt) c.settle_slot.ensures.synced

pub returns-in_err-image-clause-failed : goal.returns-in_err-image-clause-failed
returns-in_err-image-clause-failed g c j e =
    let lt : c.loop-j.j < length c.loop-j.disks = omega (arith, c.loop-j-test.true, c.loop-j.invariant.settled.many, c.requires.many) in
    let p = err_from_is_err_and c.from_residual.result c.from_residual.ensures.1 in
    let (is, broke) = c.in_err-image.ensures.failed j (failed_is c.from_residual.result p.0 c.in_err-image.field-0.0 j p.1 p.2 e) in
    subst (λ (i : ℕ). StopsSettling g.D.Disk c.args.lengths.now i c.args.disks.now (set c.loop-j.disks c.loop-j.j c.settle_slot.new.disk)) (sym is)
    (stops_at g.D.Disk c.args.lengths.now c.args.disks.now c.loop-j.disks c.loop-j.j (get_or c.loop-j.disks c.loop-j.j c.index-disks-j.result) c.settle_slot.new.disk c.loop-j.invariant.settled lt
    (slice_get-get_or c.loop-j.disks c.loop-j.j c.index-disks-j.result lt) c.loop-j-test.true broke)

pub returns-in_err-push-clause-synced : goal.returns-in_err-push-clause-synced
returns-in_err-push-clause-synced g c =
    let lt : c.loop-j.j < length c.loop-j.disks = omega (arith, c.loop-j-test.true, c.loop-j.invariant.settled.many, c.requires.many) in
    synced_at g.D.Disk c.args.lengths.now c.args.disks.now c.loop-j.disks c.loop-j.j (get_or c.loop-j.disks c.loop-j.j c.index-disks-j.result) c.settle_slot.new.disk c.loop-j.invariant.settled lt
    (slice_get-get_or c.loop-j.disks c.loop-j.j c.index-disks-j.result lt) c.settle_slot.ensures.synced

pub loop-j-preserved : goal.loop-j-preserved
loop-j-preserved g c =
    let lt : c.loop-j.j < length c.loop-j.disks = omega (arith, c.loop-j-test.true, c.loop-j.invariant.settled.many, c.requires.many) in
    let d = get_or c.loop-j.disks c.loop-j.j c.index-disks-j.result in
    let here = slice_get-get_or c.loop-j.disks c.loop-j.j c.index-disks-j.result lt in
    let was = sym (get_dropped c.loop-j.disks c.args.disks.now c.loop-j.j c.loop-j.j c.loop-j.invariant.settled.rest (omega arith)) ∙ here in
    record {
      settled = staged_more (SettledAt g.D.Disk c.args.lengths.now) c.args.disks.now c.loop-j.disks c.loop-j.j d c.settle_slot.new.disk c.loop-j.invariant.settled lt here (c.settle_slot.ensures.synced, c.in_ok-image.ensures.settled);
      given = λ t.
          c.in_ok-push.ensures.ok
          ∙ ap (λ (xs : List (List ℕ)). xs ++ c.of.result ∷ []) (c.loop-j.invariant.given t)
          ∙ ap (λ (x : List ℕ). map g.D.Disk.seen (take c.loop-j.j c.args.disks.now) ++ x ∷ []) (c.of.ensures ∙ c.in_ok-image.ensures.bytes t)
          ∙ sym (taken_more g.D.Disk.seen c.args.disks.now c.loop-j.j d was);
      count = omega (arith, ap (λ (xs : List (List ℕ)). length xs) c.in_ok-push.ensures.ok, length-append c.loop-j.images (c.of.result ∷ []), c.loop-j.invariant.count);
    }
