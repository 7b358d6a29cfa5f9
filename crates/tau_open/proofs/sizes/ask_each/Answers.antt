use Rattle.std.proofs.Common.{ℕ, ◌≡◌, ◌<◌, List, get_or, length, sym, ◌∙◌, subst, arith}
use Rattle.std.specs.Prelude.{Some, slice_get}
use Rattle.std.proofs.Math.ListN.{set}
use Rattle.std.proofs.lemmas.Option.{slice_get-get_or}
use Rattle.tau_open.specs.Opening.{Asked, FailsAsked}
use Rattle.tau_disk.specs.Stages.{StageFails, AreLengths}
use Rattle.tau_disk.proofs.Calls.{only_read, one_went, one_broke}
use Rattle.tau_disk.proofs.Places.{get_dropped}
use Rattle.tau_disk.proofs.Stages.{staged_more, stage_fails}
use Rattle.tau_open.proofs.Half.{still_asked}
use Rattle.tau_open.proofs.AskedLengths.{lengths_more}
use Rattle.tau_open.proofs.sizes.ask_each.Goals as goal

pub returns-in_default-clause-failed : goal.returns-in_default-clause-failed
returns-in_default-clause-failed g c j e =
    let is : c.loop-j.j ≡ j = cc in
    let lt : c.loop-j.j < length c.loop-j.disks = omega (arith, c.loop-j-test.true, c.loop-j.invariant.0.many, c.requires.there) in
    let d = get_or c.loop-j.disks c.loop-j.j c.index-disks-j.result in
    let here : slice_get c.loop-j.disks c.loop-j.j ≡ Some d = slice_get-get_or c.loop-j.disks c.loop-j.j c.index-disks-j.result lt in (
      omega (arith, is, c.loop-j-test.true),
      subst (λ (i : ℕ). StageFails (λ i. Asked g.D.Disk) (λ i. FailsAsked g.D.Disk) i c.args.disks.now (set c.loop-j.disks c.loop-j.j c.len.new.self)) is
          (stage_fails (λ i. Asked g.D.Disk) c.args.disks.now c.loop-j.disks c.loop-j.j d c.len.new.self c.loop-j.invariant.0 lt here (λ i. FailsAsked g.D.Disk) (record {
            read = only_read g.D.Disk g.met.D.Disk.counts_now d c.len.new.self c.len.ensures.seen c.len.ensures.crash c.len.ensures.keeps c.len.ensures.time;
            broke = one_broke g.D.Disk d c.len.new.self c.len.ensures.cause.later c.in_default.ensures.cause.failed (λ t. (c.in_default.ensures.plan t).same) (λ t. (c.in_default.ensures.plan t).failed);
          })),
    )

pub loop-j-preserved : goal.loop-j-preserved
loop-j-preserved g c =
    let lt : c.loop-j.j < length c.loop-j.disks = omega (arith, c.loop-j-test.true, c.loop-j.invariant.0.many, c.requires.there) in
    let d = get_or c.loop-j.disks c.loop-j.j c.index-disks-j.result in
    let here : slice_get c.loop-j.disks c.loop-j.j ≡ Some d = slice_get-get_or c.loop-j.disks c.loop-j.j c.index-disks-j.result lt in (
      staged_more (λ i. Asked g.D.Disk) c.args.disks.now c.loop-j.disks c.loop-j.j d c.len.new.self c.loop-j.invariant.0 lt here (record {
        read = only_read g.D.Disk g.met.D.Disk.counts_now d c.len.new.self c.len.ensures.seen c.len.ensures.crash c.len.ensures.keeps c.len.ensures.time;
        went = one_went g.D.Disk d c.len.new.self c.len.ensures.cause.later (λ t. (c.in-Ok.ensures.plan t).same) (λ t. (c.in-Ok.ensures.plan t).ok);
        last = still_asked g.D.Disk _ _ c.in-Ok.ensures.left;
      }),
      subst (λ (ls : List ℕ). AreLengths g.D.Disk.tells g.D.Disk.seen c.args.disks.now ls) (sym c.push_reserved.ensures.items)
          (lengths_more g.D.Disk.tells g.D.Disk.seen c.args.disks.now c.loop-j.lengths.items c.loop-j.j d c.in-Ok.length (omega (arith, c.loop-j.lengths.ok.0, c.loop-j.invariant.2)) c.loop-j.invariant.1
          (sym (get_dropped c.loop-j.disks c.args.disks.now c.loop-j.j c.loop-j.j c.loop-j.invariant.0.rest (omega arith)) ∙ here) c.in-Ok.ensures.length),
      omega (arith, c.push_reserved.ensures.len, c.loop-j.invariant.2),
      omega (arith, c.push_reserved.ensures.capacity, c.loop-j.invariant.3),
    )
