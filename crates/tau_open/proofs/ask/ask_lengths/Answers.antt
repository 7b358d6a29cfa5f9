use Rattle.std.proofs.Common.{ℕ, ◌≡◌, ◌+◌, ◌<◌, get_or, length, sym, ◌∙◌, subst, arith}
use Rattle.std.specs.Prelude.{Option, Some, slice_get}
use Rattle.std.proofs.Math.ListN.{set}
use Rattle.std.proofs.lemmas.Option.{slice_get-get_or}
use Rattle.tau_open.specs.Opening.{FailsAsking}
use Rattle.tau_disk.proofs.Places.{get_dropped}
use Rattle.tau_open.proofs.Lengths.{Found, found_more}
use Rattle.tau_open.proofs.Asking.{asked_more, asking_fails}
use Rattle.tau_open.proofs.Half.{still_asked}
use Rattle.tau_open.proofs.ask.ask_lengths.Goals as goal

pub returns-in_default-clause-failed : goal.returns-in_default-clause-failed
returns-in_default-clause-failed g c j e =
    let is : c.loop-j.j ≡ j = cc in
    let lt : c.loop-j.j < length c.loop-j.disks = omega (arith, c.loop-j-test.true, c.loop-j.invariant.0.many) in
    let here : slice_get c.loop-j.disks c.loop-j.j ≡ Some (get_or c.loop-j.disks c.loop-j.j c.index-disks-j.result) = slice_get-get_or c.loop-j.disks c.loop-j.j c.index-disks-j.result lt in
    let fails : FailsAsking g.D.Disk c.loop-j.j c.args.disks.now (set c.loop-j.disks c.loop-j.j c.len.new.self) =
    asking_fails g.D.Disk g.met.D.Disk.counts_now c.args.disks.now c.loop-j.disks c.loop-j.j (get_or c.loop-j.disks c.loop-j.j c.index-disks-j.result) c.len.new.self c.loop-j.invariant.0 lt here
    c.len.ensures.seen c.len.ensures.crash c.len.ensures.keeps c.len.ensures.time c.len.ensures.cause.later (λ t. (c.in_default.ensures.plan t).same) c.in_default.ensures.cause.failed (λ t. (c.in_default.ensures.plan t).failed) in
    (omega (arith, is, c.loop-j-test.true), subst (λ (i : ℕ). FailsAsking g.D.Disk i c.args.disks.now (set c.loop-j.disks c.loop-j.j c.len.new.self)) is fails)

pub loop-j-preserved : goal.loop-j-preserved
loop-j-preserved g c =
    let lt : c.loop-j.j < length c.loop-j.disks = omega (arith, c.loop-j-test.true, c.loop-j.invariant.0.many) in
    let here : slice_get c.loop-j.disks c.loop-j.j ≡ Some (get_or c.loop-j.disks c.loop-j.j c.index-disks-j.result) = slice_get-get_or c.loop-j.disks c.loop-j.j c.index-disks-j.result lt in (
      asked_more g.D.Disk g.met.D.Disk.counts_now c.args.disks.now c.loop-j.disks c.loop-j.j (get_or c.loop-j.disks c.loop-j.j c.index-disks-j.result) c.len.new.self c.loop-j.invariant.0 lt here
          c.len.ensures.seen c.len.ensures.crash c.len.ensures.keeps c.len.ensures.time c.len.ensures.cause.later (λ t. (c.in-Ok.ensures.plan t).same) (λ t. (c.in-Ok.ensures.plan t).ok) (still_asked g.D.Disk _ _ c.in-Ok.ensures.left),
      subst (λ (found : Option (ℕ × ℕ)). Found g.D.Disk.tells g.D.Disk.seen c.args.disks.now (c.loop-j.j + 1) found) (sym c.lower-first.ensures)
          (found_more g.D.Disk.tells g.D.Disk.seen c.args.disks.now c.loop-j.j c.loop-j.first (get_or c.loop-j.disks c.loop-j.j c.index-disks-j.result) c.in-Ok.length c.loop-j.invariant.1
          (sym (get_dropped c.loop-j.disks c.args.disks.now c.loop-j.j c.loop-j.j c.loop-j.invariant.0.rest (omega arith)) ∙ here) c.in-Ok.ensures.length),
    )
