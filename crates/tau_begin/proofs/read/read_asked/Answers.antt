use Rattle.std.proofs.Common.{ℕ, ◌≡◌, ◌<◌, List, length, ap, subst, take, ◌∙◌}
use Rattle.std.specs.Prelude.{Err, Some}
use Rattle.tau_scan.specs.declared.fault.ScanRefusal.TheVariants as refusal
use Rattle.tau_disk.specs.Used.{EachIn}
use Rattle.tau_scan.specs.Outside.{AreSettled, AreSynced, StopsSettling, SyncedFirst}
use Rattle.tau_scan.specs.Reading.{HasRead, log_read}
use Rattle.tau_begin.proofs.read.read_asked.Goals as goal

pub returns-in-Err-clause-settled_bad : goal.returns-in-Err-clause-settled_bad
returns-in-Err-clause-settled_bad g c fault e =
    let is : c.in-Err.refusal ≡ refusal.Bad fault = cc e in
    subst (λ (xs : List ℕ). AreSettled g.D.Disk xs c.args.disks.now c.settle_first.new.disks) c.deref.ensures.value (c.settle_first.ensures.settled_bad fault (c.in-Err.is ∙ ap (λ x. Err x) is))

pub returns-in-Err-clause-bad : goal.returns-in-Err-clause-bad
returns-in-Err-clause-bad g c fault e =
    let is : c.in-Err.refusal ≡ refusal.Bad fault = cc e in
    subst (λ r. HasRead g.D.Disk.tells g.D.Disk.seen (Some c.args.format) (take c.args.n c.args.disks.now) (log_read r)) (c.in-Err.is ∙ ap (λ x. Err x) is) c.settle_first.ensures.read

pub returns-in-Err-clause-failed : goal.returns-in-Err-clause-failed
returns-in-Err-clause-failed g c j e =
    let is : c.in-Err.refusal ≡ refusal.Failed j = cc e in
    subst (λ (xs : List ℕ). StopsSettling g.D.Disk xs j c.args.disks.now c.settle_first.new.disks) c.deref.ensures.value (c.settle_first.ensures.failed j (c.in-Err.is ∙ ap (λ x. Err x) is))

pub returns-in-Err-clause-synced : goal.returns-in-Err-clause-synced
returns-in-Err-clause-synced g c = subst (λ (xs : List ℕ). AreSynced g.D.Disk xs c.args.disks.now c.settle_first.new.disks) c.deref.ensures.value c.settle_first.ensures.synced

pub returns-in-Err-clause-first : goal.returns-in-Err-clause-first
returns-in-Err-clause-first g c = subst (λ (xs : List ℕ). EachIn (λ j. j < length xs) (λ j. SyncedFirst g.D.Disk) c.args.disks.now c.settle_first.new.disks) c.deref.ensures.value c.settle_first.ensures.first

pub returns-in-Ok-clause-synced : goal.returns-in-Ok-clause-synced
returns-in-Ok-clause-synced g c = subst (λ (xs : List ℕ). AreSynced g.D.Disk xs c.args.disks.now c.settle_first.new.disks) c.deref.ensures.value c.settle_first.ensures.synced

pub returns-in-Ok-clause-first : goal.returns-in-Ok-clause-first
returns-in-Ok-clause-first g c = subst (λ (xs : List ℕ). EachIn (λ j. j < length xs) (λ j. SyncedFirst g.D.Disk) c.args.disks.now c.settle_first.new.disks) c.deref.ensures.value c.settle_first.ensures.first

pub returns-in-Ok-clause-settled : goal.returns-in-Ok-clause-settled
returns-in-Ok-clause-settled g c = subst (λ (xs : List ℕ). AreSettled g.D.Disk xs c.args.disks.now c.settle_first.new.disks) c.deref.ensures.value c.in-Ok.ensures.settled
