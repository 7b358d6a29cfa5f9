use Rattle.std.proofs.Common.{◌≡◌, length, ap, rules}
use Rattle.tau_begin.proofs.Slices.{synced_back, settled_back, stops_back}
use Rattle.tau_scan.specs.declared.fault.ScanRefusal.TheVariants as refusal
use Rattle.std.specs.Prelude.{Err}
use Rattle.tau_commands.proofs.checkpoints.settle_streams.Goals as goal

pub returns-in-Ok-clause-synced : goal.returns-in-Ok-clause-synced
returns-in-Ok-clause-synced g c =
    let long : length c.scan_settled.new.disks ≡ c.args.streams = search rules in
    synced_back c.args.disks.now c.scan_settled.new.disks c.args.streams c.requires.there long g.D.Disk c.args.lengths.now c.requires.many c.scan_settled.ensures.synced

pub returns-in-Ok-clause-settled : goal.returns-in-Ok-clause-settled
returns-in-Ok-clause-settled g c =
    let long : length c.scan_settled.new.disks ≡ c.args.streams = search rules in
    settled_back c.args.disks.now c.scan_settled.new.disks c.args.streams c.requires.there long g.D.Disk c.args.lengths.now c.requires.many c.in-Ok.ensures.settled

pub returns-in-Err-clause-synced : goal.returns-in-Err-clause-synced
returns-in-Err-clause-synced g c =
    let long : length c.scan_settled.new.disks ≡ c.args.streams = search rules in
    synced_back c.args.disks.now c.scan_settled.new.disks c.args.streams c.requires.there long g.D.Disk c.args.lengths.now c.requires.many c.scan_settled.ensures.synced

pub returns-in-Err-clause-settled_bad : goal.returns-in-Err-clause-settled_bad
returns-in-Err-clause-settled_bad g c fault e =
    let long : length c.scan_settled.new.disks ≡ c.args.streams = search rules in
    let is : c.in-Err.refusal ≡ refusal.Bad fault = cc e in
    settled_back c.args.disks.now c.scan_settled.new.disks c.args.streams c.requires.there long g.D.Disk c.args.lengths.now c.requires.many (c.in-Err.ensures.settled_bad fault (ap (λ x. Err x) is))

pub returns-in-Err-clause-failed : goal.returns-in-Err-clause-failed
returns-in-Err-clause-failed g c j e =
    let long : length c.scan_settled.new.disks ≡ c.args.streams = search rules in
    let is : c.in-Err.refusal ≡ refusal.Failed j = cc e in
    stops_back c.args.disks.now c.scan_settled.new.disks c.args.streams c.requires.there long g.D.Disk c.args.lengths.now c.requires.many j (c.in-Err.ensures.failed j (ap (λ x. Err x) is))
