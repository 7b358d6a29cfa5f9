use Rattle.std.proofs.Common.{◌≡◌, length, rules}
use Rattle.tau_begin.proofs.Giving.{on_ok_then}
use Rattle.tau_begin.proofs.Slices.{synced_back, first_back, settled_back, stops_back, lengths_first}
use Rattle.tau_begin.proofs.read.settle_first.Goals as goal

pub returns-clause-synced : goal.returns-clause-synced
returns-clause-synced g c =
    let long : length c.scan_settled.new.disks ≡ c.args.n = search rules in
    synced_back c.args.disks.now c.scan_settled.new.disks c.args.n c.requires.there long g.D.Disk c.args.lengths.now c.requires.many c.scan_settled.ensures.synced

pub returns-clause-first : goal.returns-clause-first
returns-clause-first g c =
    let long : length c.scan_settled.new.disks ≡ c.args.n = search rules in
    first_back c.args.disks.now c.scan_settled.new.disks c.args.n c.requires.there long g.D.Disk c.args.lengths.now c.requires.many c.scan_settled.ensures.first

pub returns-clause-settled : goal.returns-clause-settled
returns-clause-settled g c =
    let long : length c.scan_settled.new.disks ≡ c.args.n = search rules in
    on_ok_then _ _ c.scan_settled.result c.scan_settled.ensures.settled (settled_back c.args.disks.now c.scan_settled.new.disks c.args.n c.requires.there long g.D.Disk c.args.lengths.now c.requires.many)

pub returns-clause-settled_bad : goal.returns-clause-settled_bad
returns-clause-settled_bad g c fault e =
    let long : length c.scan_settled.new.disks ≡ c.args.n = search rules in
    settled_back c.args.disks.now c.scan_settled.new.disks c.args.n c.requires.there long g.D.Disk c.args.lengths.now c.requires.many (c.scan_settled.ensures.settled_bad fault e)

pub returns-clause-failed : goal.returns-clause-failed
returns-clause-failed g c j e =
    let long : length c.scan_settled.new.disks ≡ c.args.n = search rules in
    stops_back c.args.disks.now c.scan_settled.new.disks c.args.n c.requires.there long g.D.Disk c.args.lengths.now c.requires.many j (c.scan_settled.ensures.failed j e)

pub scan_settled-requires-clause-lengths : goal.scan_settled-requires-clause-lengths
scan_settled-requires-clause-lengths g c = lengths_first g.D.Disk.tells g.D.Disk.seen c.args.disks.now c.args.n c.args.lengths.now c.requires.many c.requires.lengths
