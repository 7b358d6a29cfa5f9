-- A sync and a reading, if the disk has a byte.
use Rattle.std.proofs.Common.{sym, ◌∙◌}
use Rattle.tau_base.proofs.Lists.{empty_of_length}
use Rattle.tau_scan.proofs.Settling.{alone_synced, alone_settled, sync_alone, sync_read}
use Rattle.tau_commands.proofs.slots.settle_slot.Goals as goal

pub returns-then-size-eq0-clause-bytes : goal.returns-then-size-eq0-clause-bytes
returns-then-size-eq0-clause-bytes g c t = c.new.ensures.items ∙ sym (empty_of_length (g.D.Disk.seen c.args.disk.now) (sym (c.requires t) ∙ c.if-size-eq0.true))

pub returns-then-size-eq0-clause-synced : goal.returns-then-size-eq0-clause-synced
returns-then-size-eq0-clause-synced g c = alone_synced g.D.Disk c.args.size c.args.disk.now

pub returns-then-size-eq0-clause-settled : goal.returns-then-size-eq0-clause-settled
returns-then-size-eq0-clause-settled g c = alone_settled g.D.Disk c.args.size c.args.disk.now c.if-size-eq0.true

pub returns-in_default-clause-synced : goal.returns-in_default-clause-synced
returns-in_default-clause-synced g c =
    sync_alone g.D.Disk g.met.D.Disk.counts_now c.args.size c.if-size-eq0.false c.args.disk.now c.sync.new.self c.sync.result c.sync.ensures.crash c.sync.ensures.time c.sync.ensures.seen c.sync.ensures.plan c.sync.ensures.cause

pub returns-clause-synced : goal.returns-clause-synced
returns-clause-synced g c =
    sync_read g.D.Disk g.met.D.Disk.counts_now c.args.size c.if-size-eq0.false c.args.disk.now c.sync.new.self c.sync.result c.sync.ensures.crash c.sync.ensures.time c.sync.ensures.seen c.sync.ensures.plan c.sync.ensures.cause
    c.read_slot.new.disk c.read_slot.ensures.only_read
