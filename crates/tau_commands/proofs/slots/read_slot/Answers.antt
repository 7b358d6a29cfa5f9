-- The calls that were made, each of which read.
use Rattle.tau_commands.proofs.SlotReading.{read_once, read_twice}
use Rattle.tau_commands.proofs.slots.read_slot.Goals as goal

pub returns-in_err-length-clause-only_read : goal.returns-in_err-length-clause-only_read
returns-in_err-length-clause-only_read g c = (read_once g.D.Disk g.met.D.Disk.counts_now c.args.disk.now c.len.new.self c.len.result c.len.ensures.seen c.len.ensures.crash c.len.ensures.keeps c.len.ensures.time c.len.ensures.plan c.len.ensures.cause).read

pub returns-in_err-image-clause-only_read : goal.returns-in_err-image-clause-only_read
returns-in_err-image-clause-only_read g c = (read_once g.D.Disk g.met.D.Disk.counts_now c.args.disk.now c.len.new.self c.len.result c.len.ensures.seen c.len.ensures.crash c.len.ensures.keeps c.len.ensures.time c.len.ensures.plan c.len.ensures.cause).read

pub returns-in_err-map_err-clause-only_read : goal.returns-in_err-map_err-clause-only_read
returns-in_err-map_err-clause-only_read g c = read_twice g.D.Disk c.args.disk.now c.len.new.self c.read_at.new.self
    (read_once g.D.Disk g.met.D.Disk.counts_now c.args.disk.now c.len.new.self c.len.result c.len.ensures.seen c.len.ensures.crash c.len.ensures.keeps c.len.ensures.time c.len.ensures.plan c.len.ensures.cause)
    (read_once g.D.Disk g.met.D.Disk.counts_now c.len.new.self c.read_at.new.self c.read_at.result c.read_at.ensures.seen c.read_at.ensures.crash c.read_at.ensures.keeps c.read_at.ensures.time c.read_at.ensures.plan c.read_at.ensures.cause)

pub returns-clause-only_read : goal.returns-clause-only_read
returns-clause-only_read g c = read_twice g.D.Disk c.args.disk.now c.len.new.self c.read_at.new.self
    (read_once g.D.Disk g.met.D.Disk.counts_now c.args.disk.now c.len.new.self c.len.result c.len.ensures.seen c.len.ensures.crash c.len.ensures.keeps c.len.ensures.time c.len.ensures.plan c.len.ensures.cause)
    (read_once g.D.Disk g.met.D.Disk.counts_now c.len.new.self c.read_at.new.self c.read_at.result c.read_at.ensures.seen c.read_at.ensures.crash c.read_at.ensures.keeps c.read_at.ensures.time c.read_at.ensures.plan c.read_at.ensures.cause)
