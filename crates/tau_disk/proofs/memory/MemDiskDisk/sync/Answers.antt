use Rattle.std.proofs.Common.{refl, sym, ◌∙◌, ap}
use Rattle.tau_disk.specs.Replay.{opened}
use Rattle.tau_disk.specs.declared.call.DiskCall.TheVariants.{Synced}
use Rattle.tau_disk.proofs.Images.{elapses, synced_only, synced_crash, synced_sound, synced_reads, synced_torn, synced_long}
use Rattle.tau_disk.proofs.Replays.{one_more}
use Rattle.tau_disk.proofs.memory.MemDiskDisk.sync.Goals as goal

pub invariant_of-self-in-Ok : goal.invariant_of-self-in-Ok
invariant_of-self-in-Ok c =
    let d = c.args.self.now in record {
      reads = synced_reads (opened d.first.items) d.calls.items c.note.new.calls.items d.seen.items d.reads d.sound c.in-Ok.ensures.ok;
      sound = synced_sound (opened d.first.items) d.calls.items c.note.new.calls.items d.seen.items d.reads d.sound c.in-Ok.ensures.ok;
      torn_sound = synced_torn (opened d.first.items) d.calls.items c.note.new.calls.items d.seen.items d.torn_sound d.torn_long d.reads c.in-Ok.ensures.ok;
      torn_long = synced_long (opened d.first.items) d.calls.items c.note.new.calls.items d.seen.items d.torn_sound d.torn_long d.reads c.in-Ok.ensures.ok;
    }

pub returns-in-Ok-clause-durable : goal.returns-in-Ok-clause-durable
returns-in-Ok-clause-durable c = let d = c.args.self.now in synced_only (opened d.first.items) d.calls.items c.note.new.calls.items d.seen.items d.reads d.sound c.in-Ok.ensures.ok

pub returns-in-Ok-clause-crash : goal.returns-in-Ok-clause-crash
returns-in-Ok-clause-crash c = let d = c.args.self.now in synced_crash (opened d.first.items) d.calls.items c.note.new.calls.items d.seen.items d.reads d.sound c.in-Ok.ensures.ok

pub returns-in-Ok-clause-time : goal.returns-in-Ok-clause-time
returns-in-Ok-clause-time c = let d = c.args.self.now in elapses (opened d.first.items) d.calls.items c.note.new.calls.items Synced c.in-Ok.ensures.ok

pub returns-in-Ok-clause-left : goal.returns-in-Ok-clause-left
returns-in-Ok-clause-left c =
    let d = c.args.self.now in record {
      ok = one_more (opened d.first.items) d.calls.items c.note.new.calls.items Synced c.in-Ok.ensures.ok ∙ ap opened (sym d.reads);
      failed = tt;
      last = λ k. refl;
    }
