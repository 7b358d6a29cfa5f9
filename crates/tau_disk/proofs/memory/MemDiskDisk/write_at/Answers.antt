use Rattle.std.proofs.Common.{◌≡◌, ◌&&◌, ℕ, List, false, length, refl, subst, sym}
use Rattle.tau_disk.specs.Disk.{Follows, Torn, Holds}
use Rattle.tau_disk.specs.Replay.{opened, replayed, leaves, is_stop}
use Rattle.tau_disk.specs.declared.call.DiskCall.TheVariants.{Lost, Wrote}
use Rattle.tau_disk.proofs.Images.{elapses, lost_crash, lost_sound, lost_reads, lost_keeps, lost_torn, lost_long, wrote_torn, wrote_long, wrote_crash, wrote_sound, wrote_reads, wrote_keeps}
use Rattle.tau_disk.proofs.Kept.{written, kept, not_kept, both, second_not}
use Rattle.tau_disk.proofs.memory.MemDiskDisk.write_at.Goals as goal
use Rattle.tau_disk.proofs.memory.MemDiskDisk.write_at.Goals.{else-self-via-then-self+else-is_last, else-self-via-else-self}
use Rattle.tau_base.proofs.Logic.{first_not}

pub invariant_of-self : goal.invariant_of-self
invariant_of-self c =
    let d = c.args.self.now in
    let noted = c.in-Ok-done.ensures.noted in
    let holds = subst (λ (l : List ℕ). Holds d.seen.items c.args.at l c.put-done.new.seen.items) (sym noted.1) c.in-Ok-done.ensures.written in
    record {
      reads = wrote_reads (opened d.first.items) d.calls.items c.put-done.new.calls.items d.seen.items d.reads d.sound c.args.at c.requires.within noted.0 noted.2 c.put-done.new.seen.items holds;
      sound = wrote_sound (opened d.first.items) d.calls.items c.put-done.new.calls.items d.seen.items d.reads d.sound c.args.at c.requires.within noted.0 noted.2 c.put-done.new.seen.items holds;
      torn_sound = wrote_torn (opened d.first.items) d.calls.items c.put-done.new.calls.items d.seen.items d.torn_sound d.torn_long c.args.at c.requires.within noted.0 noted.2;
      torn_long = wrote_long (opened d.first.items) d.calls.items c.put-done.new.calls.items d.seen.items d.torn_sound d.torn_long c.args.at c.requires.within noted.0 noted.2 c.put-done.new.seen.items holds;
    }

pub returns-in-Ok-done-clause-crash : goal.returns-in-Ok-done-clause-crash
returns-in-Ok-done-clause-crash c =
    let d = c.args.self.now in
    let noted = c.in-Ok-done.ensures.noted in
    subst (λ (l : List ℕ). Follows (Torn c.args.at (length l)) (leaves (replayed (opened d.first.items) d.calls.items)) (leaves (replayed (opened d.first.items) c.put-done.new.calls.items))) noted.1
    (wrote_crash (opened d.first.items) d.calls.items c.put-done.new.calls.items d.seen.items d.reads d.sound c.args.at c.requires.within noted.0 noted.2)

pub returns-in-Ok-done-clause-keeps : goal.returns-in-Ok-done-clause-keeps
returns-in-Ok-done-clause-keeps c =
    let d = c.args.self.now in
    let noted = c.in-Ok-done.ensures.noted in
    wrote_keeps (opened d.first.items) d.calls.items c.put-done.new.calls.items d.seen.items d.reads d.sound c.args.at c.requires.within noted.0 noted.2

pub returns-in-Ok-done-clause-time : goal.returns-in-Ok-done-clause-time
returns-in-Ok-done-clause-time c =
    let d = c.args.self.now in
    let noted = c.in-Ok-done.ensures.noted in
    elapses (opened d.first.items) d.calls.items c.put-done.new.calls.items (Wrote c.args.at noted.0) noted.2

pub invariant_of-self-in-Ok-last : goal.invariant_of-self-in-Ok-last
invariant_of-self-in-Ok-last c =
    let d = c.args.self.now in
    let noted = c.in-Ok-last.ensures.noted in
    let holds = subst (λ (l : List ℕ). Holds d.seen.items c.args.at l c.put-last.new.seen.items) (sym noted.1) c.in-Ok-last.ensures.written in
    record {
      reads = wrote_reads (opened d.first.items) d.calls.items c.put-last.new.calls.items d.seen.items d.reads d.sound c.args.at c.requires.within noted.0 noted.2 c.put-last.new.seen.items holds;
      sound = wrote_sound (opened d.first.items) d.calls.items c.put-last.new.calls.items d.seen.items d.reads d.sound c.args.at c.requires.within noted.0 noted.2 c.put-last.new.seen.items holds;
      torn_sound = wrote_torn (opened d.first.items) d.calls.items c.put-last.new.calls.items d.seen.items d.torn_sound d.torn_long c.args.at c.requires.within noted.0 noted.2;
      torn_long = wrote_long (opened d.first.items) d.calls.items c.put-last.new.calls.items d.seen.items d.torn_sound d.torn_long c.args.at c.requires.within noted.0 noted.2 c.put-last.new.seen.items holds;
    }

pub returns-in-Ok-last-clause-crash : goal.returns-in-Ok-last-clause-crash
returns-in-Ok-last-clause-crash c =
    let d = c.args.self.now in
    let noted = c.in-Ok-last.ensures.noted in
    subst (λ (l : List ℕ). Follows (Torn c.args.at (length l)) (leaves (replayed (opened d.first.items) d.calls.items)) (leaves (replayed (opened d.first.items) c.put-last.new.calls.items))) noted.1
    (wrote_crash (opened d.first.items) d.calls.items c.put-last.new.calls.items d.seen.items d.reads d.sound c.args.at c.requires.within noted.0 noted.2)

pub returns-in-Ok-last-clause-keeps : goal.returns-in-Ok-last-clause-keeps
returns-in-Ok-last-clause-keeps c =
    let d = c.args.self.now in
    let noted = c.in-Ok-last.ensures.noted in
    wrote_keeps (opened d.first.items) d.calls.items c.put-last.new.calls.items d.seen.items d.reads d.sound c.args.at c.requires.within noted.0 noted.2

pub returns-in-Ok-last-clause-time : goal.returns-in-Ok-last-clause-time
returns-in-Ok-last-clause-time c =
    let d = c.args.self.now in
    let noted = c.in-Ok-last.ensures.noted in
    elapses (opened d.first.items) d.calls.items c.put-last.new.calls.items (Wrote c.args.at noted.0) noted.2

pub invariant_of-self-in-Ok-lost : goal.invariant_of-self-in-Ok-lost
invariant_of-self-in-Ok-lost c =
    let d = c.args.self.now in record {
      reads = lost_reads (opened d.first.items) d.calls.items c.note-lost.new.calls.items d.seen.items d.reads d.sound c.args.at c.requires.within (length c.args.bytes.now) c.in-Ok-lost.ensures.ok;
      sound = lost_sound (opened d.first.items) d.calls.items c.note-lost.new.calls.items d.seen.items d.reads d.sound c.args.at c.requires.within (length c.args.bytes.now) c.in-Ok-lost.ensures.ok;
      torn_sound = lost_torn (opened d.first.items) d.calls.items c.note-lost.new.calls.items d.seen.items d.torn_sound d.torn_long c.args.at (length c.args.bytes.now) c.in-Ok-lost.ensures.ok;
      torn_long = lost_long (opened d.first.items) d.calls.items c.note-lost.new.calls.items d.seen.items d.torn_sound d.torn_long c.args.at (length c.args.bytes.now) c.in-Ok-lost.ensures.ok;
    }

pub returns-in-Ok-lost-clause-crash : goal.returns-in-Ok-lost-clause-crash
returns-in-Ok-lost-clause-crash c = let d = c.args.self.now in lost_crash (opened d.first.items) d.calls.items c.note-lost.new.calls.items d.seen.items d.reads d.sound c.args.at c.requires.within (length c.args.bytes.now) c.in-Ok-lost.ensures.ok

pub returns-in-Ok-lost-clause-keeps : goal.returns-in-Ok-lost-clause-keeps
returns-in-Ok-lost-clause-keeps c = let d = c.args.self.now in lost_keeps (opened d.first.items) d.calls.items c.note-lost.new.calls.items d.seen.items d.reads d.sound c.args.at c.requires.within (length c.args.bytes.now) c.in-Ok-lost.ensures.ok

pub returns-in-Ok-lost-clause-time : goal.returns-in-Ok-lost-clause-time
returns-in-Ok-lost-clause-time c = let d = c.args.self.now in elapses (opened d.first.items) d.calls.items c.note-lost.new.calls.items (Lost c.args.at (length c.args.bytes.now)) c.in-Ok-lost.ensures.ok

pub returns-in-Ok-done-clause-left : goal.returns-in-Ok-done-clause-left
returns-in-Ok-done-clause-left c =
    let d = c.args.self.now in
    let noted = c.in-Ok-done.ensures.noted in record {
      ok = written (opened d.first.items) d.calls.items c.put-done.new.calls.items c.args.at c.args.bytes.now noted.0 noted.1 noted.2;
      failed = tt;
      last = λ k. refl;
    }

pub returns-in-Ok-last-clause-left : goal.returns-in-Ok-last-clause-left
returns-in-Ok-last-clause-left c =
    let d = c.args.self.now in
    let noted = c.in-Ok-last.ensures.noted in
    let stop = is_stop d.stops_at c.begin-begun.new.number in
    record {
      ok = tt;
      failed = λ enough. kept (opened d.first.items) d.calls.items c.put-last.new.calls.items c.args.at c.args.bytes.now (d.keeps_last && stop)
          (both d.keeps_last stop c.is_last.result c.if-self.true c.is_last.ensures c.if-is_last.true) noted.0 noted.1 noted.2;
      last = λ k. refl;
    }

pub returns-in-Ok-lost-clause-left : goal.returns-in-Ok-lost-clause-left
returns-in-Ok-lost-clause-left c =
    let d = c.args.self.now in
    let stop = is_stop d.stops_at c.begin-begun.new.number in
    let other : (d.keeps_last && stop) ≡ false =
    elim c.else-self.branch [
      | else-self-via-then-self+else-is_last w ↦ second_not d.keeps_last stop w.is_last.result w.if-self.true w.is_last.ensures w.if-is_last.false
      | else-self-via-else-self w ↦ first_not d.keeps_last stop w.if-self.false
    ] in
    record {
      ok = tt;
      failed = λ enough. not_kept (opened d.first.items) d.calls.items c.note-lost.new.calls.items c.args.at c.args.bytes.now (d.keeps_last && stop) other c.in-Ok-lost.ensures.ok;
      last = λ k. refl;
    }
