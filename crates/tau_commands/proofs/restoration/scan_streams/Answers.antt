use Rattle.std.proofs.Common.{ℕ, ◌≡◌, ◌++◌, List, length, take, drop, sym, subst, rules}
use Rattle.std.proofs.Math.Seq.{take-append_seam}
use Rattle.tau_disk.specs.Used.{Each, RoseAt, AllCalls, IsFirstStopped}
use Rattle.tau_scan.specs.Outside.{IsRead, calls_to_read}
use Rattle.tau_commands.proofs.Oks.{on_ok}
use Rattle.tau_commands.proofs.Recoveries.{read_first, rose_among, each_lent, stopped_among}
use Rattle.tau_commands.proofs.restoration.scan_streams.Goals as goal

-- no format is asked
pub scan-requires-clause-fits : goal.scan-requires-clause-fits
scan-requires-clause-fits g c f is = absurd (cc is)

pub returns-clause-failed : goal.returns-clause-failed
returns-clause-failed g c j e =
    let long : length c.scan.new.disks ≡ c.args.streams = search rules in
    let same : take c.args.streams (c.scan.new.disks ++ drop c.args.streams c.args.disks.now) ≡ c.scan.new.disks =
    subst (λ (k : ℕ). take k (c.scan.new.disks ++ drop c.args.streams c.args.disks.now) ≡ c.scan.new.disks) long (take-append_seam c.scan.new.disks (drop c.args.streams c.args.disks.now)) in
    rose_among g.D.Disk.faults c.args.disks.now (c.scan.new.disks ++ drop c.args.streams c.args.disks.now) c.args.streams j
    (subst (λ (ds : List g.row.D.Denot). RoseAt g.D.Disk.faults (take c.args.streams c.args.disks.now) ds j) (sym same) (c.scan.ensures.failed j e))

pub returns-clause-only_read : goal.returns-clause-only_read
returns-clause-only_read g c =
    let long : length c.scan.new.disks ≡ c.args.streams = search rules in
    let same : take c.args.streams (c.scan.new.disks ++ drop c.args.streams c.args.disks.now) ≡ c.scan.new.disks =
    subst (λ (k : ℕ). take k (c.scan.new.disks ++ drop c.args.streams c.args.disks.now) ≡ c.scan.new.disks) long (take-append_seam c.scan.new.disks (drop c.args.streams c.args.disks.now)) in
    read_first g.D.Disk.tells g.D.Disk.seen g.D.Disk.may_leave g.D.Disk.moment g.D.Disk.may_leave_since g.D.Disk.faults g.D.Disk.number g.D.Disk.fails c.args.disks.now (c.scan.new.disks ++ drop c.args.streams c.args.disks.now) c.args.streams
    (subst (λ (ds : List g.row.D.Denot). Each (IsRead g.D.Disk.tells g.D.Disk.seen g.D.Disk.may_leave g.D.Disk.moment g.D.Disk.may_leave_since g.D.Disk.faults g.D.Disk.number g.D.Disk.fails) (take c.args.streams c.args.disks.now) ds) (sym same) c.scan.ensures.only_read)

pub returns-clause-stopped : goal.returns-clause-stopped
returns-clause-stopped g c j e tells =
    let long : length c.scan.new.disks ≡ c.args.streams = search rules in
    let same : take c.args.streams (c.scan.new.disks ++ drop c.args.streams c.args.disks.now) ≡ c.scan.new.disks =
    subst (λ (k : ℕ). take k (c.scan.new.disks ++ drop c.args.streams c.args.disks.now) ≡ c.scan.new.disks) long (take-append_seam c.scan.new.disks (drop c.args.streams c.args.disks.now)) in
    stopped_among g.D.Disk.tells g.D.Disk.number g.D.Disk.fails g.D.Disk.short c.args.disks.now (c.scan.new.disks ++ drop c.args.streams c.args.disks.now) c.args.streams j
    (subst (λ (ds : List g.row.D.Denot). IsFirstStopped g.D.Disk.tells g.D.Disk.number g.D.Disk.fails g.D.Disk.short (take c.args.streams c.args.disks.now) ds j) (sym same) (c.scan.ensures.stopped j e tells))

pub returns-clause-calls : goal.returns-clause-calls
returns-clause-calls g c =
    let long : length c.scan.new.disks ≡ c.args.streams = search rules in
    on_ok c.scan.result (λ each. each_lent (AllCalls g.D.Disk.tells g.D.Disk.number g.D.Disk.fails g.D.Disk.short calls_to_read) c.args.disks.now c.scan.new.disks c.args.streams long each) c.scan.ensures.calls

pub returns-clause-calls_bad : goal.returns-clause-calls_bad
returns-clause-calls_bad g c fault e =
    let long : length c.scan.new.disks ≡ c.args.streams = search rules in
    each_lent (AllCalls g.D.Disk.tells g.D.Disk.number g.D.Disk.fails g.D.Disk.short calls_to_read) c.args.disks.now c.scan.new.disks c.args.streams long (c.scan.ensures.calls_bad fault e)
