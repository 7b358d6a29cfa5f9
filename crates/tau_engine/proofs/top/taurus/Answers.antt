use Rattle.std.proofs.Common.{ℕ, ◌≡◌, ◌≤◌, List, ◌∙◌, sym, ap, subst, refl, arith, map, length, take, drop, ◌++◌, rules}
use Rattle.std.specs.Prelude.{string_bytes, Option, Some, None, Result, Err}
use Rattle.tau_base.specs.declared.value.LogMode.{LogMode}
use Rattle.tau_base.specs.Modes.{format_of, most_streams}
use Rattle.tau_disk.specs.Disk.{Rose}
use Rattle.tau_disk.specs.contracts.memory.MemDiskDisk.TheImpl.{ghosts}
use Rattle.tau_text.specs.declared.load.Workload.{Workload}
use Rattle.tau_words.specs.declared.command.Command.{Command}
use Rattle.tau_words.specs.declared.command.Command.TheVariants.{Run, Recover, Drill, Bench, Checkpoint, Restore, Follow, Inspect, Audit}
use Rattle.tau_commands.specs.declared.status.Status.{Status}
use Rattle.tau_commands.specs.declared.status.Status.TheVariants as status
use Rattle.tau_engine.specs.declared.run.Choice.{Choice}
use Rattle.tau_commands.specs.Checkpoints.{HasEnded, HasReadAll, OfCheckpoint, OfRestore}
use Rattle.tau_commands.specs.Recovery.{OfRecover}
use Rattle.tau_commands.specs.Inspecting.{OfInspect}
use Rattle.tau_commands.specs.Outside.{Input, Output}
use Rattle.tau_commands.specs.Reads.{HasOnlyRead}
use Rattle.tau_engine.specs.RunSays.{RunSays}
use Rattle.tau_words.specs.Words.{command_of}
use Rattle.tau_engine.proofs.Within.{IsWithin, command_within}
use Rattle.tau_engine.specs.Top.{Says}
use Rattle.tau_engine.proofs.Opened.{few_workers}
use Rattle.tau_commands.proofs.Recoveries.{handed_back}
use Rattle.tau_engine.proofs.Said as said
use Rattle.tau_engine.proofs.SaidAudit.{says_audit}
use Rattle.tau_engine.proofs.SaidSlots.{says_slots}
use Rattle.tau_engine.proofs.top.taurus.Given.{Over}
use Rattle.tau_engine.proofs.top.taurus.Goals as goal

-- what a call reads and writes, from what its source and its sink were to what they are
abbrev from : (g : Over) → g.row.S.Denot → g.row.S.Denot → Input
from g a b = record { tells = g.S.Source.tells; left = g.S.Source.left a; left' = g.S.Source.left b; rose = Rose (g.S.Source.faults a) (g.S.Source.faults b) }

abbrev to : (g : Over) → g.row.K.Denot → g.row.K.Denot → Output
to g a b = record { hears = g.K.Sink.tells; held = g.K.Sink.held a; held' = g.K.Sink.held b; faults = g.K.Sink.faults a; faults' = g.K.Sink.faults b }

-- what the words ask for is this command
asked : (o : Option Command) (c x : Command) → o ≡ Some c → c ≡ x → o ≡ Some x
asked o c x is e = is ∙ ap (λ (y : Command). Some y) e

-- so its numbers are within their bounds
within_of : (words : List (List ℕ)) (c x : Command) → command_of words ≡ Some c → c ≡ x → IsWithin x
within_of words c x is e = subst IsWithin e (command_within words c is)

-- the same of the disks that were lent, and of those that came back
module _ (g : Over) (o : Output) (lent old new back : List g.row.D.Denot) (a : Status) (k n : ℕ) (is : lent ≡ old) (same : back ≡ new) (many : k ≡ n) where
  read_at : HasOnlyRead g.D.Disk o lent new a k → HasOnlyRead g.D.Disk o old back a n
  read_at h = subst (λ (ds : List g.row.D.Denot). HasOnlyRead g.D.Disk o ds back a n) is (subst (λ (ds : List g.row.D.Denot). HasOnlyRead g.D.Disk o lent ds a n) (sym same) (subst (λ (j : ℕ). HasOnlyRead g.D.Disk o lent new a j) many h))

  recover_at : OfRecover g.D.Disk o lent new a k → OfRecover g.D.Disk o old back a n
  recover_at h = subst (λ (ds : List g.row.D.Denot). OfRecover g.D.Disk o ds back a n) is (subst (λ (ds : List g.row.D.Denot). OfRecover g.D.Disk o lent ds a n) (sym same) (subst (λ (j : ℕ). OfRecover g.D.Disk o lent new a j) many h))

  inspect_at : OfInspect g.D.Disk o lent new a k → OfInspect g.D.Disk o old back a n
  inspect_at h = subst (λ (ds : List g.row.D.Denot). OfInspect g.D.Disk o ds back a n) is (subst (λ (ds : List g.row.D.Denot). OfInspect g.D.Disk o lent ds a n) (sym same) (subst (λ (j : ℕ). OfInspect g.D.Disk o lent new a j) many h))

as_err : (a b : Status) → a ≡ b → ◌≡◌ {A = Result Workload Status} (Err a) (Err b)
as_err a b e = ap (λ (x : Status). Err x) e

-- ---- no command

pub returns-in-Err-NoMemory-clause-says : goal.returns-in-Err-NoMemory-clause-says
returns-in-Err-NoMemory-clause-says g c = said.nothing_done g.D.Disk ghosts (from g c.args.source.now c.args.source.now) (to g c.args.sink.now c.args.sink.now) (g.met.D.Disk g.world.𝓛 g.world.𝓜 g.world.𝓡 ((λ s x. x), (λ x. x), (λ x. x), λ x. x)).only_now c.args.disks.now.items (command_of (map string_bytes c.args.words.now)) refl (λ t. search rules)

pub returns-in-Err-Usage-clause-says : goal.returns-in-Err-Usage-clause-says
returns-in-Err-Usage-clause-says g c =
    subst (λ (x : Option Command). Says g.D.Disk ghosts (from g c.args.source.now c.args.source.now) (to g c.args.sink.now c.refuse.new.sink) c.args.disks.now.items c.args.disks.now.items x c.refuse.result) (sym (c.in-Err-Usage.ensures.usage (search rules)))
    (said.says_usage g.D.Disk ghosts (from g c.args.source.now c.args.source.now) (to g c.args.sink.now c.refuse.new.sink) (g.met.D.Disk g.world.𝓛 g.world.𝓜 g.world.𝓡 ((λ s x. x), (λ x. x), (λ x. x), λ x. x)).only_now c.args.disks.now.items c.refuse.result refl c.refuse.ensures)

-- ---- a run

pub returns-in-Err-clause-says : goal.returns-in-Err-clause-says
returns-in-Err-clause-says g c =
    let is = asked (command_of (map string_bytes c.args.words.now)) c.in-Ok-Run.field-0 (Run c.in-Ok-Run.n c.in-Ok-Run.m c.in-Ok-Run.mode c.in-Ok-Run.optimistic) c.in-Ok-Run.ensures.ok c.in-Ok-Run.field-0-is in
    subst (λ (x : Option Command). Says g.D.Disk ghosts (from g c.args.source.now c.read_source.new.source) (to g c.args.sink.now c.refuse-in-Err.new.sink) c.args.disks.now.items c.args.disks.now.items x c.refuse-in-Err.result) (sym is)
    (said.says_unread g.D.Disk ghosts (from g c.args.source.now c.read_source.new.source) (to g c.args.sink.now c.refuse-in-Err.new.sink) c.in-Ok-Run.n c.in-Ok-Run.m c.in-Ok-Run.mode c.in-Ok-Run.optimistic
    c.in-Err.refusal c.in-Err.ensures.kind (λ e. c.in-Err.ensures.read_fault (as_err c.in-Err.refusal status.ReadFault e)) (λ e. c.in-Err.ensures.too_long (as_err c.in-Err.refusal status.TooLong e)) (λ at why e. c.in-Err.ensures.bad_text at why (as_err c.in-Err.refusal (status.BadText at why) e))
    (g.met.D.Disk g.world.𝓛 g.world.𝓜 g.world.𝓡 ((λ s x. x), (λ x. x), (λ x. x), λ x. x)).only_now c.args.disks.now.items c.refuse-in-Err.result c.refuse-in-Err.ensures c.read_source.ensures.source (λ at why e. c.in-Err.ensures.end_bad at why (as_err c.in-Err.refusal (status.BadText at why) e)))

pub returns-in-Ok-clause-says : goal.returns-in-Ok-clause-says
returns-in-Ok-clause-says g c =
    let is = asked (command_of (map string_bytes c.args.words.now)) c.in-Ok-Run.field-0 (Run c.in-Ok-Run.n c.in-Ok-Run.m c.in-Ok-Run.mode c.in-Ok-Run.optimistic) c.in-Ok-Run.ensures.ok c.in-Ok-Run.field-0-is in
    subst (λ (x : Option Command). Says g.D.Disk ghosts (from g c.args.source.now c.read_source.new.source) (to g c.args.sink.now c.run.new.sink) c.args.disks.now.items c.run.new.disks.items x c.run.result) (sym is)
    (said.says_run g.D.Disk ghosts (from g c.args.source.now c.read_source.new.source) (to g c.args.sink.now c.run.new.sink) c.in-Ok-Run.n c.in-Ok-Run.m c.in-Ok-Run.mode c.in-Ok-Run.optimistic
    c.args.disks.now.items c.run.new.disks.items c.run.result c.in-Ok.load c.in-Ok.ensures.load c.in-Ok.ensures.end c.read_source.ensures.source
    (subst (λ (x : Choice). RunSays g.D.Disk x c.in-Ok.load (record { old = c.args.disks.now.items; new = c.run.new.disks.items; sink = to g c.args.sink.now c.run.new.sink }) c.run.result) c.choice_of-choice.ensures c.run.ensures.says))

pub run-requires-clause-meant : goal.run-requires-clause-meant
run-requires-clause-meant g c κs within = c.in-Ok.ensures.meant

pub run-requires-clause-streams_low : goal.run-requires-clause-streams_low
run-requires-clause-streams_low g c κs within = subst (λ (x : Choice). 1 ≤ x.streams) (sym c.choice_of-choice.ensures) (within_of (map string_bytes c.args.words.now) c.in-Ok-Run.field-0 (Run c.in-Ok-Run.n c.in-Ok-Run.m c.in-Ok-Run.mode c.in-Ok-Run.optimistic) c.in-Ok-Run.ensures.ok c.in-Ok-Run.field-0-is).0.0

pub run-requires-clause-streams_high : goal.run-requires-clause-streams_high
run-requires-clause-streams_high g c κs within = subst (λ (x : Choice). x.streams ≤ most_streams (format_of x.mode)) (sym c.choice_of-choice.ensures) (within_of (map string_bytes c.args.words.now) c.in-Ok-Run.field-0 (Run c.in-Ok-Run.n c.in-Ok-Run.m c.in-Ok-Run.mode c.in-Ok-Run.optimistic) c.in-Ok-Run.ensures.ok c.in-Ok-Run.field-0-is).0.1

pub run-requires-clause-low : goal.run-requires-clause-low
run-requires-clause-low g c κs within = subst (λ (x : Choice). 1 ≤ x.workers) (sym c.choice_of-choice.ensures) (within_of (map string_bytes c.args.words.now) c.in-Ok-Run.field-0 (Run c.in-Ok-Run.n c.in-Ok-Run.m c.in-Ok-Run.mode c.in-Ok-Run.optimistic) c.in-Ok-Run.ensures.ok c.in-Ok-Run.field-0-is).1

pub run-requires-clause-high : goal.run-requires-clause-high
run-requires-clause-high g c κs within = subst (λ (x : Choice). x.workers ≤ 32) (sym c.choice_of-choice.ensures) (few_workers (format_of c.in-Ok-Run.mode) c.in-Ok-Run.m (within_of (map string_bytes c.args.words.now) c.in-Ok-Run.field-0 (Run c.in-Ok-Run.n c.in-Ok-Run.m c.in-Ok-Run.mode c.in-Ok-Run.optimistic) c.in-Ok-Run.ensures.ok c.in-Ok-Run.field-0-is).2)

pub run-requires-clause-runnable : goal.run-requires-clause-runnable
run-requires-clause-runnable g c κs within = c.in-Ok.ensures.runnable

-- ---- a recovery

pub recover-requires-clause-workers : goal.recover-requires-clause-workers
recover-requires-clause-workers g c κs within = (let bounds = within_of (map string_bytes c.args.words.now) c.in-Ok-Recover.field-0 (Recover c.in-Ok-Recover.n c.in-Ok-Recover.p) c.in-Ok-Recover.ensures.ok c.in-Ok-Recover.field-0-is in (bounds.1, bounds.2))

pub recover-requires-clause-low : goal.recover-requires-clause-low
recover-requires-clause-low g c κs within = subst (λ (k : ℕ). 1 ≤ k) (sym c.from.ensures) (within_of (map string_bytes c.args.words.now) c.in-Ok-Recover.field-0 (Recover c.in-Ok-Recover.n c.in-Ok-Recover.p) c.in-Ok-Recover.ensures.ok c.in-Ok-Recover.field-0-is).0.0

pub recover-requires-clause-high : goal.recover-requires-clause-high
recover-requires-clause-high g c κs within = subst (λ (k : ℕ). k ≤ 32) (sym c.from.ensures) (within_of (map string_bytes c.args.words.now) c.in-Ok-Recover.field-0 (Recover c.in-Ok-Recover.n c.in-Ok-Recover.p) c.in-Ok-Recover.ensures.ok c.in-Ok-Recover.field-0-is).0.1

pub recover-requires-clause-there : goal.recover-requires-clause-there
recover-requires-clause-there g c κs within =
    let high = recover-requires-clause-high g c κs within in
    let long : length c.deref_mut.result.now ≡ c.args.disks.now.len = search rules in
    let all = c.requires in
    omega (arith, high, long, all)

pub returns-in-Ok-Recover-clause-says : goal.returns-in-Ok-Recover-clause-says
returns-in-Ok-Recover-clause-says g c =
    let is = asked (command_of (map string_bytes c.args.words.now)) c.in-Ok-Recover.field-0 (Recover c.in-Ok-Recover.n c.in-Ok-Recover.p) c.in-Ok-Recover.ensures.ok c.in-Ok-Recover.field-0-is in
    let long : length c.recover.new.disks ≡ c.args.disks.now.len = search rules in
    let back = handed_back c.recover.new.disks c.args.disks.now.items c.args.disks.now.len long in
    let now = take c.args.disks.now.len (c.recover.new.disks ++ drop (length c.recover.new.disks) c.args.disks.now.items) in
    let o = to g c.args.sink.now c.recover.new.sink in
    subst (λ (x : Option Command). Says g.D.Disk ghosts (from g c.args.source.now c.args.source.now) o c.args.disks.now.items now x c.recover.result) (sym is)
    (said.says_reading g.D.Disk ghosts (from g c.args.source.now c.args.source.now) o c.args.disks.now.items now (Some (Recover c.in-Ok-Recover.n c.in-Ok-Recover.p)) c.recover.result c.in-Ok-Recover.n refl refl refl refl refl
    (read_at g o c.deref_mut.result.now c.args.disks.now.items c.recover.new.disks now c.recover.result c.from.result c.in-Ok-Recover.n c.deref_mut.ensures.value back c.from.ensures c.recover.ensures.read)
    (recover_at g o c.deref_mut.result.now c.args.disks.now.items c.recover.new.disks now c.recover.result c.from.result c.in-Ok-Recover.n c.deref_mut.ensures.value back c.from.ensures c.recover.ensures.of))

-- ---- an inspection

pub inspect-requires-clause-low : goal.inspect-requires-clause-low
inspect-requires-clause-low g c = subst (λ (k : ℕ). 1 ≤ k) (sym c.from-in-Ok-Inspect.ensures) (within_of (map string_bytes c.args.words.now) c.in-Ok-Inspect.field-0 (Inspect c.in-Ok-Inspect.n) c.in-Ok-Inspect.ensures.ok c.in-Ok-Inspect.field-0-is).0

pub inspect-requires-clause-high : goal.inspect-requires-clause-high
inspect-requires-clause-high g c = subst (λ (k : ℕ). k ≤ 32) (sym c.from-in-Ok-Inspect.ensures) (within_of (map string_bytes c.args.words.now) c.in-Ok-Inspect.field-0 (Inspect c.in-Ok-Inspect.n) c.in-Ok-Inspect.ensures.ok c.in-Ok-Inspect.field-0-is).1

pub inspect-requires-clause-there : goal.inspect-requires-clause-there
inspect-requires-clause-there g c =
    let high = inspect-requires-clause-high g c in
    let long : length c.deref_mut-in-Ok-Inspect.result.now ≡ c.args.disks.now.len = search rules in
    let all = c.requires in
    omega (arith, high, long, all)

pub returns-in-Ok-Inspect-clause-says : goal.returns-in-Ok-Inspect-clause-says
returns-in-Ok-Inspect-clause-says g c =
    let is = asked (command_of (map string_bytes c.args.words.now)) c.in-Ok-Inspect.field-0 (Inspect c.in-Ok-Inspect.n) c.in-Ok-Inspect.ensures.ok c.in-Ok-Inspect.field-0-is in
    let long : length c.inspect.new.disks ≡ c.args.disks.now.len = search rules in
    let back = handed_back c.inspect.new.disks c.args.disks.now.items c.args.disks.now.len long in
    let now = take c.args.disks.now.len (c.inspect.new.disks ++ drop (length c.inspect.new.disks) c.args.disks.now.items) in
    let o = to g c.args.sink.now c.inspect.new.sink in
    subst (λ (x : Option Command). Says g.D.Disk ghosts (from g c.args.source.now c.args.source.now) o c.args.disks.now.items now x c.inspect.result) (sym is)
    (said.says_reading g.D.Disk ghosts (from g c.args.source.now c.args.source.now) o c.args.disks.now.items now (Some (Inspect c.in-Ok-Inspect.n)) c.inspect.result c.in-Ok-Inspect.n refl refl refl refl refl
    (read_at g o c.deref_mut-in-Ok-Inspect.result.now c.args.disks.now.items c.inspect.new.disks now c.inspect.result c.from-in-Ok-Inspect.result c.in-Ok-Inspect.n c.deref_mut-in-Ok-Inspect.ensures.value back c.from-in-Ok-Inspect.ensures c.inspect.ensures.read)
    (inspect_at g o c.deref_mut-in-Ok-Inspect.result.now c.args.disks.now.items c.inspect.new.disks now c.inspect.result c.from-in-Ok-Inspect.result c.in-Ok-Inspect.n c.deref_mut-in-Ok-Inspect.ensures.value back c.from-in-Ok-Inspect.ensures c.inspect.ensures.of))

-- ---- a follower

pub follow-requires-clause-low : goal.follow-requires-clause-low
follow-requires-clause-low g c = (within_of (map string_bytes c.args.words.now) c.in-Ok-Follow.field-0 (Follow c.in-Ok-Follow.n) c.in-Ok-Follow.ensures.ok c.in-Ok-Follow.field-0-is).0

pub follow-requires-clause-high : goal.follow-requires-clause-high
follow-requires-clause-high g c = (within_of (map string_bytes c.args.words.now) c.in-Ok-Follow.field-0 (Follow c.in-Ok-Follow.n) c.in-Ok-Follow.ensures.ok c.in-Ok-Follow.field-0-is).1

pub returns-in-Ok-Follow-clause-says : goal.returns-in-Ok-Follow-clause-says
returns-in-Ok-Follow-clause-says g c =
    let is = asked (command_of (map string_bytes c.args.words.now)) c.in-Ok-Follow.field-0 (Follow c.in-Ok-Follow.n) c.in-Ok-Follow.ensures.ok c.in-Ok-Follow.field-0-is in
    subst (λ (x : Option Command). Says g.D.Disk ghosts (from g c.args.source.now c.follow.new.source) (to g c.args.sink.now c.follow.new.sink) c.args.disks.now.items c.args.disks.now.items x c.follow.result) (sym is)
    (said.says_follow g.D.Disk ghosts (from g c.args.source.now c.follow.new.source) (to g c.args.sink.now c.follow.new.sink) c.args.disks.now.items c.in-Ok-Follow.n c.follow.result c.follow.ensures.source c.follow.ensures.ends c.follow.ensures.of)

-- ---- an audit

pub audit-requires-clause-low : goal.audit-requires-clause-low
audit-requires-clause-low g c = (within_of (map string_bytes c.args.words.now) c.in-Ok-Audit.field-0 (Audit c.in-Ok-Audit.n c.in-Ok-Audit.m) c.in-Ok-Audit.ensures.ok c.in-Ok-Audit.field-0-is).0.0

pub audit-requires-clause-high : goal.audit-requires-clause-high
audit-requires-clause-high g c = (within_of (map string_bytes c.args.words.now) c.in-Ok-Audit.field-0 (Audit c.in-Ok-Audit.n c.in-Ok-Audit.m) c.in-Ok-Audit.ensures.ok c.in-Ok-Audit.field-0-is).0.1

pub audit-requires-clause-there : goal.audit-requires-clause-there
audit-requires-clause-there g c =
    let high = (within_of (map string_bytes c.args.words.now) c.in-Ok-Audit.field-0 (Audit c.in-Ok-Audit.n c.in-Ok-Audit.m) c.in-Ok-Audit.ensures.ok c.in-Ok-Audit.field-0-is).0.1 in
    let long : length c.deref_mut-in-Ok-Audit.result.now ≡ c.args.disks.now.len = search rules in
    let all = c.requires in
    omega (arith, high, long, all)

pub audit-requires-clause-workers : goal.audit-requires-clause-workers
audit-requires-clause-workers g c = (let bounds = within_of (map string_bytes c.args.words.now) c.in-Ok-Audit.field-0 (Audit c.in-Ok-Audit.n c.in-Ok-Audit.m) c.in-Ok-Audit.ensures.ok c.in-Ok-Audit.field-0-is in (bounds.1, bounds.2))

pub returns-in-Ok-Audit-clause-says : goal.returns-in-Ok-Audit-clause-says
returns-in-Ok-Audit-clause-says g c =
    let is = asked (command_of (map string_bytes c.args.words.now)) c.in-Ok-Audit.field-0 (Audit c.in-Ok-Audit.n c.in-Ok-Audit.m) c.in-Ok-Audit.ensures.ok c.in-Ok-Audit.field-0-is in
    let long : length c.audit.new.disks ≡ c.args.disks.now.len = search rules in
    let back = handed_back c.audit.new.disks c.args.disks.now.items c.args.disks.now.len long in
    let now = take c.args.disks.now.len (c.audit.new.disks ++ drop (length c.audit.new.disks) c.args.disks.now.items) in
    let s = from g c.args.source.now c.audit.new.source in
    let o = to g c.args.sink.now c.audit.new.sink in
    subst (λ (x : Option Command). Says g.D.Disk ghosts s o c.args.disks.now.items now x c.audit.result) (sym is)
    (subst (λ (ds : List g.row.D.Denot). Says g.D.Disk ghosts s o ds now (Some (Audit c.in-Ok-Audit.n c.in-Ok-Audit.m)) c.audit.result) c.deref_mut-in-Ok-Audit.ensures.value
    (subst (λ (ds : List g.row.D.Denot). Says g.D.Disk ghosts s o c.deref_mut-in-Ok-Audit.result.now ds (Some (Audit c.in-Ok-Audit.n c.in-Ok-Audit.m)) c.audit.result) (sym back)
    (says_audit g.D.Disk ghosts s o c.deref_mut-in-Ok-Audit.result.now c.audit.new.disks c.in-Ok-Audit.n c.in-Ok-Audit.m c.audit.result c.audit.ensures.source c.audit.ensures.ends c.audit.ensures.of)))

-- ---- a drill

pub drill_source-requires-clause-streams_low : goal.drill_source-requires-clause-streams_low
drill_source-requires-clause-streams_low g c κs within = (within_of (map string_bytes c.args.words.now) c.in-Ok-Drill.field-0 (Drill c.in-Ok-Drill.n c.in-Ok-Drill.m c.in-Ok-Drill.field-0-2 c.in-Ok-Drill.ending) c.in-Ok-Drill.ensures.ok c.in-Ok-Drill.field-0-is).0.0

pub drill_source-requires-clause-streams_high : goal.drill_source-requires-clause-streams_high
drill_source-requires-clause-streams_high g c κs within = (within_of (map string_bytes c.args.words.now) c.in-Ok-Drill.field-0 (Drill c.in-Ok-Drill.n c.in-Ok-Drill.m c.in-Ok-Drill.field-0-2 c.in-Ok-Drill.ending) c.in-Ok-Drill.ensures.ok c.in-Ok-Drill.field-0-is).0.1

pub drill_source-requires-clause-low : goal.drill_source-requires-clause-low
drill_source-requires-clause-low g c κs within = (within_of (map string_bytes c.args.words.now) c.in-Ok-Drill.field-0 (Drill c.in-Ok-Drill.n c.in-Ok-Drill.m c.in-Ok-Drill.field-0-2 c.in-Ok-Drill.ending) c.in-Ok-Drill.ensures.ok c.in-Ok-Drill.field-0-is).1.0

pub drill_source-requires-clause-high : goal.drill_source-requires-clause-high
drill_source-requires-clause-high g c κs within = (within_of (map string_bytes c.args.words.now) c.in-Ok-Drill.field-0 (Drill c.in-Ok-Drill.n c.in-Ok-Drill.m c.in-Ok-Drill.field-0-2 c.in-Ok-Drill.ending) c.in-Ok-Drill.ensures.ok c.in-Ok-Drill.field-0-is).1.1

pub drill_source-requires-clause-ending : goal.drill_source-requires-clause-ending
drill_source-requires-clause-ending g c κs within = (within_of (map string_bytes c.args.words.now) c.in-Ok-Drill.field-0 (Drill c.in-Ok-Drill.n c.in-Ok-Drill.m c.in-Ok-Drill.field-0-2 c.in-Ok-Drill.ending) c.in-Ok-Drill.ensures.ok c.in-Ok-Drill.field-0-is).2

pub returns-in-Ok-Drill-clause-says : goal.returns-in-Ok-Drill-clause-says
returns-in-Ok-Drill-clause-says g c =
    let is = asked (command_of (map string_bytes c.args.words.now)) c.in-Ok-Drill.field-0 (Drill c.in-Ok-Drill.n c.in-Ok-Drill.m c.in-Ok-Drill.field-0-2 c.in-Ok-Drill.ending) c.in-Ok-Drill.ensures.ok c.in-Ok-Drill.field-0-is in
    let s = from g c.args.source.now c.drill_source.new.source in
    let o = to g c.args.sink.now c.drill_source.new.sink in
    let d = c.drill_source.ensures in
    subst (λ (x : Option Command). Says g.D.Disk ghosts s o c.args.disks.now.items c.args.disks.now.items x c.drill_source.result) (sym is)
    (said.says_drill g.D.Disk ghosts s o c.in-Ok-Drill.n c.in-Ok-Drill.m c.in-Ok-Drill.field-0-2 c.in-Ok-Drill.ending c.drill_source.result d.kind c.args.disks.now.items
    (said.read_for_drill g.D.Disk ghosts s o c.in-Ok-Drill.n c.in-Ok-Drill.m c.in-Ok-Drill.field-0-2 c.in-Ok-Drill.ending c.drill_source.result d.kind d.read_fault d.too_long d.too_long_told d.bad_text d.bad_text_told d.behind_text d.source d.source_end)
    d.write_fault d.refusal d.silent (record { drill = d.told; done = d.done }))

-- ---- the measured job

pub bench-requires-clause-start : goal.bench-requires-clause-start
bench-requires-clause-start g c κs within = (within_of (map string_bytes c.args.words.now) c.in-Ok-Bench.field-0 (Bench c.in-Ok-Bench.start c.in-Ok-Bench.calls c.in-Ok-Bench.n c.in-Ok-Bench.m) c.in-Ok-Bench.ensures.ok c.in-Ok-Bench.field-0-is).0.0

pub bench-requires-clause-calls : goal.bench-requires-clause-calls
bench-requires-clause-calls g c κs within = (within_of (map string_bytes c.args.words.now) c.in-Ok-Bench.field-0 (Bench c.in-Ok-Bench.start c.in-Ok-Bench.calls c.in-Ok-Bench.n c.in-Ok-Bench.m) c.in-Ok-Bench.ensures.ok c.in-Ok-Bench.field-0-is).0.1

pub bench-requires-clause-streams_low : goal.bench-requires-clause-streams_low
bench-requires-clause-streams_low g c κs within = (within_of (map string_bytes c.args.words.now) c.in-Ok-Bench.field-0 (Bench c.in-Ok-Bench.start c.in-Ok-Bench.calls c.in-Ok-Bench.n c.in-Ok-Bench.m) c.in-Ok-Bench.ensures.ok c.in-Ok-Bench.field-0-is).1.0

pub bench-requires-clause-streams_high : goal.bench-requires-clause-streams_high
bench-requires-clause-streams_high g c κs within = (within_of (map string_bytes c.args.words.now) c.in-Ok-Bench.field-0 (Bench c.in-Ok-Bench.start c.in-Ok-Bench.calls c.in-Ok-Bench.n c.in-Ok-Bench.m) c.in-Ok-Bench.ensures.ok c.in-Ok-Bench.field-0-is).1.1

pub bench-requires-clause-low : goal.bench-requires-clause-low
bench-requires-clause-low g c κs within = (within_of (map string_bytes c.args.words.now) c.in-Ok-Bench.field-0 (Bench c.in-Ok-Bench.start c.in-Ok-Bench.calls c.in-Ok-Bench.n c.in-Ok-Bench.m) c.in-Ok-Bench.ensures.ok c.in-Ok-Bench.field-0-is).2

pub bench-requires-clause-high : goal.bench-requires-clause-high
bench-requires-clause-high g c κs within = (within_of (map string_bytes c.args.words.now) c.in-Ok-Bench.field-0 (Bench c.in-Ok-Bench.start c.in-Ok-Bench.calls c.in-Ok-Bench.n c.in-Ok-Bench.m) c.in-Ok-Bench.ensures.ok c.in-Ok-Bench.field-0-is).3

pub returns-in-Ok-Bench-clause-says : goal.returns-in-Ok-Bench-clause-says
returns-in-Ok-Bench-clause-says g c =
    let is = asked (command_of (map string_bytes c.args.words.now)) c.in-Ok-Bench.field-0 (Bench c.in-Ok-Bench.start c.in-Ok-Bench.calls c.in-Ok-Bench.n c.in-Ok-Bench.m) c.in-Ok-Bench.ensures.ok c.in-Ok-Bench.field-0-is in
    subst (λ (x : Option Command). Says g.D.Disk ghosts (from g c.args.source.now c.args.source.now) (to g c.args.sink.now c.bench.new.sink) c.args.disks.now.items c.args.disks.now.items x c.bench.result) (sym is)
    (said.says_bench g.D.Disk ghosts (from g c.args.source.now c.args.source.now) (to g c.args.sink.now c.bench.new.sink) c.args.disks.now.items c.in-Ok-Bench.start c.in-Ok-Bench.calls c.in-Ok-Bench.n c.in-Ok-Bench.m c.bench.result refl
    c.bench.ensures.kind c.bench.ensures.write_fault c.bench.ensures.told)

-- ---- a checkpoint

pub checkpoint-requires-clause-low : goal.checkpoint-requires-clause-low
checkpoint-requires-clause-low g c κs within = (within_of (map string_bytes c.args.words.now) c.in-Ok-Checkpoint.field-0 (Checkpoint c.in-Ok-Checkpoint.n c.in-Ok-Checkpoint.p) c.in-Ok-Checkpoint.ensures.ok c.in-Ok-Checkpoint.field-0-is).0.0

pub checkpoint-requires-clause-high : goal.checkpoint-requires-clause-high
checkpoint-requires-clause-high g c κs within = (within_of (map string_bytes c.args.words.now) c.in-Ok-Checkpoint.field-0 (Checkpoint c.in-Ok-Checkpoint.n c.in-Ok-Checkpoint.p) c.in-Ok-Checkpoint.ensures.ok c.in-Ok-Checkpoint.field-0-is).0.1

pub checkpoint-requires-clause-workers : goal.checkpoint-requires-clause-workers
checkpoint-requires-clause-workers g c κs within = (let bounds = within_of (map string_bytes c.args.words.now) c.in-Ok-Checkpoint.field-0 (Checkpoint c.in-Ok-Checkpoint.n c.in-Ok-Checkpoint.p) c.in-Ok-Checkpoint.ensures.ok c.in-Ok-Checkpoint.field-0-is in (bounds.1, bounds.2))

pub returns-in-Ok-Checkpoint-clause-says : goal.returns-in-Ok-Checkpoint-clause-says
returns-in-Ok-Checkpoint-clause-says g c =
    let is = asked (command_of (map string_bytes c.args.words.now)) c.in-Ok-Checkpoint.field-0 (Checkpoint c.in-Ok-Checkpoint.n c.in-Ok-Checkpoint.p) c.in-Ok-Checkpoint.ensures.ok c.in-Ok-Checkpoint.field-0-is in
    let long : length c.checkpoint.new.disks ≡ c.args.disks.now.len = search rules in
    let back = handed_back c.checkpoint.new.disks c.args.disks.now.items c.args.disks.now.len long in
    let now = take c.args.disks.now.len (c.checkpoint.new.disks ++ drop (length c.checkpoint.new.disks) c.args.disks.now.items) in
    let s = from g c.args.source.now c.args.source.now in
    let o = to g c.args.sink.now c.checkpoint.new.sink in
    let command = Some (Checkpoint c.in-Ok-Checkpoint.n c.in-Ok-Checkpoint.p) in
    subst (λ (x : Option Command). Says g.D.Disk ghosts s o c.args.disks.now.items now x c.checkpoint.result) (sym is)
    (subst (λ (ds : List g.row.D.Denot). Says g.D.Disk ghosts s o ds now command c.checkpoint.result) c.deref_mut-in-Ok-Checkpoint.ensures.value
    (subst (λ (ds : List g.row.D.Denot). Says g.D.Disk ghosts s o c.deref_mut-in-Ok-Checkpoint.result.now ds command c.checkpoint.result) (sym back)
    (says_slots g.D.Disk ghosts s o c.deref_mut-in-Ok-Checkpoint.result.now c.checkpoint.new.disks command c.checkpoint.result c.in-Ok-Checkpoint.n refl refl refl refl refl c.checkpoint.ensures.ended (λ e. absurd (cc e)) c.checkpoint.ensures.of)))

-- ---- a recovery with a checkpoint

pub restore-requires-clause-low : goal.restore-requires-clause-low
restore-requires-clause-low g c κs within = (within_of (map string_bytes c.args.words.now) c.in-Ok-Restore.field-0 (Restore c.in-Ok-Restore.n c.in-Ok-Restore.p) c.in-Ok-Restore.ensures.ok c.in-Ok-Restore.field-0-is).0.0

pub restore-requires-clause-high : goal.restore-requires-clause-high
restore-requires-clause-high g c κs within = (within_of (map string_bytes c.args.words.now) c.in-Ok-Restore.field-0 (Restore c.in-Ok-Restore.n c.in-Ok-Restore.p) c.in-Ok-Restore.ensures.ok c.in-Ok-Restore.field-0-is).0.1

pub restore-requires-clause-workers : goal.restore-requires-clause-workers
restore-requires-clause-workers g c κs within = (let bounds = within_of (map string_bytes c.args.words.now) c.in-Ok-Restore.field-0 (Restore c.in-Ok-Restore.n c.in-Ok-Restore.p) c.in-Ok-Restore.ensures.ok c.in-Ok-Restore.field-0-is in (bounds.1, bounds.2))

pub returns-in-Ok-Restore-clause-says : goal.returns-in-Ok-Restore-clause-says
returns-in-Ok-Restore-clause-says g c =
    let is = asked (command_of (map string_bytes c.args.words.now)) c.in-Ok-Restore.field-0 (Restore c.in-Ok-Restore.n c.in-Ok-Restore.p) c.in-Ok-Restore.ensures.ok c.in-Ok-Restore.field-0-is in
    let long : length c.restore.new.disks ≡ c.args.disks.now.len = search rules in
    let back = handed_back c.restore.new.disks c.args.disks.now.items c.args.disks.now.len long in
    let now = take c.args.disks.now.len (c.restore.new.disks ++ drop (length c.restore.new.disks) c.args.disks.now.items) in
    let s = from g c.args.source.now c.args.source.now in
    let o = to g c.args.sink.now c.restore.new.sink in
    let command = Some (Restore c.in-Ok-Restore.n c.in-Ok-Restore.p) in
    subst (λ (x : Option Command). Says g.D.Disk ghosts s o c.args.disks.now.items now x c.restore.result) (sym is)
    (subst (λ (ds : List g.row.D.Denot). Says g.D.Disk ghosts s o ds now command c.restore.result) c.deref_mut-in-Ok-Restore.ensures.value
    (subst (λ (ds : List g.row.D.Denot). Says g.D.Disk ghosts s o c.deref_mut-in-Ok-Restore.result.now ds command c.restore.result) (sym back)
    (says_slots g.D.Disk ghosts s o c.deref_mut-in-Ok-Restore.result.now c.restore.new.disks command c.restore.result c.in-Ok-Restore.n refl refl refl refl refl c.restore.ensures.ended (λ e. c.restore.ensures.read) c.restore.ensures.of)))
