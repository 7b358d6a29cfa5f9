-- What an audit tells.
use Rattle.std.specs.Prelude.{ℕ, false, ◌<◌, ◌≡◌, List, [], ◌∷◌, ◌++◌, codes, None, Ok, Err, true, ◌⊎◌, Some}
use Rattle.std.specs.Fmt.{decimal}
use Rattle.tau_disk.specs.declared.disk.Disk.{Ghosts}
use Rattle.tau_disk.specs.Disk.{Rose}
use Rattle.tau_disk.specs.Used.{RoseAt}
use Rattle.tau_model.specs.History.{Member}
use Rattle.tau_text.specs.declared.load.Workload.{Workload}
use Rattle.tau_scan.specs.declared.fault.LogFault.{LogFault}
use Rattle.tau_scan.specs.declared.log.Log.{Log}
use Rattle.tau_scan.specs.Reading.{log_of}
use Rattle.tau_report.specs.Lines.{line, end_line}
use Rattle.tau_report.specs.declared.report.RunReport.{RunReport}
use Rattle.tau_inspect.specs.declared.verdict.Check.{Check}
use Rattle.tau_inspect.specs.declared.verdict.Check.TheVariants as check
use Rattle.tau_inspect.specs.declared.verdict.Verdict.{Verdict}
use Rattle.tau_inspect.specs.declared.verdict.Verdict.TheVariants as verdict
use Rattle.tau_inspect.specs.Audit.{Case, IsVerdict, case_of}
use Rattle.tau_commands.specs.declared.status.Status.{Status}
use Rattle.tau_commands.specs.declared.status.Status.TheVariants as status
use Rattle.tau_commands.specs.Inspecting.{TellsText}
use Rattle.tau_commands.specs.Outside.{Input, Output, Wrote, is_before_disks}
use Rattle.tau_commands.specs.Recovery.{EndsAsBad, images_of}
use Rattle.tau_commands.specs.Sources.{HasReport, HasSource}
use Rattle.tau_words.specs.declared.command.Command.TheVariants.{Audit}
use Rattle.tau_commands.specs.Ends.{OneLine, wrote}
use Rattle.tau_commands.specs.Cases.{ends_case}
use Rattle.tau_commands.specs.Fault.{is_refusal}
use Rattle.tau_commands.specs.Reads.{HasOnlyRead}

abbrev pub check_word : Check → List ℕ
check_word check.Epoch = codes "epoch"
check_word check.Fate = codes "fate"
check_word check.Reply = codes "reply"
check_word check.Row = codes "row"
check_word check.Record = codes "record"
check_word check.Ack = codes "ack"
check_word check.Closed = codes "closed"
check_word check.Order = codes "order"

abbrev pub verdict_words : Verdict → List (List ℕ)
verdict_words verdict.Yes = codes "yes" ∷ []
verdict_words verdict.Cut = codes "cut" ∷ []
verdict_words (verdict.No failed number) = codes "no" ∷ check_word failed ∷ decimal number ∷ []

-- what an audit writes of its verdict
abbrev pub audit_text : Verdict → List ℕ
audit_text v = line (codes "audit" ∷ verdict_words v) ++ end_line None

-- what is written of the verdict on this case, by how the call ended: its text, a first part of it, or nothing
abbrev pub TellsVerdict : Case → (List ℕ → Type 0) → Status → Type 0
TellsVerdict c wrote status.Ok = (v : Verdict) × IsVerdict c v × TellsText (audit_text v) wrote status.Ok
TellsVerdict c wrote status.WriteFault = (v : Verdict) × IsVerdict c v × TellsText (audit_text v) wrote status.WriteFault
TellsVerdict c wrote status.NoMemory = wrote []
TellsVerdict c wrote other = Unit {0}

-- the log of these images, and the verdict on it
pub record IsAudited (m : ℕ) (load : Workload) (report : RunReport) (images : List (List ℕ)) (v : Verdict) : Type 0 where
  pub log : Log
  pub reads : log_of None images ≡ Ok log
  pub judged : IsVerdict (case_of load m report log) v

abbrev pub AuditTells : ℕ → Workload → RunReport → List (List ℕ) → (List ℕ → Type 0) → Status → Type 0
AuditTells m load report images wrote status.Ok = (v : Verdict) × IsAudited m load report images v × TellsText (audit_text v) wrote status.Ok
AuditTells m load report images wrote status.WriteFault = (v : Verdict) × IsAudited m load report images v × TellsText (audit_text v) wrote status.WriteFault
AuditTells m load report images wrote other = Unit {0}

-- An audit tells the verdict on the workload and the report of its source and on the log of its disks.
pub record OfAudit {D : Type 0} (G : Ghosts D) (s : Input) (o : Output) (old new : List D) (answer : Status) (n m : ℕ) : Type 0 where
  pub audit : s.tells → G.tells → (load : Workload) (report : RunReport) → HasReport n s.left load report → AuditTells m load report (images_of G.seen old n) (Wrote o.hears o.held o.held') answer
  pub bad_log : (fault : LogFault) → answer ≡ status.BadLog fault → G.tells → log_of None (images_of G.seen old n) ≡ Err fault
  pub bad_log_told : s.tells → G.tells → (load : Workload) (report : RunReport) (fault : LogFault) → HasReport n s.left load report → is_before_disks answer ≡ false → log_of None (images_of G.seen old n) ≡ Err fault → EndsAsBad fault answer
  pub done : s.tells → G.tells → (load : Workload) (report : RunReport) (log : Log) → HasReport n s.left load report → log_of None (images_of G.seen old n) ≡ Ok log →
      (s.rose → ⊥) → (Rose o.faults o.faults' → ⊥) → ((j : ℕ) → j < n → RoseAt G.faults old new j → ⊥) → Member answer (status.Ok ∷ status.NoMemory ∷ [])

-- the audit ended before any disk was asked
pub record EndsUnread {D : Type 0} (o : Output) (old new : List D) (answer : Status) : Type 0 where
  pub kind : ends_case answer ≡ true
  pub refusal : is_refusal answer ≡ true → OneLine o answer
  pub silent : answer ≡ status.NoMemory → wrote o answer []
  pub untouched : new ≡ old

-- It ended so, or its source has what it asks and the first disks were at most read: each answer has its cause.
abbrev pub EndsAuditing : {D : Type 0} → Ghosts D → Input → Output → List D → List D → Status → ℕ → ℕ → Type 0
EndsAuditing G s o old new answer n m = EndsUnread o old new answer ⊎ ((s.tells → HasSource (Some (Audit n m)) s.left) × HasOnlyRead G o old new answer n)
