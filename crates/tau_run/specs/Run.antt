-- A run: the calls that it committed, where their records stand, and what it tells of them.
use Rattle.std.specs.Prelude.{ℕ, zero, suc, ◌+◌, ◌-◌, ◌%◌, ◌<◌, ◌≤◌, Bool, true, false, ◌==◌, ◌≡◌, List, [], ◌∷◌, ◌++◌, map, length, slice_get, slice_index, Option, Some, None, if◌then◌else◌}
use Rattle.std.specs.List.{filter, list_any}
use Rattle.tau_base.specs.declared.value.Key.{Key}
use Rattle.tau_base.specs.declared.value.Value.{Value}
use Rattle.tau_base.specs.declared.value.Call.{Call}
use Rattle.tau_base.specs.declared.value.LogMode.{LogMode}
use Rattle.tau_base.specs.Modes.{is_command}
use Rattle.tau_base.specs.Database.{Db}
use Rattle.tau_proc.specs.declared.proc.Proc.{Proc}
use Rattle.tau_proc.specs.declared.reply.Reply.{Reply}
use Rattle.tau_proc.specs.Effect.{Effect}
use Rattle.tau_proc.specs.Meaning.{meaning}
use Rattle.tau_model.specs.History.{Act, Member, trace, exec, updates}
use Rattle.tau_model.specs.Logged.{Place, lv}
use Rattle.tau_model.specs.Redo.{Content, Written, Command}
use Rattle.tau_model.specs.Reported.{in_stream, reported_of}
use Rattle.tau_model.specs.Tables.{IsTablesOf}
use Rattle.tau_machine.specs.Hands.{Txn}
use Rattle.tau_machine.specs.State.{Ticket}
use Rattle.tau_text.specs.declared.load.Workload.{Workload}
use Rattle.tau_scan.specs.Taken.{Kept}
use Rattle.tau_report.specs.declared.report.Fate.{Fate}
use Rattle.tau_report.specs.declared.report.Fate.TheVariants.{Acked, Unsure, Unrun}
use Rattle.tau_report.specs.declared.report.RunReport.{RunReport}
use Rattle.tau_report.specs.Report.{report_text}
use Rattle.tau_run.specs.Start.{Start, opened_at}

-- a call that committed: its number, itself, whether it has a record, and its place. Of the place of a call
-- without a record only the vector counts
pub record Committed : Type 0 where
  pub number : ℕ
  pub call : Call
  pub logs : Bool
  pub place : Place

-- a run: where it began, the committed calls in the order of the report, the contents that the streams have at the end,
-- and the acknowledged calls with their vectors in the order of acknowledgement
pub record Run : Type 0 where
  pub start : Start
  pub calls : List Committed
  pub contents : List (List ℕ)
  pub acks : List (ℕ × List ℕ)

-- a committed call, as the report has it
abbrev pub told_of : Act Txn → Committed
told_of t = record { number = t.call.call.number; call = t.call.call.call; logs = updates t.effect; place = t.call.place }

abbrev pub pair_of : Ticket → ℕ × List ℕ
pair_of k = (k.number, k.lv)

abbrev pub ends : Run → List ℕ
ends run = map length run.contents

abbrev pub means : List Proc → Committed → Db → Effect
means procs c db = meaning procs c.call db

-- the committed calls with what they do one after another, from where the run began
abbrev pub acts : List Proc → Run → List (Act Committed)
acts procs run = trace (means procs) run.calls run.start.base

-- the vector of a call, with its own component at the end of its record where it has one
abbrev pub vector_of : Committed → List ℕ
vector_of c = lv c.logs c.place

-- the numbers below this one
abbrev pub below : ℕ → List ℕ
below zero = []
below (suc n) = below n ++ n ∷ []

abbrev pub Distinct : List ℕ → Type 0
Distinct [] = Unit {0}
Distinct (k ∷ ks) = (Member k ks → ⊥) × Distinct ks

-- the records stand one after the other, from this place to that
abbrev pub StandBetween : ℕ → ℕ → List Committed → Type 0
StandBetween from to [] = from ≤ to
StandBetween from to (c ∷ cs) = (from ≤ c.place.start) × (c.place.start < c.place.past) × StandBetween c.place.past to cs

abbrev pub of_stream : List Committed → ℕ → List Committed
of_stream calls j = filter (in_stream (λ (c : Committed). c.place) (λ c. c.logs) j) calls

-- a history of this workload by m workers over n streams, whose records stand after what each stream held first
pub record IsHistory (n m : ℕ) (load : Workload) (run : Run) : Type 0 where
  -- each committed call is that call of the workload, once
  pub of_workload : (c : Committed) → Member c run.calls → (1 ≤ c.number) × (slice_get load.calls (c.number - 1) ≡ Some c.call)
  pub once : Distinct (map (λ c. c.number) run.calls)
  -- a call has a record exactly where it writes, and in the stream of its worker
  pub logs : map (λ c. c.logs) run.calls ≡ map (λ x. updates x.effect) (acts load.declarations.procs run)
  pub homes : (c : Committed) → Member c run.calls → c.logs ≡ true → c.place.stream ≡ ((c.number - 1) % m) % n
  pub stand : (j : ℕ) → j < n → StandBetween (length (opened_at load run.start j)) (slice_index (ends run) j) (of_stream run.calls j)
  pub widths : (c : Committed) → Member c run.calls → length c.place.dep ≡ n
  pub streams : length run.contents ≡ n
  -- the calls stand in the order of the reported history
  pub order : run.calls ≡ reported_of (λ (c : Committed). c.place) (λ c. c.logs) (λ c. c.number) (ends run) run.calls
  -- each acknowledged call committed and has this vector, and none is acknowledged twice
  pub acked : (a : ℕ × List ℕ) → Member a run.acks → (c : Committed) × Member c run.calls × (c.number ≡ a.0) × (vector_of c ≡ a.1)
  pub acked_once : Distinct (map (λ a. a.0) run.acks)

abbrev pub has_ack : Run → ℕ → Bool
has_ack run k = list_any (λ a. a.0 == k) run.acks

-- the reply of the call with this number, where it is among them
abbrev pub reply_in : ℕ → List (Act Committed) → Option Reply
reply_in k [] = None
reply_in k (x ∷ xs) = if x.call.number == k then Some x.effect.reply else reply_in k xs

abbrev pub fate : Option Reply → Bool → Fate
fate None acknowledged = Unrun
fate (Some r) true = Acked r
fate (Some r) false = Unsure r

abbrev pub fates : Workload → Run → List Fate
fates load run = map (λ k. fate (reply_in (k + 1) (acts load.declarations.procs run)) (has_ack run (k + 1))) (below (length load.calls))

-- what a run tells, with these rows
abbrev pub report_of : Workload → Run → List (Key × Value) → RunReport
report_of load run rows = record { acks = run.acks; fates = fates load run; order = map (λ c. c.number) run.calls; tables = rows }

-- the database after the history
abbrev pub last_db : Workload → Run → Db
last_db load run = exec (means load.declarations.procs) run.calls run.start.base

-- what the record of a call holds
abbrev pub content_of : LogMode → Act Committed → Content
content_of mode x = if is_command mode then Command x.call.call else Written x.effect.writes

abbrev pub record_of : LogMode → Act Committed → Kept
record_of mode x = record { number = x.call.number; place = x.call.place; content = content_of mode x }

-- the records of a stream, in its order
abbrev pub records_in : LogMode → Workload → Run → ℕ → List Kept
records_in mode load run j = map (record_of mode) (filter (in_stream (λ (x : Act Committed). x.call.place) (λ x. x.call.logs) j) (acts load.declarations.procs run))

-- every call of the workload is acknowledged
abbrev pub AllAcked : Workload → Run → Type 0
AllAcked load run = (k : ℕ) → 1 ≤ k → k ≤ length load.calls → has_ack run k ≡ true

-- the report of this run, with the stream whose disk failed
pub record IsReportOf (load : Workload) (run : Run) (failed : Option ℕ) (text : List ℕ) : Type 0 where
  pub rows : List (Key × Value)
  pub present : IsTablesOf (last_db load run) rows
  pub text_is : text ≡ report_text load.declarations.tables (report_of load run rows) failed
