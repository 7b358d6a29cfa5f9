-- Whether the report of a run and a log fit together: the checks of an audit, each as what is to hold, and its verdict.
use Rattle.std.specs.Prelude.{ℕ, ◌-◌, ◌%◌, ◌≡◌, ◌≢◌, ◌==◌, Bool, true, false, List, [], ◌∷◌, length, map, count_by, slice_get, slice_index_or, Option, Some, None, if◌then◌else◌}
use Rattle.std.specs.List.{list_any, range_with_len}
use Rattle.tau_base.specs.declared.value.Key.{Key}
use Rattle.tau_base.specs.declared.value.Value.{Value}
use Rattle.tau_base.specs.declared.value.Value.TheVariants.{Absent}
use Rattle.tau_base.specs.declared.value.Call.{Call}
use Rattle.tau_base.specs.Database.{empty_db}
use Rattle.tau_proc.specs.declared.reply.Reply.{Reply}
use Rattle.tau_proc.specs.declared.reply.Reply.TheVariants as reply
use Rattle.tau_model.specs.History.{Numbered, Act, Member, means, replies, updates, Closed}
use Rattle.tau_model.specs.Logged.{Place, lv}
use Rattle.tau_model.specs.declared.committed.Committed.{Committed}
use Rattle.tau_model.specs.Committed.{lv_at}
use Rattle.tau_model.specs.Redo.{Content, Written, Command}
use Rattle.tau_model.specs.Reported.{reported_of}
use Rattle.tau_model.specs.Tables.{IsTablesOf}
use Rattle.tau_text.specs.declared.load.Workload.{Workload}
use Rattle.tau_scan.specs.declared.log.Log.{Log}
use Rattle.tau_scan.specs.Epochs.{marks_of}
use Rattle.tau_scan.specs.Taken.{Kept, kept_from, taken}
use Rattle.tau_report.specs.declared.report.Fate.{Fate}
use Rattle.tau_report.specs.declared.report.Fate.TheVariants.{Acked, Unsure, Unrun}
use Rattle.tau_report.specs.declared.report.RunReport.{RunReport}
use Rattle.tau_inspect.specs.declared.verdict.Check.{Check}
use Rattle.tau_inspect.specs.declared.verdict.Check.TheVariants as check
use Rattle.tau_inspect.specs.declared.verdict.Verdict.{Verdict}
use Rattle.tau_inspect.specs.declared.verdict.Verdict.TheVariants as verdict
use Rattle.tau_inspect.specs.Executed.{history, acts_of, rows_after}
use Rattle.tau_inspect.specs.Firsts.{AllFit, Finds}
use Rattle.tau_inspect.specs.Taint.{DependsOnMissing}

-- what an audit is given: a workload, how many workers ran it, what they told, and the log
pub record Case : Type 0 where
  pub load : Workload
  pub workers : ℕ
  pub report : RunReport
  pub log : Log

abbrev pub case_of : Workload → ℕ → RunReport → Log → Case
case_of load workers report log = record { load = load; workers = workers; report = report; log = log }

-- the calls of the report's order, each with what it does there
abbrev pub acts : Case → List (Act Numbered)
acts c = acts_of c.load.declarations.procs c.load.calls c.report.order

-- the numbers of the workload's calls
abbrev pub numbers : Case → List ℕ
numbers c = range_with_len 1 (length c.load.calls)

-- the records of calls, by stream and place
abbrev pub records : Case → List Kept
records c = kept_from 0 c.log.streams

abbrev pub has_record : ℕ → List Kept → Bool
has_record number rs = list_any (λ r. r.number == number) rs

abbrev pub has_ack : ℕ → List (ℕ × List ℕ) → Bool
has_ack number acks = list_any (λ a. a.0 == number) acks

-- recovery takes a record of the call
abbrev pub is_taken : Case → Numbered → Bool
is_taken c x = has_record x.number (taken c.log)

-- ---- fate: a call is in the order once exactly if it is told to have replied, and has an `ack` line exactly if it is told as acknowledged

abbrev pub fate_of : Case → ℕ → Fate
fate_of c number = slice_index_or c.report.fates (number - 1) Unrun

abbrev pub times_due : Fate → ℕ
times_due (Acked r) = 1
times_due (Unsure r) = 1
times_due Unrun = 0

abbrev pub is_acked : Fate → Bool
is_acked (Acked r) = true
is_acked (Unsure r) = false
is_acked Unrun = false

pub record IsTold (c : Case) (number : ℕ) : Type 0 where
  pub order : count_by (λ n. n == number) c.report.order ≡ times_due (fate_of c number)
  pub ack : has_ack number c.report.acks ≡ is_acked (fate_of c number)

abbrev pub FitsFate : Case → List ℕ → ℕ → Type 0
FitsFate c before number = IsTold c number

-- ---- reply: it is that of executing the order

abbrev pub reply_of : Fate → Option Reply
reply_of (Acked r) = Some r
reply_of (Unsure r) = Some r
reply_of Unrun = None

abbrev pub FitsReply : Case → List (Act Numbered) → Act Numbered → Type 0
FitsReply c before x = reply_of (fate_of c x.call.number) ≡ Some x.effect.reply

-- ---- row: the rows are those that executing the order leaves

abbrev pub FitRows : Case → Type 0
FitRows c = IsTablesOf (rows_after c.load.declarations.procs c.load.calls c.report.order) c.report.tables

-- ---- record: it is the first one of a call of the order that writes, in the stream of its worker, and holds what the call did;
-- if the call is acknowledged, its vector is that of the record with its end

abbrev pub IsWork : Content → List (Key × Value) → Call → Type 0
IsWork (Written writes) wrote call = writes ≡ wrote
IsWork (Command made) wrote call = made ≡ call

-- it holds what a call of the order did that writes
pub record HasAct (c : Case) (r : Kept) : Type 0 where
  pub act : Act Numbered
  pub there : Member act (acts c)
  pub number : act.call.number ≡ r.number
  pub writes : updates act.effect ≡ true
  pub work : IsWork r.content act.effect.writes act.call.call

-- an acknowledgement of its call has its vector with its end
abbrev pub AckAgrees : Case → Kept → Type 0
AckAgrees c r = (v : List ℕ) → Member (r.number, v) c.report.acks → v ≡ lv true r.place

-- it stands in the stream of the call's worker
abbrev pub IsHome : Case → Kept → Type 0
IsHome c r = r.place.stream ≡ ((r.number - 1) % c.workers) % length c.log.elv

pub record FitsRecord (c : Case) (before : List Kept) (r : Kept) : Type 0 where
  pub act : HasAct c r
  pub first : has_record r.number before ≡ false
  pub home : IsHome c r
  pub ack : AckAgrees c r

-- ---- ack: an acknowledged call that writes is taken, and one that only reads depends on no updating call that is not

pub record Survives (c : Case) (x : Act Numbered) : Type 0 where
  pub taken : updates x.effect ≡ true → is_taken c x.call ≡ true
  pub closed : updates x.effect ≡ false → DependsOnMissing (is_taken c) (acts c) x → ⊥

abbrev pub FitsAck : Case → List (ℕ × List ℕ) → ℕ × List ℕ → Type 0
FitsAck c before a = (x : Act Numbered) → Member x (acts c) → x.call.number ≡ a.0 → Survives c x

-- ---- closed: a taken call depends on no updating call that is not taken

abbrev pub FitsClosed : Case → List (Act Numbered) → Act Numbered → Type 0
FitsClosed c before x = is_taken c x.call ≡ true → DependsOnMissing (is_taken c) (acts c) x → ⊥

-- ---- order: it is the reported history of the calls, with the places of their records and, of those that only read, the vectors of
-- their acknowledgements. It is tested if each call of the order has these.

abbrev pub is_told : Case → Act Numbered → Bool
is_told c x = if updates x.effect then has_record x.call.number (records c) else has_ack x.call.number c.report.acks

abbrev pub IsWhole : Case → Type 0
IsWhole c = (x : Act Numbered) → Member x (acts c) → is_told c x ≡ true

abbrev pub nowhere : List ℕ → Place
nowhere dep = record { stream = 0; start = 0; past = 0; dep = dep }

-- the place of the first record of the call
abbrev pub place_in : ℕ → List Kept → Place
place_in number [] = nowhere []
place_in number (r ∷ rs) = if r.number == number then r.place else place_in number rs

-- the vector of its first acknowledgement
abbrev pub vector_in : ℕ → List (ℕ × List ℕ) → List ℕ
vector_in number [] = []
vector_in number (a ∷ as') = if a.0 == number then a.1 else vector_in number as'

abbrev pub place_of : Case → Act Numbered → Place
place_of c x = if updates x.effect then place_in x.call.number (records c) else nowhere (vector_in x.call.number c.report.acks)

-- the reported history of the calls of the order
abbrev pub due : Case → List ℕ
due c = map (λ x. x.call.number) (reported_of (place_of c) (λ x. updates x.effect) (λ x. x.call.number) c.log.elv (acts c))

abbrev pub FitsOrder : Case → List ℕ → ℕ → Type 0
FitsOrder c before number = slice_get (due c) (length before) ≡ Some number

-- ---- the verdict

-- what each check wants
abbrev pub Passes : Case → Check → Type 0
Passes c check.Epoch = marks_of c.log ≡ []
Passes c check.Fate = AllFit (FitsFate c) (numbers c)
Passes c check.Reply = AllFit (FitsReply c) (acts c)
Passes c check.Row = FitRows c
Passes c check.Record = AllFit (FitsRecord c) (records c)
Passes c check.Ack = AllFit (FitsAck c) c.report.acks
Passes c check.Closed = AllFit (FitsClosed c) (acts c)
Passes c check.Order = AllFit (FitsOrder c) c.report.order

-- that it fails, with this number
abbrev pub FailsAt : Case → Check → ℕ → Type 0
FailsAt c check.Epoch k = (marks_of c.log ≢ []) × (k ≡ 0)
FailsAt c check.Fate k = Finds (λ n. n) (FitsFate c) (numbers c) (Some k)
FailsAt c check.Reply k = Finds (λ x. x.call.number) (FitsReply c) (acts c) (Some k)
FailsAt c check.Row k = (FitRows c → ⊥) × (k ≡ 0)
FailsAt c check.Record k = Finds (λ r. r.number) (FitsRecord c) (records c) (Some k)
FailsAt c check.Ack k = Finds (λ a. a.0) (FitsAck c) c.report.acks (Some k)
FailsAt c check.Closed k = Finds (λ x. x.call.number) (FitsClosed c) (acts c) (Some k)
FailsAt c check.Order k = IsWhole c × Finds (λ n. n) (FitsOrder c) c.report.order (Some k)

-- the checks before this one
abbrev pub before : Check → List Check
before check.Epoch = []
before check.Fate = check.Epoch ∷ []
before check.Reply = check.Epoch ∷ check.Fate ∷ []
before check.Row = check.Epoch ∷ check.Fate ∷ check.Reply ∷ []
before check.Record = check.Epoch ∷ check.Fate ∷ check.Reply ∷ check.Row ∷ []
before check.Ack = check.Epoch ∷ check.Fate ∷ check.Reply ∷ check.Row ∷ check.Record ∷ []
before check.Closed = check.Epoch ∷ check.Fate ∷ check.Reply ∷ check.Row ∷ check.Record ∷ check.Ack ∷ []
before check.Order = check.Epoch ∷ check.Fate ∷ check.Reply ∷ check.Row ∷ check.Record ∷ check.Ack ∷ check.Closed ∷ []

-- these pass
abbrev pub Pass : Case → List Check → Type 0
Pass c [] = Unit {0}
Pass c (k ∷ ks) = Passes c k × Pass c ks

-- yes if all pass, cut if all do of those that can be tested, else the first that fails
abbrev pub IsVerdict : Case → Verdict → Type 0
IsVerdict c verdict.Yes = Pass c (before check.Order) × IsWhole c × Passes c check.Order
IsVerdict c verdict.Cut = Pass c (before check.Order) × (IsWhole c → ⊥)
IsVerdict c (verdict.No failed k) = Pass c (before failed) × FailsAt c failed k

-- the replies of the order's calls, as they are told, are those of executing it
abbrev pub ToldReplies : Case → Type 0
ToldReplies c = map (λ k. reply_of (fate_of c k)) c.report.order ≡ map Some (replies (means c.load.declarations.procs) (history c.load.calls c.report.order) empty_db)

-- what a yes says: the order is the reported history of its calls, each of which stands in it once, with its record or its
-- acknowledgement; what recovery takes is closed in it, and the replies and rows are those of executing it
pub record SaysYes (c : Case) : Type 0 where
  pub order : c.report.order ≡ due c
  pub whole : IsWhole c
  pub fates : AllFit (FitsFate c) (numbers c)
  pub records_fit : AllFit (FitsRecord c) (records c)
  pub closed : Closed (acts c) (is_taken c)
  pub replies_told : ToldReplies c
  pub rows : FitRows c

-- what a cut says: the last of these
pub record SaysCut (c : Case) : Type 0 where
  pub closed : Closed (acts c) (is_taken c)
  pub replies_told : ToldReplies c
  pub rows : FitRows c

abbrev pub VerdictsMean : Type 0
VerdictsMean = (c : Case) → (IsVerdict c verdict.Yes → SaysYes c) × (IsVerdict c verdict.Cut → SaysCut c)

-- a case has one verdict
abbrev pub OneVerdict : Type 0
OneVerdict = (c : Case) (v w : Verdict) → IsVerdict c v → IsVerdict c w → v ≡ w

-- ---- the calls of the order as a listing takes them

abbrev pub committed_by : ℕ → Bool → Place → Committed
committed_by number true p = record { number = number; reply = reply.Ok Absent; dep = p.dep; lv = lv_at p.dep (Some (record { stream = p.stream; start = p.start; past = p.past; anchor = 0 })); spot = Some (record { stream = p.stream; start = p.start; past = p.past; anchor = 0 }) }
committed_by number false p = record { number = number; reply = reply.Ok Absent; dep = p.dep; lv = p.dep; spot = None }

-- the call with its place, and no reply
abbrev pub committed_of : Case → Act Numbered → Committed
committed_of c x = committed_by x.call.number (updates x.effect) (place_of c x)
