-- A call that runs, as a contract sees it: by what it does with the values that it will be given.
use Rattle.std.specs.Prelude.{◌≡◌, ℕ, ◌+◌, ◌≤◌, ◌-◌, ◌++◌, Option, Some, None, List, [], ◌∷◌, length, drop, slice_get, IsTrue}
use Rattle.std.specs.List.{list_all}
use Rattle.tau_base.specs.declared.limits.TheConstants.{MAX_STEPS, MAX_WRITES}
use Rattle.tau_base.specs.declared.value.Call.{Call}
use Rattle.tau_base.specs.declared.value.Key.{Key}
use Rattle.tau_base.specs.declared.value.Value.{Value}
use Rattle.tau_base.specs.declared.value.Value.TheVariants.{Absent}
use Rattle.tau_proc.specs.declared.machine.Stop.{Stop}
use Rattle.tau_proc.specs.declared.machine.Stop.TheVariants.{Row, End}
use Rattle.tau_proc.specs.declared.machine.Use.{Use}
use Rattle.tau_proc.specs.declared.machine.Use.TheVariants as use_of
use Rattle.tau_proc.specs.declared.proc.Proc.{Proc}
use Rattle.tau_proc.specs.declared.reply.Reply.{Reply}
use Rattle.tau_proc.specs.declared.reply.Reply.TheVariants.{Ok}
use Rattle.tau_proc.specs.declared.reply.Want.{Want}
use Rattle.tau_proc.specs.declared.reply.Want.TheVariants.{Read, Write, Finished}
use Rattle.tau_proc.specs.declared.step.Step.{Step}
use Rattle.tau_proc.specs.Limits.{is_register, step_fits}
use Rattle.tau_proc.specs.Meaning.{Running, begun, set_register, sum_with, added_writes, added_reply}
use Rattle.tau_proc.specs.Stage.{Stage, Wants, Ends, stage_of, stage}

-- the fields of a machine; callers look at it through ahead, granted and buffered alone
pub record Progress : Type 0 where
  pub args : List Value
  pub steps : List Step
  pub done : ℕ
  pub running : Running
  pub stop : Stop
  pub granted : ℕ

-- a machine that has ended and wrote nothing
abbrev pub blank : Progress
blank = record { args = []; steps = []; done = 0; running = begun; stop = End (Ok Absent); granted = 0 }

-- where steps that stop for a row go on once it has a value
abbrev pub on_value : List Value → List Step → ℕ → Running → Key → Use → Value → List Value → Stage
on_value args steps done r key (use_of.Register into) v vs = stage_of args (drop done steps) (done + 1) (set_register r into v) vs
on_value args steps done r key use_of.Reply v vs = Ends [] (Ok v)
on_value args steps done r key (use_of.Add n) v vs = Ends (added_writes key (sum_with v n)) (added_reply (sum_with v n))

abbrev pub at_stop : List Value → List Step → ℕ → Running → Stop → List Value → Stage
at_stop args steps done r (End reply) vs = Ends r.writes reply
at_stop args steps done r (Row key then) [] = Wants key
at_stop args steps done r (Row key then) (v ∷ vs) = on_value args steps done r key then v vs

-- where the call will stand after these further values
abbrev pub ahead : Progress → List Value → Stage
ahead p vs = at_stop p.args p.steps p.done p.running p.stop vs

-- what the call has written so far
abbrev pub buffered : Progress → List (Key × Value)
buffered p = p.running.writes

-- the machine is that of this call, it was given these values, and so many of its writes were granted
pub record IsAt (procs : List Proc) (c : Call) (given : List Value) (count : ℕ) (p : Progress) : Type 0 where
  pub stands : (vs : List Value) → ahead p vs ≡ stage procs c (given ++ vs)
  pub granted : p.granted ≡ count

-- a row while one is wanted, then each written key in turn, then the call has finished
abbrev pub want_of_write : Option (Key × Value) → Reply → Want
want_of_write (Some w) reply = Write w.0
want_of_write None reply = Finished reply

abbrev pub want_of : Stage → ℕ → Want
want_of (Wants key) granted = Read key
want_of (Ends writes reply) granted = want_of_write (slice_get writes granted) reply

-- what the call wants next
abbrev pub next_want : Progress → Want
next_want p = want_of (ahead p []) p.granted

abbrev pub IsRead : Want → Type 0
IsRead (Read key) = Unit {0}
IsRead (Write key) = ⊥
IsRead (Finished reply) = ⊥

abbrev pub IsWrite : Want → Type 0
IsWrite (Read key) = ⊥
IsWrite (Write key) = Unit {0}
IsWrite (Finished reply) = ⊥

-- how many rows and writes may still be wanted, at most
abbrev pub left_at : ℕ → ℕ → ℕ → ℕ → Stop → ℕ
left_at steps done writes granted (Row key then) = (steps - done) + (MAX_WRITES + 1)
left_at steps done writes granted (End reply) = writes - granted

abbrev pub wants_left : Progress → ℕ
wants_left p = left_at (length p.steps) p.done (length p.running.writes) p.granted p.stop

-- a step that asks for a row is done
abbrev pub rows_at : Stop → ℕ
rows_at (Row key then) = 1
rows_at (End reply) = 0

-- the value goes into one of the registers, and a built-in, which has no steps, has written nothing before it reads
abbrev pub StopFits : Stop → List Step → List (Key × Value) → Type 0
StopFits (Row key (use_of.Register into)) steps ws = IsTrue (is_register into)
StopFits (Row key use_of.Reply) steps ws = ws ≡ []
StopFits (Row key (use_of.Add n)) steps ws = (ws ≡ []) × (steps ≡ [])
StopFits (End reply) steps ws = Unit {0}

-- what a machine keeps
pub record KeepsCourse (args : List Value) (steps : List Step) (done : ℕ) (r : Running) : Type 0 where
  pub in_bounds : done ≤ length steps
  pub short : length steps ≤ MAX_STEPS
  pub fits : IsTrue (list_all (step_fits (length args)) steps)
  pub room : length r.writes + length steps ≤ MAX_WRITES + done
  pub skips : r.skips + length steps ≤ MAX_STEPS + done
