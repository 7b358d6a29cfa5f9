-- A call that runs, as what it is by the values that it has seen. No database stands here.
use Rattle.std.specs.Prelude.{ℕ, ◌+◌, Option, Some, None, List, [], ◌∷◌}
use Rattle.std.specs.Map.{lookup}
use Rattle.tau_base.specs.declared.value.Key.{Key}
use Rattle.tau_base.specs.declared.value.Value.{Value}
use Rattle.tau_base.specs.declared.value.Call.{Call}
use Rattle.tau_base.specs.Database.{same_key, empty_db}
use Rattle.tau_proc.specs.declared.reply.Reply.TheVariants as reply
use Rattle.tau_proc.specs.declared.proc.Proc.{Proc}
use Rattle.tau_proc.specs.declared.step.Step.{Step}
use Rattle.tau_proc.specs.Effect.{Effect}
use Rattle.tau_proc.specs.Meaning.{Running, Action, Go, Ask, Refuse, action, set_register, begun, refused, reading, Built, Puts, Adds, Gets, Wrong, built_effect, built_in, proc_of}

-- what a call has come to: it has read this and wants the value of a key that it has not seen, or it has ended
pub data Stage : Type 0 where
  Wants : List (Key × Value) → Key → Stage
  Ends : Effect → Stage

-- with one more read before the others
abbrev pub more : Key → Value → Stage → Stage
more key v (Wants rs k) = Wants ((key, v) ∷ rs) k
more key v (Ends e) = Ends (reading key v e)

-- a key that was seen answers itself
abbrev pub looked : Option Value → Key → Running → ℕ → (Running → Stage) → Stage
looked None key r into rest = Wants [] key
looked (Some v) key r into rest = more key v (rest (set_register r into v))

-- what step n and those after it have come to, where those after it have come to what rest says
abbrev pub goes : Action → Running → ℕ → List (Key × Value) → (Running → Stage) → Stage
goes (Go next) r n seen rest = rest next
goes (Ask key into) r n seen rest = looked (lookup (same_key key) seen) key r into rest
goes Refuse r n seen rest = Ends (refused n)

unfoldable pub stage_of : List Value → List Step → ℕ → Running → List (Key × Value) → Stage
stage_of args [] n r seen = Ends (record { reads = []; writes = r.writes; reply = reply.Ok r.reply })
stage_of args (s ∷ ss) n r seen = goes (action args r s) r n seen (λ next. stage_of args ss (n + 1) next seen)

abbrev pub stage_in : Option Proc → Call → List (Key × Value) → Stage
stage_in None c seen = Ends (refused 0)
stage_in (Some p) c seen = stage_of c.args.items p.steps 1 begun seen

-- a built-in that reads one key, where it has seen this value
abbrev pub built_seen : Built → Key → Option Value → Stage
built_seen b key None = Wants [] key
built_seen b key (Some v) = Ends (built_effect b (λ k. v))

abbrev pub built_stage : Built → List (Key × Value) → Stage
built_stage (Puts key v) seen = Ends (built_effect (Puts key v) empty_db)
built_stage (Adds key n) seen = built_seen (Adds key n) key (lookup (same_key key) seen)
built_stage (Gets key) seen = built_seen (Gets key) key (lookup (same_key key) seen)
built_stage Wrong seen = Ends (refused 0)

abbrev pub stage_by : Option Built → Option Proc → Call → List (Key × Value) → Stage
stage_by (Some b) p c seen = built_stage b seen
stage_by None p c seen = stage_in p c seen

-- where a call stands that has seen these values
abbrev pub stage : List Proc → Call → List (Key × Value) → Stage
stage procs c seen = stage_by (built_in c) (proc_of procs c) c seen

abbrev pub reads_of : Stage → List (Key × Value)
reads_of (Wants rs k) = rs
reads_of (Ends e) = e.reads

abbrev pub writes_of : Stage → List (Key × Value)
writes_of (Wants rs k) = []
writes_of (Ends e) = e.writes
