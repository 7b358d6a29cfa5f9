-- A call that runs, as what it is by the values that it was given so far. No database stands here.
use Rattle.std.specs.Prelude.{ℕ, ◌+◌, ◌≡◌, Option, Some, None, List, [], ◌∷◌, map}
use Rattle.tau_base.specs.declared.value.Key.{Key}
use Rattle.tau_base.specs.declared.value.Call.{Call}
use Rattle.tau_base.specs.declared.value.Value.{Value}
use Rattle.tau_base.specs.declared.value.Value.TheVariants.{Absent}
use Rattle.tau_proc.specs.declared.proc.Proc.{Proc}
use Rattle.tau_proc.specs.declared.reply.Reply.{Reply}
use Rattle.tau_proc.specs.declared.reply.Reply.TheVariants as reply
use Rattle.tau_proc.specs.declared.step.Step.{Step}
use Rattle.tau_proc.specs.Meaning.{Running, Action, Go, Ask, Refuse, action, set_register, begun, Built, Puts, Adds, Gets, Wrong, built_in, proc_of, sum_with, added_writes, added_reply}

-- what a call wants: a row, or it has ended with these writes and this reply
pub data Stage : Type 0 where
  Wants : Key → Stage
  Ends : List (Key × Value) → Reply → Stage

-- where step n and those after it stand after these values, where those after it stand as rest says
abbrev pub given : Action → Running → ℕ → List Value → (Running → List Value → Stage) → Stage
given (Go next) r n vs rest = rest next vs
given (Ask key into) r n [] rest = Wants key
given (Ask key into) r n (v ∷ vs) rest = rest (set_register r into v) vs
given Refuse r n vs rest = Ends [] (reply.Refused n)

-- where the steps from number n on stand after these values
unfoldable pub stage_of : List Value → List Step → ℕ → Running → List Value → Stage
stage_of args [] n r vs = Ends r.writes (reply.Ok r.reply)
stage_of args (s ∷ ss) n r vs = given (action args r s) r n vs (λ next left. stage_of args ss (n + 1) next left)

abbrev pub stage_in : Option Proc → Call → List Value → Stage
stage_in None c vs = Ends [] (reply.Refused 0)
stage_in (Some p) c vs = stage_of c.args.items p.steps 1 begun vs

abbrev pub built_stage : Built → List Value → Stage
built_stage (Puts key v) vs = Ends ((key, v) ∷ []) (reply.Ok Absent)
built_stage (Adds key n) [] = Wants key
built_stage (Adds key n) (v ∷ vs) = Ends (added_writes key (sum_with v n)) (added_reply (sum_with v n))
built_stage (Gets key) [] = Wants key
built_stage (Gets key) (v ∷ vs) = Ends [] (reply.Ok v)
built_stage Wrong vs = Ends [] (reply.Refused 0)

abbrev pub stage_by : Option Built → Option Proc → Call → List Value → Stage
stage_by (Some b) p c vs = built_stage b vs
stage_by None p c vs = stage_in p c vs

-- where a call stands after it was given these values
abbrev pub stage : List Proc → Call → List Value → Stage
stage procs c vs = stage_by (built_in c) (proc_of procs c) c vs

-- the values of what was read
abbrev pub values : List (Key × Value) → List Value
values rs = map (λ r. r.1) rs

-- these keys were wanted one after another, where these values were given
abbrev pub Asked : (List Value → Stage) → List (Key × Value) → Type 0
Asked at [] = Unit {0}
Asked at (r ∷ rs) = (at [] ≡ Wants r.0) × Asked (λ vs. at (r.1 ∷ vs)) rs
