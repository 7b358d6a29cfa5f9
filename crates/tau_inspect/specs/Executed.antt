-- A history of a workload's calls by their numbers, executed from no rows.
use Rattle.std.specs.Prelude.{ℕ, ◌-◌, ◌≤◌, List, [], length, map, slice_index_or}
use Rattle.tau_base.specs.declared.value.Call.{Call}
use Rattle.tau_base.specs.Database.{Db, empty_db}
use Rattle.tau_proc.specs.declared.proc.Proc.{Proc}
use Rattle.tau_proc.specs.Effect.{Effect}
use Rattle.tau_model.specs.History.{Numbered, Act, means, trace, exec}

-- what stands for a call that is not there
abbrev pub no_call : Call
no_call = record { proc = 0; args = record { items = [] } }

-- the call with this number; calls are numbered from 1
abbrev pub call_of : List Call → ℕ → Call
call_of calls number = slice_index_or calls (number - 1) no_call

abbrev pub numbered : List Call → ℕ → Numbered
numbered calls number = record { number = number; call = call_of calls number }

-- the calls with these numbers
abbrev pub history : List Call → List ℕ → List Numbered
history calls order = map (numbered calls) order

-- each with what it does, one after another from no rows
abbrev pub acts_of : List Proc → List Call → List ℕ → List (Act Numbered)
acts_of procs calls order = trace (means procs) (history calls order) empty_db

-- the rows that they leave
abbrev pub rows_after : List Proc → List Call → List ℕ → Db
rows_after procs calls order = exec (means procs) (history calls order) empty_db

abbrev pub effects : List (Act Numbered) → List Effect
effects acts = map (λ x. x.effect) acts

-- the number of a call of these
abbrev pub IsNumberOf : List Call → ℕ → Type 0
IsNumberOf calls number = (1 ≤ number) × (number ≤ length calls)
