-- Runs and stops, one after another: each run begins on what the stop of the one before it left.
use Rattle.std.specs.Prelude.{ℕ, ◌≡◌, List, [], ◌∷◌, ◌++◌, length, slice_get, Ok, Some}
use Rattle.std.specs.List.{filter}
use Rattle.tau_base.specs.declared.format.Format.{Format}
use Rattle.tau_base.specs.declared.value.LogMode.{LogMode}
use Rattle.tau_base.specs.Database.{Db}
use Rattle.tau_base.specs.Modes.{format_of}
use Rattle.tau_model.specs.History.{Act, exec}
use Rattle.tau_machine.specs.Hands.{Txn}
use Rattle.tau_machine.specs.State.{Core}
use Rattle.tau_text.specs.declared.load.Workload.{Workload}
use Rattle.tau_core.specs.declared.state.Load.{Load}
use Rattle.tau_scan.specs.declared.log.Log.{Log}
use Rattle.tau_scan.specs.Reading.{contents_of, log_of_contents}
use Rattle.tau_run.specs.Start.{old_at, opened_at}
use Rattle.tau_run.specs.Run.{Committed, Run, means}
use Rattle.tau_run.specs.RecoveredFacts.{takes}
use Rattle.tau_run.specs.CoreRun.{IsRunOf, IsCourse}
use Rattle.tau_run.specs.StopsLeave.{IsLeft}

-- A run of a workload by so many workers, and what is left of its streams by a stop of each disk at a moment of its own:
-- the images, their contents and the log.
pub record Life : Type 0 where
  pub workers : ℕ
  pub mode : LogMode
  pub load : Workload
  pub run : Run
  pub images : List (List ℕ)
  pub contents : List (List ℕ)
  pub log : Log

-- it is of this format, over n streams that held these contents
pub record IsLife (f : Format) (n : ℕ) (old : List (List ℕ)) (x : Life) : Type 0 where
  pub format : format_of x.mode ≡ f
  pub begins : x.run.start.old ≡ old
  pub stands_on : Load
  pub joined : List (Act Txn)
  pub state : Core
  pub course : IsCourse n x.workers x.mode x.load x.run.start stands_on joined state
  pub is : IsRunOf n stands_on joined state x.load x.run
  pub count : length x.images ≡ n
  pub left : (j : ℕ) (image : List ℕ) → slice_get x.images j ≡ Some image → IsLeft n j (old_at x.run.start j) (opened_at x.load x.run.start j) stands_on state image
  pub have : contents_of f x.images ≡ Ok x.contents
  pub reads : log_of_contents f x.contents ≡ Ok x.log

-- each on the contents that the one before it left, the first on these
abbrev pub AreLives : Format → ℕ → List (List ℕ) → List Life → Type 0
AreLives f n old [] = Unit {0}
AreLives f n old (x ∷ xs) = IsLife f n old x × AreLives f n x.contents xs

-- the contents and the log that they leave at last
abbrev pub last_contents : List (List ℕ) → List Life → List (List ℕ)
last_contents old [] = old
last_contents old (x ∷ xs) = last_contents x.contents xs

abbrev pub last_log : Log → List Life → Log
last_log log [] = log
last_log log (x ∷ xs) = last_log x.log xs

-- the calls of the run that recovery takes, in the order of its report
abbrev pub taken_calls : Life → List Committed
taken_calls x = filter (takes x.log) x.run.calls

-- those of all runs, each run in its own order
abbrev pub all_taken : List Life → List Committed
all_taken [] = []
all_taken (x ∷ xs) = taken_calls x ++ all_taken xs

-- the database of executing these, run after run, each by the procedures of its workload
abbrev pub exec_lives : List Life → Db → Db
exec_lives [] db = db
exec_lives (x ∷ xs) db = exec_lives xs (exec (means x.load.declarations.procs) (taken_calls x) db)
