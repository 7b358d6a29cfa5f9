-- Recovery writes the same, however many workers there are.
use Rattle.std.specs.Prelude.{ℕ, ◌≡◌, List, None, Ok}
use Rattle.tau_base.specs.declared.value.LogMode.{LogMode}
use Rattle.tau_text.specs.declared.load.Workload.{Workload}
use Rattle.tau_scan.specs.declared.log.Log.{Log}
use Rattle.tau_scan.specs.Reading.{log_of}
use Rattle.tau_replay.specs.Laws.{OrdersAgree}
use Rattle.tau_run.specs.Run.{Run}
use Rattle.tau_run.specs.RecoveredFacts.{IsRecovered}
use Rattle.tau_commands.specs.Recovery.{IsRecoveryOf}

-- Where all orderly orders of the log of the images give one database, recovery has one text.
abbrev pub OneText : Type 0
OneText = (images : List (List ℕ)) (log other : Log) (text words : List ℕ) → log_of None images ≡ Ok log → log_of None images ≡ Ok other → OrdersAgree log →
    IsRecoveryOf log text → IsRecoveryOf other words → text ≡ words

-- They do where a run has left the images.
abbrev pub RunsHaveOneText : Type 0
RunsHaveOneText = (n : ℕ) (mode : LogMode) (load : Workload) (run : Run) (images : List (List ℕ)) (r : IsRecovered n mode load run images) → OrdersAgree r.log
