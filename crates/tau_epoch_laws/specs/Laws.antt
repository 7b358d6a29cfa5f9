-- What holds of every log that goes on from an older one.
use Rattle.std.specs.Prelude.{ℕ, ◌<◌, ◌≡◌, Bool, not, nat_lt, List, [], ◌++◌, length, replicate, Some, slice_get, slice_index, Ok}
use Rattle.std.specs.List.{filter}
use Rattle.tau_base.specs.Database.{Db, empty_db}
use Rattle.tau_base.specs.Vectors.{AtMost}
use Rattle.tau_base.specs.declared.format.Format.{Format}
use Rattle.tau_model.specs.History.{Member, Reordered}
use Rattle.tau_record.specs.declared.entry.Placed.{Placed}
use Rattle.tau_epoch.specs.Epochs.{Mark}
use Rattle.tau_scan.specs.declared.log.Log.{Log}
use Rattle.tau_scan.specs.Epochs.{marks_from}
use Rattle.tau_scan.specs.Taken.{Kept, taken, is_taken_at}
use Rattle.tau_epoch_laws.specs.Continues.{Continues, news, in_turn, Step, AreSteps}
use Rattle.tau_scan.specs.Reading.{log_of_contents}
use Rattle.tau_scan.specs.Sound.{fresh_log, MarksFit, Redoes, IsSound}

-- the record starts before the end of this log
abbrev pub starts_in : Log → Kept → Bool
starts_in old r = nat_lt r.place.start (slice_index old.elv r.place.stream)

-- What was taken is taken and what was left out is left out, whatever comes after it. Both logs were read, in one format,
-- and no epoch of the old one asks for more than it has.
abbrev pub OldTaken : Type 0
OldTaken = (f : Format) (before after : List (List ℕ)) (old : Log) (more : List (List Placed)) (log : Log) →
    log_of_contents f before ≡ Ok old → MarksFit old → log_of_contents f after ≡ Ok log → Continues old more log →
    Reordered (taken old ++ news old more log) (taken log)

-- each record of the old log is taken exactly if the old log takes it
abbrev pub OldJudged : Type 0
OldJudged = (f : Format) (before after : List (List ℕ)) (old : Log) (more : List (List Placed)) (log : Log) →
    log_of_contents f before ≡ Ok old → MarksFit old → log_of_contents f after ≡ Ok log → Continues old more log →
    (j i : ℕ) (ps : List Placed) → slice_get old.streams j ≡ Some ps → i < length ps → is_taken_at log j i ≡ is_taken_at old j i

-- those that start in the old log are what it took
abbrev pub OldListed : Type 0
OldListed = (f : Format) (before after : List (List ℕ)) (old : Log) (more : List (List Placed)) (log : Log) →
    log_of_contents f before ≡ Ok old → MarksFit old → log_of_contents f after ≡ Ok log → Continues old more log →
    filter (starts_in old) (taken log) ≡ taken old

-- and the others come after it
abbrev pub NewsListed : Type 0
NewsListed = (f : Format) (before after : List (List ℕ)) (old : Log) (more : List (List Placed)) (log : Log) →
    log_of_contents f before ≡ Ok old → MarksFit old → log_of_contents f after ≡ Ok log → Continues old more log →
    filter (λ r. not (starts_in old r)) (taken log) ≡ news old more log

-- empty contents hold a sound log, with an empty database
abbrev pub FreshSound : Type 0
FreshSound = (f : Format) (n : ℕ) → IsSound f (replicate n []) (fresh_log n) empty_db

-- A log that goes on from a sound one is sound, if its new epochs ask for no more than it has, each new record waits for
-- all of the old log, and the new records redo its database to one database.
abbrev pub StaysSound : Type 0
StaysSound = (f : Format) (before after : List (List ℕ)) (old : Log) (more : List (List Placed)) (log : Log) (base base' : Db) →
    IsSound f before old base → log_of_contents f after ≡ Ok log → Continues old more log →
    ((m : Mark) → Member m (marks_from more) → AtMost m.lv log.elv) →
    ((r : Kept) → Member r (news old more log) → AtMost old.elv r.place.dep) →
    Redoes log (news old more log) base base' → IsSound f after log base'

-- what comes after a sound log is redone from the database of that one
abbrev pub RedoneAfter : Type 0
RedoneAfter = (f : Format) (before after : List (List ℕ)) (old : Log) (more : List (List Placed)) (log : Log) (base base' : Db) →
    IsSound f before old base → IsSound f after log base' → Continues old more log → Redoes log (news old more log) base base'

-- a log that goes on from one that goes on goes on from the first
abbrev pub GoesOn : Type 0
GoesOn = (old : Log) (more : List (List Placed)) (mid : Log) (later : List (List Placed)) (log : Log) →
    Continues old more mid → Continues mid later log → Continues old (in_turn more later) log

-- after any number of steps each log goes on from the first
abbrev pub StepsGoOn : Type 0
StepsGoOn = (old : Log) (steps : List Step) → AreSteps old steps → (step : Step) → Member step steps → (more : List (List Placed)) × Continues old more step.log

-- and each record of the first log is taken exactly if that one takes it: what is left out once is left out for good
abbrev pub JudgedForGood : Type 0
JudgedForGood = (f : Format) (before after : List (List ℕ)) (old : Log) (steps : List Step) (step : Step) →
    log_of_contents f before ≡ Ok old → MarksFit old → AreSteps old steps → Member step steps → log_of_contents f after ≡ Ok step.log →
    (j i : ℕ) (ps : List Placed) → slice_get old.streams j ≡ Some ps → i < length ps → is_taken_at step.log j i ≡ is_taken_at old j i
