-- Logs that go on from older ones.
use Rattle.std.specs.Prelude.{ℕ, suc, ◌≤◌, ◌<◌, ◌≡◌, ◌⊎◌, List, [], ◌∷◌, ◌++◌}
use Rattle.tau_base.specs.Vectors.{AtMost}
use Rattle.tau_model.specs.History.{Member}
use Rattle.tau_record.specs.declared.entry.Placed.{Placed}
use Rattle.tau_record.specs.Content.{last_epoch}
use Rattle.tau_epoch.specs.Epochs.{Mark, largest}
use Rattle.tau_scan.specs.declared.log.Log.{Log}
use Rattle.tau_scan.specs.Epochs.{marks_from, marks_of, judge_of}
use Rattle.tau_scan.specs.Taken.{Kept, taken_in}

-- each stream of the third list is that of the first with that of the second after it
abbrev pub Grown : List (List Placed) → List (List Placed) → List (List Placed) → Type 0
Grown [] [] [] = Unit {0}
Grown (ps ∷ old) (ms ∷ more) (qs ∷ new) = (qs ≡ ps ++ ms) × Grown old more new
Grown _ _ _ = ⊥

-- these streams have no record
abbrev pub none_in : List (List Placed) → Type 0
none_in [] = Unit {0}
none_in (ps ∷ streams) = (ps ≡ []) × none_in streams

-- the epoch with the smallest number in these streams has this vector
pub record NextEpochHas (streams : List (List Placed)) (v : List ℕ) : Type 0 where
  pub mark : Mark
  pub there : Member mark (marks_from streams)
  pub vector : mark.lv ≡ v
  pub first : (m : Mark) → Member m (marks_from streams) → mark.number ≤ m.number

-- The log goes on from the old one: its streams are the old ones with more records after them, of which each epoch has a
-- greater number than all old ones. And the old log has no record, or nothing comes after it, or the next epoch has the
-- old lengths as its vector.
pub record Continues (old : Log) (more : List (List Placed)) (log : Log) : Type 0 where
  pub longer : AtMost old.elv log.elv
  pub streams : Grown old.streams more log.streams
  pub above : (m : Mark) → Member m (marks_from more) → largest (marks_of old) < m.number
  pub next : none_in old.streams ⊎ ((none_in more × (log.elv ≡ old.elv)) ⊎ NextEpochHas more old.elv)

-- the taken records among those that come after the old ones, stream by stream from this number on
abbrev pub news_from : (ℕ → List ℕ) → ℕ → List (List Placed) → List (List Placed) → List Kept
news_from judge j [] more = []
news_from judge j (ps ∷ old) [] = []
news_from judge j (ps ∷ old) (ms ∷ more) = taken_in judge j (last_epoch 0 ps) ms ++ news_from judge (suc j) old more

-- what the log takes of the records after the old ones
abbrev pub news : Log → List (List Placed) → Log → List Kept
news old more log = news_from (judge_of log) 0 old.streams more

-- the records of two steps, one step after the other
abbrev pub in_turn : List (List Placed) → List (List Placed) → List (List Placed)
in_turn [] later = []
in_turn (ms ∷ more) [] = ms ∷ more
in_turn (ms ∷ more) (ks ∷ later) = (ms ++ ks) ∷ in_turn more later

-- what a run put after a log, and the log then
pub record Step : Type 0 where
  pub more : List (List Placed)
  pub log : Log

-- each log goes on from the one before it, the first from this one
abbrev pub AreSteps : Log → List Step → Type 0
AreSteps old [] = Unit {0}
AreSteps old (step ∷ steps) = Continues old step.more step.log × AreSteps step.log steps
