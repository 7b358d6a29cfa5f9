-- What holds of every log.
use Rattle.std.specs.Prelude.{ℕ, ◌≡◌, true, List, [], ◌∷◌, Some, slice_get}
use Rattle.std.specs.List.{filter}
use Rattle.tau_base.specs.Vectors.{covers}
use Rattle.tau_model.specs.History.{Member}
use Rattle.tau_record.specs.declared.entry.Placed.{Placed}
use Rattle.tau_scan.specs.declared.log.Log.{Log}
use Rattle.tau_scan.specs.Taken.{Kept, kept_as, kept_from, taken, is_taken_at}
use Rattle.tau_scan.specs.Epochs.{marks_of}

-- the record at this index of this stream is this data or command record
pub record IsKeptAt (log : Log) (j i : ℕ) (r : Kept) : Type 0 where
  pub records : List Placed
  pub placed : Placed
  pub stream : slice_get log.streams j ≡ Some records
  pub there : slice_get records i ≡ Some placed
  pub is : kept_as j placed placed.entry ≡ r ∷ []

-- the list of the taken records holds just those of the places that are taken
abbrev pub TakenAreListed : Type 0
TakenAreListed = (log : Log) →
    ((r : Kept) → Member r (taken log) → (j : ℕ) × (i : ℕ) × IsKeptAt log j i r × (is_taken_at log j i ≡ true))
    × ((j i : ℕ) → is_taken_at log j i ≡ true → (r : Kept) × IsKeptAt log j i r × Member r (taken log))

-- without epochs just those records are taken whose vector the end-of-log vector covers
abbrev pub TakenPlain : Type 0
TakenPlain = (log : Log) → marks_of log ≡ [] → taken log ≡ filter (λ r. covers log.elv r.place.dep) (kept_from 0 log.streams)
