-- Which epoch a run is.
use Rattle.std.specs.Prelude.{ℕ, ◌+◌, Bool, true, false, ◌&&◌, List, [], ◌∷◌, if◌then◌else◌}
use Rattle.tau_epoch.specs.Epochs.{largest}
use Rattle.tau_scan.specs.declared.log.Log.{Log}
use Rattle.tau_scan.specs.Epochs.{marks_of}

abbrev pub is_empty : List ℕ → Bool
is_empty [] = true
is_empty (b ∷ bytes) = false

-- the contents of all streams are empty
abbrev pub all_empty : List (List ℕ) → Bool
all_empty [] = true
all_empty (c ∷ contents) = is_empty c && all_empty contents

-- the number of the epoch of a run on these contents, which hold this log: 0 for none on empty ones, else the one after the
-- largest known
abbrev pub next_epoch : List (List ℕ) → Log → ℕ
next_epoch contents log = if all_empty contents then 0 else largest (marks_of log) + 1
