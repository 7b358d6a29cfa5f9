-- What is read of all streams.
use Rattle.std.specs.Prelude.{ℕ, ◌≡◌, ◌≤◌, true, false, List, [], ◌++◌, length, slice_get, slice_set, slice_index_or, Some, Ok}
use Rattle.tau_base.specs.declared.format.Format.{Format}
use Rattle.tau_record.specs.declared.entry.Placed.{Placed}
use Rattle.tau_model.specs.History.{Member}
use Rattle.tau_scan.specs.Taken.{Kept}
use Rattle.tau_follow_laws.specs.Fed.{fronts_of}
use Rattle.tau_follow_laws.specs.Following.{is_among}
use Rattle.tau_follow.specs.declared.reader.Reader.{Reader}
use Rattle.tau_follow.specs.declared.stage.Stage.{Stage}
use Rattle.tau_follow.specs.declared.reader.Mark.{Mark}
use Rattle.tau_follow.specs.Reading.{IsRead, IsLonger, IsMark}
use Rattle.tau_follow.specs.Applying.{is_call, stages_from}

-- these records are read of what was fed, and each reader is that of its stream
pub record AreRead (f : Format) (n : ℕ) (fed : List (List ℕ)) (streams : List (List Placed)) (readers : List Reader) : Type 0 where
  pub many : length fed ≡ n
  pub wide : length streams ≡ n
  pub as_many : length readers ≡ n
  pub fronts : fronts_of f fed ≡ Ok streams
  pub each : (j : ℕ) (ps : List Placed) (r : Reader) → slice_get streams j ≡ Some ps → slice_get readers j ≡ Some r → IsRead f n (slice_index_or fed j []) ps r

-- these records stand so, and none that is applied was left out
pub record Standing (streams : List (List Placed)) (stages : List (List Stage)) (out order : List Kept) : Type 0 where
  pub stages_are : stages ≡ stages_from out order 0 streams
  pub apart : (r : Kept) → Member r order → is_among out r ≡ false

-- of one stream more records are read than these many
pub record IsReadOn (j count : ℕ) (old new : List (List Placed)) : Type 0 where
  pub before : List Placed
  pub news : List Placed
  pub there : slice_get old j ≡ Some before
  pub count_is : count ≡ length before
  pub streams_are : new ≡ slice_set old j (before ++ news)

-- each record from this index on is that of a call, or an anchor
abbrev pub AreCalls : ℕ → List Placed → Type 0
AreCalls from ps = (i : ℕ) (p : Placed) → from ≤ i → slice_get ps i ≡ Some p → is_call p.entry ≡ true

-- the same of a stream
abbrev pub AreCallsAt : ℕ → ℕ → List (List Placed) → Type 0
AreCallsAt j from streams = (ps : List Placed) → slice_get streams j ≡ Some ps → AreCalls from ps

-- one stream is read on
pub record AreLonger (j : ℕ) (streams : List (List Placed)) (readers : List Reader) (now : List (List Placed)) (by : List Reader) : Type 0 where
  pub records : List Placed
  pub reader : Reader
  pub streams_are : now ≡ slice_set streams j records
  pub readers_are : by ≡ slice_set readers j reader
  pub longer : (ps : List Placed) (r : Reader) → slice_get streams j ≡ Some ps → slice_get readers j ≡ Some r → IsLonger r reader ps records

-- the stream was so
abbrev pub IsMarkAt : ℕ → List (List Placed) → List Reader → Mark → Type 0
IsMarkAt j streams readers m = (ps : List Placed) (r : Reader) → slice_get streams j ≡ Some ps → slice_get readers j ≡ Some r → IsMark r ps m
