-- What a run leaves: what its streams hold, what recovery finds of it, and what it has acknowledged.
use Rattle.std.specs.Prelude.{ℕ, ◌<◌, ◌≤◌, ◌≡◌, ◌↔◌, ◌⊎◌, ◌==◌, ◌&&◌, Bool, true, List, [], ◌++◌, length, take, slice_get, slice_index, slice_index_or, None, Ok, Some}
use Rattle.std.specs.List.{filter, list_any}
use Rattle.tau_base.specs.declared.value.LogMode.{LogMode}
use Rattle.tau_base.specs.Modes.{format_of}
use Rattle.tau_base.specs.Vectors.{covers}
use Rattle.tau_model.specs.History.{Act, Member, Closed, Depends, exec, updates}
use Rattle.tau_block.specs.Image.{HasContent}
use Rattle.tau_text.specs.declared.load.Workload.{Workload}
use Rattle.tau_scan.specs.declared.log.Log.{Log}
use Rattle.tau_scan.specs.Reading.{contents_of, log_of, log_of_contents}
use Rattle.tau_scan.specs.Sound.{IsSound}
use Rattle.tau_scan.specs.Taken.{Kept, kept_in, taken}
use Rattle.tau_epoch_laws.specs.Laws.{starts_in}
use Rattle.tau_run.specs.Start.{old_at, opened_at}
use Rattle.tau_run.specs.Run.{Committed, Run, acts, means, records_in, has_ack, vector_of, AllAcked}

-- one image of each stream
abbrev pub AreFrom : (ℕ → List ℕ → Type 0) → ℕ → List (List ℕ) → Type 0
AreFrom left n images = (length images ≡ n) × ((j : ℕ) (x : List ℕ) → slice_get images j ≡ Some x → left j x)

-- recovery takes the record of this call: its numbers are those of one run, so it is told by its place
abbrev pub takes : Log → Committed → Bool
takes log c = c.logs && list_any (λ (r : Kept). (r.place.stream == c.place.stream) && (r.place.start == c.place.start)) (taken log)

-- What the images hold is sound, and it is what was there and a closed part of the history after it.
pub record IsRecovered (n : ℕ) (mode : LogMode) (load : Workload) (run : Run) (images : List (List ℕ)) : Type 0 where
  pub log : Log
  -- there is no cause to refuse them, whether no format is asked or that of the run
  pub reads : log_of None images ≡ Ok log
  pub asked : log_of (Some (format_of mode)) images ≡ Ok log
  -- each content is what was there, or a first part of what the stream has at the end, not shorter than what it was given first
  pub contents : List (List ℕ)
  pub have : contents_of (format_of mode) images ≡ Ok contents
  pub fronts : (j : ℕ) → j < n → (slice_index_or contents j [] ≡ old_at run.start j)
      ⊎ ((k : ℕ) × (length (opened_at load run.start j) ≤ k) × (slice_index_or contents j [] ≡ take k (slice_index_or run.contents j [])))
  -- its records are the old ones, and the first ones of the history there
  pub records : (j : ℕ) → j < n → (k : ℕ) × (kept_in j (slice_index_or log.streams j []) ≡ kept_in j (slice_index_or run.start.log.streams j []) ++ take k (records_in mode load run j))
  -- of the old records those are taken that were
  pub old : filter (starts_in run.start.log) (taken log) ≡ taken run.start.log
  pub closed : Closed (acts load.declarations.procs run) (takes log)
  -- each orderly redo gives what executing just these calls gives, from where the run began
  pub sound : IsSound (format_of mode) contents log (exec (means load.declarations.procs) (filter (takes log) run.calls) run.start.base)

-- What the streams have begins with what was there and what they were given first; its records are the old ones and those
-- of the history; and, where the disks began so, each image of a stop has a part of it.
pub record IsImaged (n : ℕ) (mode : LogMode) (load : Workload) (unborn : Type 0) (past : ℕ → List ℕ → Type 0) (run : Run) : Type 0 where
  pub opened : (j : ℕ) (content : List ℕ) → slice_get run.contents j ≡ Some content → take (length (opened_at load run.start j)) content ≡ opened_at load run.start j
  pub whole : Log
  pub reads : log_of_contents (format_of mode) run.contents ≡ Ok whole
  pub records : (j : ℕ) → j < n → kept_in j (slice_index_or whole.streams j []) ≡ kept_in j (slice_index_or run.start.log.streams j []) ++ records_in mode load run j
  pub each : unborn → (images : List (List ℕ)) → AreFrom past n images → IsRecovered n mode load run images

-- whatever a stop now leaves, each updating call that is acknowledged is taken, and each on which an acknowledged call depends
abbrev pub IsAcknowledged : ℕ → Workload → (ℕ → List ℕ → Type 0) → Run → Type 0
IsAcknowledged n load now run = (images : List (List ℕ)) → AreFrom now n images → (log : Log) → log_of None images ≡ Ok log →
    (x : Act Committed) → Member x (acts load.declarations.procs run) → has_ack run x.call.number ≡ true →
    (updates x.effect ≡ true → takes log x.call ≡ true) ×
    ((u : Act Committed) → Depends (acts load.declarations.procs run) x u → updates u.effect ≡ true → takes log u.call ≡ true)

-- What a call of the run waits for is within these lengths, or ends where the record of a call does.
abbrev pub WaitsWithin : List ℕ → Run → Type 0
WaitsWithin lengths run = (c : Committed) → Member c run.calls → (j : ℕ) →
    (slice_index c.place.dep j ≤ slice_index lengths j) ⊎ ((d : Committed) × Member d run.calls × (d.logs ≡ true) × (d.place.stream ≡ j) × (d.place.past ≡ slice_index c.place.dep j))

-- The run went to its end. The durable lengths are those of the shortest contents that a stop now may leave; the
-- acknowledged calls are those of them that these cover, and where one is not covered, that disk failed.
pub record IsEnded (n : ℕ) (mode : LogMode) (load : Workload) (now : ℕ → List ℕ → Type 0) (rose : ℕ → Type 0) (run : Run) : Type 0 where
  pub durable : List ℕ
  pub least : (j : ℕ) (x content : List ℕ) → j < n → now j x → HasContent (format_of mode) n j content x → slice_index durable j ≤ length content
  pub reached : (j : ℕ) (x : List ℕ) → j < n → now j x →
      (y content : List ℕ) × now j y × HasContent (format_of mode) n j content y × (length content ≡ slice_index durable j)
  pub acked : (c : Committed) → Member c run.calls → (has_ack run c.number ≡ true) ↔ (covers durable (vector_of c) ≡ true)
  pub waits : WaitsWithin durable run
  pub uncovered : (c : Committed) → Member c run.calls → (j : ℕ) → j < n → slice_index durable j < slice_index (vector_of c) j → rose j
  -- a disk that has not failed has all
  pub flushed : (j : ℕ) (x : List ℕ) → j < n → (rose j → ⊥) → now j x → HasContent (format_of mode) n j (slice_index_or run.contents j []) x
  -- where no disk has failed each call committed, and is acknowledged
  pub all : ((j : ℕ) → j < n → rose j → ⊥) → AllAcked load run
