-- Which calls of its disks a run has made, and what they left of each disk that failed.
use Rattle.std.specs.Prelude.{ℕ, ◌+◌, ◌-◌, ◌*◌, ◌<◌, ◌≤◌, ◌≡◌, ◌⊎◌, if◌then◌else◌, Bool, true, false, Some, None, List, length, slice_index}
use Rattle.tau_disk.specs.Disk.{Rose}
use Rattle.tau_disk.specs.Left.{SameLast}
use Rattle.tau_disk.specs.Used.{EachIn, IsClean, IsStopped}
use Rattle.tau_disk.specs.declared.call.Tear.{Tear}
use Rattle.tau_disk.specs.declared.call.Tear.TheVariants as tear
use Rattle.tau_disk.specs.declared.disk.Disk.{Ghosts}
use Rattle.tau_machine.specs.State.{Core}
use Rattle.tau_core.specs.declared.state.Load.{Load}
use Rattle.tau_open.specs.Outside.{calls_to_open}
use Rattle.tau_run.specs.StopsLeave.{HasFront, stops_in}
use Rattle.tau_run.specs.Turns.{Progress}
use Rattle.tau_step.specs.Counts.{calls_to_flush, flushed_in, flushes_of}
use Rattle.tau_stream.specs.Stream.{is_through}

-- how many calls open the stream, and make its flushes so far
abbrev pub calls_made : ℕ → Progress → ℕ
calls_made j p = calls_to_open + calls_to_flush * flushes_of j (flushed_in p.events)

-- the image has the catalogue and the records of the first items that were gathered of stream j, and they end at this position
abbrev pub EndsIn : ℕ → ℕ → List ℕ → Load → Core → ℕ → List ℕ → Type 0
EndsIn n j catalogue l s position image = (bytes : List ℕ) × HasFront n j catalogue l s bytes image × (length catalogue + length bytes ≡ position)

-- The images of the disk of stream j that failed in a flush. Each ends where the stream is persisted; but that with all that was
-- written ends where it is gathered if the flush was through.
pub record IsCutIn (n j : ℕ) (catalogue : List ℕ) (l : Load) (s : Core) (through : Bool) (image : Tear → List ℕ) : Type 0 where
  pub old : EndsIn n j catalogue l s (slice_index s.plv j) (image tear.Old)
  pub torn : EndsIn n j catalogue l s (slice_index s.plv j) (image tear.Torn)
  pub new : EndsIn n j catalogue l s (if through then slice_index s.gathered j else slice_index s.plv j) (image tear.New)

module _ {D : Type 0} (G : Ghosts D) where
  -- What a run that has come so far has made of the disk of stream j. The same calls are to fail as before. If the stream goes
  -- on, the disk had the calls that open it and those of its flushes, and none of them was to fail. If it is stopped, the last
  -- call was the first that is to fail, and it is one of those of one flush more, unless a growth was refused; and what it
  -- left is told by which of them it was.
  pub record IsPlayed (n : ℕ) (catalogue : List ℕ) (l : Load) (p : Progress) (j : ℕ) (d e : D) : Type 0 where
    pub same : (k : ℕ) → G.fails e k ≡ G.fails d k
    pub last : SameLast (G.keeps d) (G.keeps e)
    pub goes : stops_in p.state j ≡ None → (G.number e ≡ G.number d + calls_made j p) × IsClean G.tells G.number G.fails d e
    pub stops : (at : ℕ) → stops_in p.state j ≡ Some at → Rose (G.faults d) (G.faults e) × IsStopped G.tells G.number G.fails G.short d e
        × ((G.short e ≡ true) ⊎ ((G.number d + calls_made j p < G.number e) × (G.number e ≤ G.number d + calls_made j p + calls_to_flush)))
    pub left : (at : ℕ) → stops_in p.state j ≡ Some at → G.short e ≡ false → G.cut e ≡ false →
        IsCutIn n j catalogue l p.state (is_through (G.number e - (G.number d + calls_made j p)) (G.keeps d (G.number e))) (G.image e)

  -- so it is of the disk of each of n streams
  abbrev pub ArePlayed : ℕ → List ℕ → Load → List D → List D → Progress → Type 0
  ArePlayed n catalogue l old new p = G.tells → EachIn (λ j. j < n) (IsPlayed n catalogue l p) old new
