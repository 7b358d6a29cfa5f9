-- The writers of a run's streams: how a run finds them, and what becomes of them.
use Rattle.std.specs.Prelude.{ℕ, ◌+◌, ◌<◌, ◌≤◌, ◌≡◌, true, false, Some, None, List, [], length, slice_get, slice_index}
use Rattle.tau_base.specs.declared.format.Format.{Format}
use Rattle.tau_base.specs.Modes.{format_of}
use Rattle.tau_block.specs.Image.{HasContent}
use Rattle.tau_disk.specs.Disk.{Passes, Rose}
use Rattle.tau_disk.specs.Used.{GoesOn, IsStopped}
use Rattle.tau_disk.specs.declared.disk.Disk.{Ghosts}
use Rattle.tau_stream.specs.declared.writer.Writer.{Writer}
use Rattle.tau_stream.specs.Writer.{disk_of, durable_of, left_of, has_failed, IsReady}
use Rattle.tau_machine.specs.State.{Core}
use Rattle.tau_core.specs.declared.opening.Opening.{Opening}
use Rattle.tau_core.specs.declared.state.Load.{Load}
use Rattle.tau_run.specs.StopsLeave.{HasFront, HasSomeFront}

-- the relation holds of each of these at its place, as it was and as it is
pub record EachOf {A : Type 0} (R : ℕ → A → A → Type 0) (old new : List A) : Type 0 where
  pub count : length new ≡ length old
  pub each : (j : ℕ) (x : A) → slice_get old j ≡ Some x → (y : A) × (slice_get new j ≡ Some y) × R j x y

module _ {D : Type 0} {G : Ghosts D} where
  -- the writer of stream j of n in this format has these bytes, all of them durable
  pub record IsNew (f : Format) (n j : ℕ) (bytes : List ℕ) (w : Writer D G) : Type 0 where
    pub works : has_failed w ≡ false
    pub durable : durable_of w ≡ length bytes
    pub left : left_of w ≡ []
    pub ready : G.tells → IsReady f n j w bytes

  abbrev pub AreNew : Format → (ℕ → List ℕ) → List (Writer D G) → Type 0
  AreNew f bases ws = (j : ℕ) (w : Writer D G) → slice_get ws j ≡ Some w → IsNew f (length ws) j (bases j) w

  -- the writers have what the opening says of their streams, which are of this format, all of it durable
  pub record IsBegun (f : Format) (bases : ℕ → List ℕ) (ws : List (Writer D G)) (o : Opening) : Type 0 where
    pub count : length ws ≡ length o.ends
    pub long : (j : ℕ) → j < length o.ends → length (bases j) ≡ slice_index o.ends j
    pub new : AreNew f bases ws

  -- What became of the writer of stream j since the call, where the state is s now: its images, its disk's calls, and what a
  -- stop now may leave.
  pub record Left (l : Load) (s : Core) (j : ℕ) (base : List ℕ) (w w' : Writer D G) : Type 0 where
    pub before : G.tells → Passes G.moment G.may_leave_since (disk_of w) (disk_of w') (HasSomeFront l.streams j base l s)
    pub present : G.tells → (x : List ℕ) → G.may_leave (disk_of w') x → (bytes : List ℕ) × HasFront l.streams j base l s bytes x × (slice_index s.plv j ≤ length base + length bytes)
    pub reached : G.tells → (y content : List ℕ) × G.may_leave (disk_of w') y × HasContent (format_of l.mode) l.streams j content y × (length content ≡ slice_index s.plv j)
    -- its stream is stopped exactly where its disk failed
    pub goes : has_failed w' ≡ false → ((s.streams j).stop ≡ None) × (G.tells → GoesOn G.number G.fails (disk_of w) (disk_of w'))
    pub stops : has_failed w' ≡ true →
        ((at : ℕ) × ((s.streams j).stop ≡ Some at)) × Rose (G.faults (disk_of w)) (G.faults (disk_of w')) × IsStopped G.tells G.number G.fails G.short (disk_of w) (disk_of w')
    pub faults : G.faults (disk_of w) ≤ G.faults (disk_of w')
