-- What the head has when it has taken the managers' seats and the clerk's in.
use Rattle.std.specs.Prelude.{ℕ, ◌+◌, ◌<◌, ◌≡◌, true, Some, List, slice_get, slice_index}
use Rattle.atomic_table.specs.Seated.{TableId}
use Rattle.tau_disk.specs.declared.disk.Disk.{Ghosts}
use Rattle.tau_stream.specs.declared.writer.Writer.{Writer}
use Rattle.tau_stream.specs.Writer.{durable_of}
use Rattle.tau_core.specs.State.{Plain}
use Rattle.tau_rule.specs.Rule.{clerk_role, has, manager_role}
use Rattle.tau_rule.specs.Steps.{first_role}
use Rattle.tau_desk.specs.Seats.{PlainClerkSeat, PlainHead, PlainManagerSeat}
use Rattle.tau_crew.specs.declared.manager.ManagerJob.{ManagerJob}

-- the head has the role of the manager of a stream as this seat had it
pub record HasManager (first : Plain) (h : PlainHead) (j : ℕ) (s : PlainManagerSeat) : Type 0 where
  pub role : has (manager_role first.load j) h.me.0 ≡ Some (first_role s.me.0.roles).1
  pub stock : slice_get h.managers j ≡ Some (Some s.stock)

-- and the clerk's
abbrev pub HasClerkOf : Plain → PlainHead → PlainClerkSeat → Type 0
HasClerkOf first h s = has (clerk_role first.load) h.me.0 ≡ Some (first_role s.me.0.roles).1

-- a step by which the head takes in nothing of the workers
pub record KeepsHead (first : Plain) (h h' : PlainHead) : Type 0 where
  pub table : h'.table_id ≡ h.table_id
  pub opened : h'.me.0.opened ≡ h.me.0.opened
  pub found : h.me.0.found ≡ true → h'.me.0.found ≡ true
  pub workers : h'.workers ≡ h.workers
  pub roles : (u : ℕ) → u < first.load.workers → has u h'.me.0 ≡ has u h.me.0

-- the head has the role of one manager more
pub record TakesManager (first : Plain) (h h' : PlainHead) (s : PlainManagerSeat) : Type 0 where
  pub keeps : KeepsHead first h h'
  pub here : HasManager first h' s.stream s
  pub others : (j : ℕ) (t : PlainManagerSeat) → (j ≡ s.stream → ⊥) → HasManager first h j t → HasManager first h' j t

module _ {D : Type 0} {G : Ghosts D} where
  -- the seat of the manager of stream j is of this desk
  pub record IsSeatAt (first : Plain) (table : TableId) (j : ℕ) (job : ManagerJob D G) : Type 0 where
    pub own : job.seat.table_id ≡ table
    pub opened : job.seat.me.0.opened ≡ Some first
    pub at : job.seat.stream ≡ j

  abbrev pub AreSeats : Plain → TableId → List (ManagerJob D G) → Type 0
  AreSeats first table jobs = (j : ℕ) (job : ManagerJob D G) → slice_get jobs j ≡ Some job → IsSeatAt first table j job

  -- the head has these managers' roles, from stream k on
  abbrev pub HasManagers : Plain → PlainHead → ℕ → List (ManagerJob D G) → Type 0
  HasManagers first h k jobs = (i : ℕ) (job : ManagerJob D G) → slice_get jobs i ≡ Some job → HasManager first h (k + i) job.seat

  abbrev pub writer_in : ManagerJob D G → Writer D G
  writer_in job = job.writer

  -- the head has seen each stream persisted as far as its writer has it durable
  abbrev pub SeesDurable : PlainHead → List (Writer D G) → Type 0
  SeesDurable h ws = (j : ℕ) (w : Writer D G) → slice_get ws j ≡ Some w → slice_index h.seen j ≡ durable_of w
