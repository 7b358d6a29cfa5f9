-- What a desk gives when it closes, in the words of its rule, and what the loops know of their own.
use Rattle.std.specs.Prelude.{ℕ, ◌%◌, ◌<◌, ◌≤◌, ◌≡◌, Option, Some, None, List, [], length, map, slice_index}
use Rattle.std.specs.List.{filter}
use Rattle.tau_base.specs.Modes.{format_of}
use Rattle.tau_base.specs.Vectors.{covers}
use Rattle.tau_disk.specs.declared.disk.Disk.{Ghosts}
use Rattle.tau_stream.specs.declared.writer.Writer.{Writer}
use Rattle.tau_stream.specs.Writer.{disk_of, IsReady}
use Rattle.tau_outbox.specs.Pieces.{PlainOutbox}
use Rattle.tau_ack.specs.Pending.{PlainPending}
use Rattle.tau_model.specs.History.{Member}
use Rattle.tau_model.specs.declared.committed.Committed.{Committed}
use Rattle.tau_model.specs.declared.committed.Spot.{Spot}
use Rattle.tau_machine.specs.State.{Ticket}
use Rattle.tau_machine.specs.Worker.{Worker}
use Rattle.tau_machine.specs.Accounts.{in_calls, in_worker}
use Rattle.tau_core.specs.Opens.{calls_of}
use Rattle.tau_core.specs.State.{Plain}
use Rattle.tau_core.specs.declared.state.Load.{Load}
use Rattle.tau_occ.specs.declared.style.Style.{Style}
use Rattle.tau_rule.specs.Knows.{Knows}
use Rattle.tau_rule.specs.Role.{Managed, Role, Working, Managing, Clerking}
use Rattle.tau_rule.specs.Rule.{IsOutbox, IsRole, Meets, Now, Sees, anchors_at, clerk_role, has, manager_role}
use Rattle.tau_crew_facts.specs.Writers.{AllBecameDurable, HasWritten}
use Rattle.tau_crew_facts.specs.Spacing.{IsSpacing}

-- A desk closes with a head that has every role: these workers, these managers, and these acknowledged calls of each worker. All that it knows is of one state c, and all outboxes are at home.
pub record IsClosing (first : Plain) (style : Style) (v : Knows) (workers : ℕ → Worker) (managers : ℕ → Managed) (acked : List (List Ticket)) (c : Now) : Type 0 where
  pub meets : Meets first style c
  pub sees : Sees first c v
  pub roles : (u : ℕ) (r : Role) → has u v ≡ Some r → IsRole first.load u r c
  pub worker : (w : ℕ) → w < first.load.workers → (r : Role) × (has w v ≡ Some r) × (r.share ≡ Working (workers w))
  pub manager : (j : ℕ) → j < first.load.streams → (r : Role) × (has (manager_role first.load j) v ≡ Some r) × (r.share ≡ Managing (managers j))
  pub clerk : (r : Role) × (has (clerk_role first.load) v ≡ Some r) × (r.share ≡ Clerking acked)
  pub box : (w : ℕ) → w < first.load.workers → (o : PlainOutbox) × (p : PlainPending) × IsOutbox first.load o p (anchors_at c.core) (c.core.outboxes w)

-- ---- what the loops know at their ends, of their own views

-- a manager and its writer, w at the entry
pub record ManagerKnows {D : Type 0} {G : Ghosts D} (l : Load) (seen : List ℕ) (j : ℕ) (base : List ℕ) (g : Managed) (w w' : Writer D G) : Type 0 where
  pub ready : G.tells → IsReady (format_of l.mode) l.streams j w base
  pub written : HasWritten (format_of l.mode) l.streams j base g.taken (slice_index seen j) w w'
  pub lasts : G.tells → AllBecameDurable G (format_of l.mode) l.streams j (disk_of w') g.stored

-- the own components of its anchors stand in their distance up to what it has stored
abbrev pub ManagerApart : Load → List ℕ → ℕ → List ℕ → Managed → Type 0
ManagerApart l seen j base g = IsSpacing (slice_index l.opening.anchors.items j) (length base) (slice_index seen j) (map (λ (v : List ℕ). slice_index v j) g.anchors)

-- the record of this call, if it has one, ends no later
abbrev pub EndsBy : ℕ → Option Spot → Type 0
EndsBy upto None = Unit {0}
EndsBy upto (Some s) = s.past ≤ upto

-- a worker whose run went to its end: nothing is in hand, and none of its calls was given up
pub record WorkerDone (l : Load) (w : ℕ) (worker : Worker) : Type 0 where
  pub rests : worker.hand ≡ None
  pub kept : (k : ℕ) → in_calls k (calls_of l w) ≤ in_worker k worker

-- A manager whose disk works and that has nothing to do: all that it gathered is durable, that is all that the workers placed, and it has no anchor that waits.
pub record ManagerDone (l : Load) (seen : List ℕ) (workers : ℕ → Worker) (j : ℕ) (g : Managed) : Type 0 where
  pub durable : slice_index seen j ≡ g.gathered
  pub own : g.own ≡ []
  pub placed : (w : ℕ) (call : Committed) → w < l.workers → w % l.streams ≡ j → Member call (workers w).committed → EndsBy g.gathered call.spot

-- how many of these calls the positions cover
abbrev pub covered_count : List ℕ → List Committed → ℕ
covered_count plv calls = length (filter (λ (call : Committed). covers plv call.lv) calls)

-- the clerk has acknowledged as many calls of this worker as what was seen covers, which are those
abbrev pub ClerkDone : List ℕ → Worker → List Ticket → Type 0
ClerkDone seen worker acked = covered_count seen worker.committed ≤ length acked
