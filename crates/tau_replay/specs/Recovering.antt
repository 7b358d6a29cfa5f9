-- A recovery on its way.
use Rattle.std.specs.Prelude.{ℕ, ◌≡◌, ◌≢◌, ◌≤◌, ◌+◌, ◌*◌, true, List, [], ◌∷◌, ◌++◌, map, Option, Some, None, slice_get, slice_index, if◌then◌else◌}
use Rattle.tau_base.specs.Database.{Db}
use Rattle.tau_model.specs.History.{Member, Reordered}
use Rattle.tau_model.specs.Logged.{Orderly}
use Rattle.tau_model.specs.Redo.{redo_contents}
use Rattle.tau_scan.specs.declared.log.Log.{Log}
use Rattle.tau_record.specs.declared.entry.Placed.{Placed}
use Rattle.tau_scan.specs.Taken.{Kept, kept_as}
use Rattle.tau_pool.specs.Item.{Item}
use Rattle.tau_pool.specs.declared.item.Job.{Job}
use Rattle.tau_pool.specs.Items.{is_left, is_flying}
use Rattle.tau_pool.specs.Pooled.{Pooled, IsRecovered, IsFlying, waiting_in, flying_in}
use Rattle.tau_replay.specs.Course.{Course, whole, IsPart}

-- the record at this number of this stream of the log is this data or command record
pub record Stands (log : Log) (j i : ℕ) (r : Kept) : Type 0 where
  pub records : List Placed
  pub placed : Placed
  pub stream : slice_get log.streams j ≡ Some records
  pub there : slice_get records i ≡ Some placed
  pub is : kept_as j placed placed.entry ≡ r ∷ []

-- the item is that of the record, at whatever stage
pub record IsOf (log : Log) (r : Kept) (x : Item) : Type 0 where
  pub stream : x.stream ≡ r.place.stream
  pub start : x.start ≡ r.place.start
  pub dep : x.dep ≡ r.place.dep
  pub stands : Stands log x.stream x.index r

-- each item is that of the record at its place
abbrev pub AreOf : Log → List Kept → List Item → Type 0
AreOf log [] [] = Unit {0}
AreOf log [] (x ∷ xs) = ⊥
AreOf log (r ∷ rs) [] = ⊥
AreOf log (r ∷ rs) (x ∷ xs) = IsOf log r x × AreOf log rs xs

-- the records that are left
abbrev pub left_in : List Kept → List Item → List Kept
left_in [] xs = []
left_in (r ∷ rs) [] = []
left_in (r ∷ rs) (x ∷ xs) = if is_left x.stage then r ∷ left_in rs xs else left_in rs xs

-- the records that are left start at or after what the vector of this one asks
abbrev pub IsAhead : Kept → List Kept → Type 0
IsAhead r rest = (q : Kept) → Member q rest → slice_index r.place.dep q.place.stream ≤ q.place.start

-- Of the records of the course these are finished, in this order, and what they did is in the database. Each of them, and each in flight,
-- waits for none that is left.
pub record IsGoingOn (log : Log) (course : Course) (p : Pooled) (db : Db) (order : List Kept) : Type 0 where
  pub part : IsPart log course
  pub ends : p.ends ≡ log.elv
  pub recovered : IsRecovered p.ends p.rlv p.items
  pub items : AreOf log course.records p.items
  pub each_once : Reordered course.records (order ++ left_in course.records p.items)
  pub orderly : Orderly (map (λ (r : Kept). r.place) order)
  pub ahead : (r : Kept) → Member r order → IsAhead r (left_in course.records p.items)
  pub flying : (i : ℕ) (x : Item) (r : Kept) → slice_get p.items i ≡ Some x → slice_get course.records i ≡ Some r → is_flying x.stage ≡ true → IsAhead r (left_in course.records p.items)
  pub database : db ≡ redo_contents log.declarations.procs (map (λ (r : Kept). r.content) order) course.base

-- a recovery of the whole log
abbrev pub IsGoing : Log → Pooled → Db → List Kept → Type 0
IsGoing log p db order = IsGoingOn log (whole log) p db order

-- the record of a job
abbrev pub IsHeld : Log → Job → Kept → Type 0
IsHeld log job r = Stands log job.stream job.index r

abbrev pub IsHeldBy : Log → Job → Type 0
IsHeldBy log job = (r : Kept) × IsHeld log job r

-- how much is left to be done: a start and a finish for each record
abbrev pub left_over : List Item → ℕ
left_over items = 2 * waiting_in items + flying_in items

-- how many hands hold a job
abbrev pub held_in : List (Option Job) → ℕ
held_in [] = 0
held_in (None ∷ hands) = held_in hands
held_in (Some job ∷ hands) = 1 + held_in hands

-- the hands hold what is in flight, each a job of its own
pub record AreHands (p : Pooled) (hands : List (Option Job)) : Type 0 where
  pub flying : (w : ℕ) (job : Job) → slice_get hands w ≡ Some (Some job) → IsFlying p job
  pub apart : (v w : ℕ) (a b : Job) → v ≢ w → slice_get hands v ≡ Some (Some a) → slice_get hands w ≡ Some (Some b) → a.place ≢ b.place
  pub count : held_in hands ≡ flying_in p.items
