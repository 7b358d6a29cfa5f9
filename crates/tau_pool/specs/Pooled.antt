-- The pools as a value, and what their calls do.
use Rattle.std.specs.Prelude.{ℕ, ◌≡◌, ◌≤◌, ◌<◌, ◌+◌, ◌⊎◌, true, List, [], ◌∷◌, length, slice_get, slice_set, slice_index, Some, if◌then◌else◌}
use Rattle.tau_base.specs.Vectors.{AtMost}
use Rattle.tau_pool.specs.Item.{Item}
use Rattle.tau_pool.specs.declared.item.Job.{Job}
use Rattle.tau_pool.specs.declared.item.Stage.{Stage}
use Rattle.tau_pool.specs.declared.item.Stage.TheVariants.{Flying, Finished}
use Rattle.tau_pool.specs.Items.{is_left, is_waiting, is_flying}

-- the lengths of the contents, the recovered vector, and the taken records by stream and place
pub record Pooled : Type 0 where
  pub ends : List ℕ
  pub rlv : List ℕ
  pub items : List Item

-- The recovered vector has for each stream the start of its first taken record that is not finished, or the length of
-- the content where none is left.
pub record IsRecovered (ends rlv : List ℕ) (items : List Item) : Type 0 where
  pub wide : length rlv ≡ length ends
  pub below : (i : ℕ) (x : Item) → slice_get items i ≡ Some x → is_left x.stage ≡ true → slice_index rlv x.stream ≤ x.start
  pub reached : (j : ℕ) → j < length ends →
      ((slice_index rlv j ≡ slice_index ends j) × ((i : ℕ) (x : Item) → slice_get items i ≡ Some x → x.stream ≡ j → is_left x.stage ≡ true → ⊥))
      ⊎ ((i : ℕ) × (x : Item) × (slice_get items i ≡ Some x) × (x.stream ≡ j) × (is_left x.stage ≡ true) × (x.start ≡ slice_index rlv j))

-- the record at this place, at another stage
abbrev pub staged : Stage → Item → Item
staged stage x = record x { stage = stage }

-- the job of the record at this place
abbrev pub job_of : ℕ → Item → Job
job_of i x = record { stream = x.stream; index = x.index; place = i }

-- an unstarted record whose vector the recovered vector covers was started
pub record IsStarted (p : Pooled) (job : Job) (q : Pooled) : Type 0 where
  pub item : Item
  pub there : slice_get p.items job.place ≡ Some item
  pub unstarted : is_waiting item.stage ≡ true
  pub ready : AtMost item.dep p.rlv
  pub named : job ≡ job_of job.place item
  pub new : q ≡ record p { items = slice_set p.items job.place (staged Flying item) }

-- the job is one that was started and is not finished
pub record IsFlying (p : Pooled) (job : Job) : Type 0 where
  pub item : Item
  pub there : slice_get p.items job.place ≡ Some item
  pub started : is_flying item.stage ≡ true
  pub named : job ≡ job_of job.place item

-- the record of the job is finished
pub record IsFinished (p : Pooled) (job : Job) (q : Pooled) : Type 0 where
  pub ends : q.ends ≡ p.ends
  pub items : (x : Item) → slice_get p.items job.place ≡ Some x → q.items ≡ slice_set p.items job.place (staged Finished x)

-- the recovered vector covers nothing that is not started
abbrev pub NoneReady : Pooled → Type 0
NoneReady p = (i : ℕ) (x : Item) → slice_get p.items i ≡ Some x → is_waiting x.stage ≡ true → AtMost x.dep p.rlv → ⊥

-- something is not started, and the recovered vector covers none of that
pub record IsNotYet (p : Pooled) : Type 0 where
  pub some : (i : ℕ) × (x : Item) × (slice_get p.items i ≡ Some x) × (is_waiting x.stage ≡ true)
  pub none_ready : NoneReady p

-- everything is started
abbrev pub IsDone : Pooled → Type 0
IsDone p = (i : ℕ) (x : Item) → slice_get p.items i ≡ Some x → is_waiting x.stage ≡ true → ⊥

-- how many are in flight
abbrev pub flying_in : List Item → ℕ
flying_in [] = 0
flying_in (x ∷ xs) = (if is_flying x.stage then 1 else 0) + flying_in xs

-- how many are not started
abbrev pub waiting_in : List Item → ℕ
waiting_in [] = 0
waiting_in (x ∷ xs) = (if is_waiting x.stage then 1 else 0) + waiting_in xs

-- this is the first record, by stream and place, that is not finished
pub record IsFirstLeft (items : List Item) (job : Job) : Type 0 where
  pub item : Item
  pub there : slice_get items job.place ≡ Some item
  pub left : is_left item.stage ≡ true
  pub named : job ≡ job_of job.place item
  pub before : (i : ℕ) (x : Item) → i < job.place → slice_get items i ≡ Some x → is_left x.stage ≡ true → ⊥
