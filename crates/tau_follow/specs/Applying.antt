-- Where the records of streams stand, and what is applied of them.
use Rattle.std.specs.Prelude.{ℕ, suc, ◌≡◌, ◌<◌, ◌+◌, ◌&&◌, Bool, true, false, List, [], ◌∷◌, ◌++◌, map, length, drop, slice_get, slice_set, slice_index, slice_index_or, Option, Some, None, if◌then◌else◌}
use Rattle.tau_base.specs.Database.{Db, empty_db}
use Rattle.tau_base.specs.Vectors.{covers}
use Rattle.tau_proc.specs.declared.proc.Proc.{Proc}
use Rattle.tau_model.specs.Redo.{Content, Written as Writes, Command as Executes, redo_contents}
use Rattle.tau_record.specs.declared.entry.Entry.{Entry}
use Rattle.tau_record.specs.declared.entry.Entry.TheVariants.{Written, Command, Anchor, Catalogue, Epoch}
use Rattle.tau_record.specs.declared.entry.Placed.{Placed}
use Rattle.tau_scan.specs.Taken.{Kept, kept_as}
use Rattle.tau_follow_laws.specs.Following.{is_among, read_to}
use Rattle.tau_follow.specs.declared.spot.Spot.{Spot}
use Rattle.tau_follow.specs.declared.stage.Stage.{Stage}
use Rattle.tau_follow.specs.declared.stage.Stage.TheVariants.{Open, Out, Applied, Other}

-- where a record stands: left out, applied, or neither
abbrev pub stage_as : List Kept → List Kept → List Kept → Stage
stage_as out order [] = Other
stage_as out order (r ∷ rs) = if is_among out r then Out else (if is_among order r then Applied else Open)

abbrev pub stage_of : List Kept → List Kept → ℕ → Placed → Stage
stage_of out order j p = stage_as out order (kept_as j p p.entry)

abbrev pub stages_in : List Kept → List Kept → ℕ → List Placed → List Stage
stages_in out order j [] = []
stages_in out order j (p ∷ ps) = stage_of out order j p ∷ stages_in out order j ps

abbrev pub stages_from : List Kept → List Kept → ℕ → List (List Placed) → List (List Stage)
stages_from out order j [] = []
stages_from out order j (ps ∷ streams) = stages_in out order j ps ∷ stages_from out order (suc j) streams

-- where a record stands that was just read
abbrev pub first_stage : Entry → Stage
first_stage (Written number anchor dep writes) = Open
first_stage (Command number anchor dep call) = Open
first_stage (Anchor lv) = Other
first_stage (Catalogue text) = Other
first_stage (Epoch number lv) = Other

abbrev pub first_stages : List Placed → List Stage
first_stages [] = []
first_stages (p ∷ ps) = first_stage p.entry ∷ first_stages ps

-- with those of the records that are more
abbrev pub extended : List Placed → List Stage → List Stage
extended ps ss = ss ++ first_stages (drop (length ss) ps)

abbrev pub extended_from : List (List Placed) → List (List Stage) → List (List Stage)
extended_from [] all = []
extended_from (ps ∷ streams) [] = []
extended_from (ps ∷ streams) (ss ∷ all) = extended ps ss ∷ extended_from streams all

-- whether it is the record of a call, or an anchor
abbrev pub is_call : Entry → Bool
is_call (Written number anchor dep writes) = true
is_call (Command number anchor dep call) = true
is_call (Anchor lv) = true
is_call (Catalogue text) = false
is_call (Epoch number lv) = false

abbrev pub is_open_stage : Stage → Bool
is_open_stage Open = true
is_open_stage Out = false
is_open_stage Applied = false
is_open_stage Other = false

-- the vector of the record of a call; of any other no positions
abbrev pub dep_of : Entry → List ℕ
dep_of (Written number anchor dep writes) = dep
dep_of (Command number anchor dep call) = dep
dep_of (Anchor lv) = []
dep_of (Catalogue text) = []
dep_of (Epoch number lv) = []

-- what the record of a call holds
abbrev pub content_in : Entry → List Content
content_in (Written number anchor dep writes) = Writes writes ∷ []
content_in (Command number anchor dep call) = Executes call ∷ []
content_in (Anchor lv) = []
content_in (Catalogue text) = []
content_in (Epoch number lv) = []

-- whether a record that stands here is open, and covered by these positions
abbrev pub is_ready_one : List ℕ → Option Placed → Option Stage → Bool
is_ready_one reached None stage = false
is_ready_one reached (Some p) None = false
is_ready_one reached (Some p) (Some stage) = is_open_stage stage && covers reached (dep_of p.entry)

abbrev pub is_ready_at : List ℕ → List Placed → List Stage → ℕ → Bool
is_ready_at reached ps stages i = is_ready_one reached (slice_get ps i) (slice_get stages i)

-- how far a stream is followed whose records stand so
abbrev pub reach_by : ℕ → List Placed → List Stage → ℕ
reach_by end [] stages = end
reach_by end (p ∷ ps) [] = end
reach_by end (p ∷ ps) (s ∷ stages) = if is_open_stage s then p.start else reach_by end ps stages

-- how many are open
abbrev pub open_in : List Stage → ℕ
open_in [] = 0
open_in (s ∷ stages) = if is_open_stage s then suc (open_in stages) else open_in stages

-- the database of what is applied
abbrev pub redone_of : List Proc → List Kept → Db
redone_of procs order = redo_contents procs (map (λ (r : Kept). r.content) order) empty_db

abbrev pub is_ready_both : List ℕ → Option (List Placed) → Option (List Stage) → ℕ → Bool
is_ready_both reached None stages i = false
is_ready_both reached (Some ps) None i = false
is_ready_both reached (Some ps) (Some stages) i = is_ready_at reached ps stages i

-- whether the record at this index of this stream is ready
abbrev pub is_ready_in : List ℕ → List (List Placed) → List (List Stage) → ℕ → ℕ → Bool
is_ready_in reached streams stages j i = is_ready_both reached (slice_get streams j) (slice_get stages j) i

-- how far each stream is followed
abbrev pub reaches : List (List Placed) → List (List Stage) → List ℕ
reaches [] stages = []
reaches (ps ∷ streams) [] = []
reaches (ps ∷ streams) (ss ∷ stages) = reach_by (read_to ps) ps ss ∷ reaches streams stages

-- no record before these indexes is open
abbrev pub ArePassed : List (List Stage) → List ℕ → Type 0
ArePassed stages firsts = (j i : ℕ) (ss : List Stage) (s : Stage) → slice_get stages j ≡ Some ss → slice_get ss i ≡ Some s → i < slice_index firsts j → is_open_stage s ≡ false

-- none is passed
abbrev pub AreZero : List ℕ → Type 0
AreZero firsts = (j : ℕ) → slice_index firsts j ≡ 0

-- a record stands somewhere at this spot
abbrev pub IsWithin : List (List Stage) → Spot → Type 0
IsWithin stages spot = (ss : List Stage) × (slice_get stages spot.stream ≡ Some ss) × (spot.index < length ss)

-- the record at this index of this stream stands so then
abbrev pub set_stage : List (List Stage) → ℕ → ℕ → Stage → List (List Stage)
set_stage stages j i stage = slice_set stages j (slice_set (slice_index_or stages j []) i stage)

-- the record at a spot is this one
pub record IsSpot (streams : List (List Placed)) (spot : Spot) (r : Kept) : Type 0 where
  pub records : List Placed
  pub placed : Placed
  pub stream : slice_get streams spot.stream ≡ Some records
  pub there : slice_get records spot.index ≡ Some placed
  pub is : kept_as spot.stream placed placed.entry ≡ r ∷ []

-- the records at these spots are these, in their order
abbrev pub AreSpots : List (List Placed) → List Spot → List Kept → Type 0
AreSpots streams [] [] = Unit {0}
AreSpots streams (spot ∷ spots) (r ∷ order) = IsSpot streams spot r × AreSpots streams spots order
AreSpots streams _ _ = ⊥

-- how many records of all streams are open
abbrev pub open_all : List (List Stage) → ℕ
open_all [] = 0
open_all (ss ∷ stages) = open_in ss + open_all stages
