-- What a step is: the event of the machine that it was, or nothing with its cause.
use Rattle.std.specs.Prelude.{ℕ, true, false, ◌%◌, ◌<◌, ◌≤◌, ◌≡◌, ◌⊎◌, Some, None, List, [], ◌∷◌, ◌++◌, length, slice_get, slice_index}
use Rattle.tau_base.specs.declared.value.Key.{Key}
use Rattle.tau_base.specs.declared.value.Value.{Value}
use Rattle.tau_base.specs.declared.value.Mode.{Mode}
use Rattle.tau_base.specs.Shards.{shard_number}
use Rattle.tau_base.specs.declared.limits.TheConstants.{MAX_BODY, SHARDS}
use Rattle.tau_model.specs.History.{Act}
use Rattle.std.specs.Ordering.{is_le}
use Rattle.tau_base.specs.Database.{key_cmp}
use Rattle.tau_machine.specs.Hands.{Txn, Hand, mode_of}
use Rattle.tau_shard.specs.Shard.{at, entry_in}
use Rattle.tau_machine.specs.State.{hand_of}
use Rattle.tau_machine.specs.Events as machine
use Rattle.tau_machine.specs.Events.{Leads, ready, lock_next}
use Rattle.tau_shard.specs.Blocks.{IsLowest}
use Rattle.tau_ack.specs.Pending.{NoneCovered, TakesFirst}
use Rattle.tau_core.specs.declared.event.Event.{Event}
use Rattle.tau_core.specs.declared.event.Event.TheVariants as event
use Rattle.tau_core.specs.declared.event.Phase.{Phase}
use Rattle.tau_core.specs.declared.event.Phase.TheVariants.{Locking, Quitting, Ready, Placed, Freeing, Ended, Stopped}
use Rattle.tau_core.specs.declared.event.Outcome.{Outcome}
use Rattle.tau_core.specs.declared.event.Outcome.TheVariants as outcome
use Rattle.tau_core.specs.Plain.{PlainSeat}
use Rattle.tau_core.specs.State.{Plain}
use Rattle.tau_core.specs.View.{setting_of, Hidden, stop_in, core_of}
use Rattle.tau_core.specs.Stands.{Stands, anchors_at}
use Rattle.tau_core.specs.Pieces.{newest_of, Spelled}
use Rattle.tau_core.specs.Gather.{AllGathered}
use Rattle.tau_core.specs.Body.{Gives}
use Rattle.tau_core.specs.Managers.{Bars}
use Rattle.tau_core.specs.Phases.{hand_phase}

-- the event of the machine happened, and these calls joined the committed ones by it
pub record Happened (e : machine.Event) (p p' : Plain) (K : List (Act Txn)) (h : Hidden) : Type 0 where
  pub hidden : Hidden
  pub joined : List (Act Txn)
  pub leads : Leads (setting_of p.load) e (core_of p h) (core_of p' hidden) joined
  pub stands : Stands p' (K ++ joined) hidden
  pub load : p'.load ≡ p.load
  pub taken : hidden.taken ≡ h.taken

-- nothing changed; only room may have been made
pub record Unmoved (p p' : Plain) (K : List (Act Txn)) (h : Hidden) : Type 0 where
  pub hidden : Hidden
  pub same : core_of p' hidden ≡ core_of p h
  pub stands : Stands p' K hidden
  pub load : p'.load ≡ p.load
  pub taken : hidden.taken ≡ h.taken

-- the lock that the worker wants, also one that rests and would begin its next call
pub record WantsLock (p : Plain) (h : Hidden) (w : ℕ) (key : Key) (mode : Mode) : Type 0 where
  pub hand : Hand
  pub is : (ready (setting_of p.load) (core_of p h) w).hand ≡ Some hand
  pub next : lock_next (setting_of p.load) hand ≡ Some (key, mode)

-- the row has this value
abbrev pub Grants : Plain → Hidden → ℕ → Value → Type 0
Grants p h w value = (key : Key) × (mode : Mode) × WantsLock p h w key mode × (value ≡ ((core_of p h).shards (shard_number key)).rows key)

-- the lowest other worker that holds the key in a conflicting mode
abbrev pub IsBarredBy : Plain → Hidden → ℕ → ℕ → Type 0
IsBarredBy p h w holder = (key : Key) × (mode : Mode) × WantsLock p h w key mode × IsLowest (entry_in ((core_of p h).shards (shard_number key)) key) w mode holder

-- the worker stands in this phase, and what it does next, also where it rests and would begin its next call, comes in another one than is wanted
abbrev pub StandsElsewhere : Plain → Hidden → ℕ → Phase → Phase → Type 0
StandsElsewhere p h w wanted phase =
    (phase ≡ hand_phase p.load.procs (hand_of (core_of p h) w)) × (hand_phase p.load.procs (ready (setting_of p.load) (core_of p h) w).hand ≡ wanted → ⊥)

-- the call in hand does next what comes in this phase
abbrev pub IsAt : Plain → Hidden → ℕ → Phase → Type 0
IsAt p h w phase = hand_phase p.load.procs (hand_of (core_of p h) w) ≡ phase

-- the worker rests, and has a call that it would begin
abbrev pub WouldBegin : Plain → Hidden → ℕ → Type 0
WouldBegin p h w = (hand_of (core_of p h) w ≡ None) × (hand : Hand) × ((ready (setting_of p.load) (core_of p h) w).hand ≡ Some hand)

-- of the worker's pending calls it is the first that is persisted, and the others are pending still
abbrev pub IsFirstCovered : Plain → Plain → ℕ → ℕ → List ℕ → Type 0
IsFirstCovered p p' w number lv =
    (s s' : PlainSeat) → slice_get p.seats w ≡ Some s → slice_get p'.seats w ≡ Some s' → TakesFirst p.plv s.pending.calls (record { number = number; lv = lv }) s'.pending.calls

abbrev pub IsStopped : Plain → ℕ → Phase → Type 0
IsStopped p j (Stopped at) = stop_in (slice_get p.streams j) ≡ Some at
IsStopped p j _ = ⊥

module _ (p p' : Plain) (K : List (Act Txn)) (h : Hidden) where
  abbrev pub of_worker : ℕ → Phase → Phase → Type 0
  of_worker w wanted phase = Unmoved p p' K h × StandsElsewhere p h w wanted phase

  abbrev pub LockSteps : ℕ → Outcome → Type 0
  LockSteps w (outcome.Granted value) = Happened (machine.Lock w) p p' K h × Grants p h w value
  LockSteps w (outcome.Busy holder) = Happened (machine.Busy w) p p' K h × IsBarredBy p h w holder
  LockSteps w (outcome.NotNow phase) = of_worker w Locking phase
  LockSteps w outcome.NoMemory = Unmoved p p' K h × (IsAt p h w Locking ⊎ WouldBegin p h w)
  LockSteps w _ = ⊥

  abbrev pub QuitSteps : ℕ → Outcome → Type 0
  -- the key that is given back is the lowest that the call holds
  QuitSteps w outcome.Went = (x : Happened (machine.Quit w false) p p' K h) ×
      ((k : Key) (mode : Mode) → mode_of k x.leads.0.hand.held ≡ Some mode → is_le (key_cmp x.leads.0.key k) ≡ true)
  QuitSteps w (outcome.NotNow phase) = of_worker w Quitting phase
  QuitSteps w _ = ⊥

  abbrev pub CommitSteps : ℕ → Outcome → Type 0
  -- the call names the newest anchor of its stream
  CommitSteps w (outcome.Placed start) = (x : Happened (machine.Commit w) p p' K h) × (start ≡ slice_index p.ends (w % p.load.streams)) ×
      ((t : Act Txn) × (x.joined ≡ t ∷ []) × (t.call.anchor ≡ newest_of (slice_index p.load.opening.anchors.items (w % p.load.streams)) (anchors_at p (w % p.load.streams))))
  CommitSteps w (outcome.NotNow phase) = of_worker w Ready phase
  CommitSteps w outcome.NoMemory = Unmoved p p' K h × IsAt p h w Ready
  CommitSteps w _ = ⊥

  abbrev pub PostSteps : ℕ → Outcome → Type 0
  PostSteps w outcome.Went = Happened (machine.Post w) p p' K h
  PostSteps w (outcome.NotNow phase) = of_worker w Placed phase
  PostSteps w _ = ⊥

  abbrev pub FreeSteps : ℕ → Outcome → Type 0
  FreeSteps w outcome.Went = Happened (machine.Free w) p p' K h ⊎ Happened (machine.FirstFree w) p p' K h
  FreeSteps w (outcome.NotNow phase) = of_worker w Freeing phase
  FreeSteps w _ = ⊥

  abbrev pub DoneSteps : ℕ → Outcome → Type 0
  DoneSteps w outcome.Went = Happened (machine.Done w) p p' K h ⊎ Happened (machine.DoneReading w) p p' K h
  DoneSteps w (outcome.NotNow phase) = of_worker w Ended phase
  DoneSteps w outcome.NoMemory = Unmoved p p' K h × WouldBegin p h w
  DoneSteps w _ = ⊥

  -- every entry that is free and persisted is removed
  abbrev pub DropSteps : ℕ → Outcome → Type 0
  DropSteps i outcome.Went = Happened (machine.Drop i p.plv) p p' K h
  DropSteps i _ = ⊥

  abbrev pub GatherSteps : ℕ → Outcome → Type 0
  -- no piece that is posted is left where the stream is gathered, but one that is too long for the body
  GatherSteps j (outcome.Gathered upto) = Happened (machine.Gather j) p p' K h × (upto ≡ slice_index p'.gathered j) × AllGathered j p'
  GatherSteps j (outcome.NotNow phase) = Unmoved p p' K h × IsStopped p j phase
  GatherSteps j outcome.NoMemory = Unmoved p p' K h
  GatherSteps j _ = ⊥

  abbrev pub AnchorSteps : ℕ → Outcome → Type 0
  AnchorSteps j (outcome.Placed start) = Happened (machine.PlaceAnchor j p.plv) p p' K h × (start ≡ slice_index p.ends j)
  AnchorSteps j (outcome.NotNow phase) = Unmoved p p' K h × IsStopped p j phase
  AnchorSteps j outcome.NoMemory = Unmoved p p' K h
  AnchorSteps j _ = ⊥

  abbrev pub PersistSteps : ℕ → ℕ → Outcome → Type 0
  PersistSteps j upto outcome.Went = Happened (machine.Persist j upto) p p' K h
  PersistSteps j upto (outcome.NotNow phase) = Unmoved p p' K h × Bars p j upto phase
  PersistSteps j upto _ = ⊥

  abbrev pub StopSteps : ℕ → ℕ → Outcome → Type 0
  StopSteps j position outcome.Went = Happened (machine.Stop j position) p p' K h
  StopSteps j position (outcome.NotNow phase) = Unmoved p p' K h × Bars p j position phase
  StopSteps j position _ = ⊥

  -- the first pending call that is persisted, and nothing covered exactly where there is none
  abbrev pub AckSteps : ℕ → Outcome → Type 0
  AckSteps w (outcome.Acked number lv) = (x : Happened (machine.Ack w p.plv) p p' K h) × (x.hidden.acked ≡ at w (h.acked w ++ record { number = number; lv = lv } ∷ []) h.acked) × IsFirstCovered p p' w number lv
  AckSteps w outcome.NothingCovered = Unmoved p p' K h × ((s : PlainSeat) → slice_get p.seats w ≡ Some s → NoneCovered p.plv s.pending.calls)
  AckSteps w _ = ⊥

  -- the outcome of an event, and what it says
  abbrev pub Steps : Event → Outcome → Type 0
  Steps (event.Lock w) o = LockSteps w o
  Steps (event.Quit w) o = QuitSteps w o
  Steps (event.Commit w) o = CommitSteps w o
  Steps (event.Post w) o = PostSteps w o
  Steps (event.Free w) o = FreeSteps w o
  Steps (event.Done w) o = DoneSteps w o
  Steps (event.Drop i) o = DropSteps i o
  Steps (event.Gather j) o = GatherSteps j o
  Steps (event.Anchor j) o = AnchorSteps j o
  Steps (event.Persist j upto) o = PersistSteps j upto o
  Steps (event.Ack w) o = AckSteps w o
  Steps (event.Stop j position) o = StopSteps j position o

-- its worker, its shard or its stream is there
abbrev pub IsThere : Plain → Event → Type 0
IsThere p (event.Lock w) = w < p.load.workers
IsThere p (event.Quit w) = w < p.load.workers
IsThere p (event.Commit w) = w < p.load.workers
IsThere p (event.Post w) = w < p.load.workers
IsThere p (event.Free w) = w < p.load.workers
IsThere p (event.Done w) = w < p.load.workers
IsThere p (event.Drop i) = i < SHARDS
IsThere p (event.Gather j) = j < p.load.streams
IsThere p (event.Anchor j) = j < p.load.streams
IsThere p (event.Persist j upto) = j < p.load.streams
IsThere p (event.Ack w) = w < p.load.workers
IsThere p (event.Stop j position) = j < p.load.streams

-- the bytes of a stream that are here were handed out, and nothing else changed: after those that were handed out before, they spell all that was gathered
pub record HandsOut (p p' : Plain) (K : List (Act Txn)) (h : Hidden) (j : ℕ) (bytes : List ℕ) : Type 0 where
  pub hidden : Hidden
  pub same : core_of p' hidden ≡ core_of p h
  pub stands : Stands p' K hidden
  pub load : p'.load ≡ p.load
  pub taken : hidden.taken ≡ at j (h.taken j ++ bytes) h.taken
  pub gives : Gives p j bytes p'
  pub small : length bytes ≤ MAX_BODY
  pub spelled : Spelled p'.load (anchors_at p') (hidden.moved j) (hidden.taken j)
