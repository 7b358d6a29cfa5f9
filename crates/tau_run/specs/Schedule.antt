-- Runs by turns as small steps: what a run has still to do, and what one step of it does. Each step is at most one event.
use Rattle.std.specs.Prelude.{ℕ, ◌<◌, ◌≡◌, ◌⊎◌, ◌&&◌, ◌||◌, ◌==◌, not, nat_lt, Bool, is_some, Some, List, [], ◌∷◌, ◌++◌, map, slice_index}
use Rattle.std.specs.List.{list_any}
use Rattle.std.specs.Map.{lookup}
use Rattle.tau_base.specs.Database.{same_key}
use Rattle.tau_base.specs.Vectors.{covers}
use Rattle.tau_base.specs.declared.limits.TheConstants.{SHARDS}
use Rattle.tau_base.specs.declared.value.Key.{Key}
use Rattle.tau_base.specs.declared.value.Mode.TheVariants.{Read}
use Rattle.tau_base.specs.declared.value.Value.{Value}
use Rattle.tau_proc.specs.Effect.{Effect}
use Rattle.tau_machine.specs.Stage.{Wants, Ends, stage}
use Rattle.tau_machine.specs.Hands.{Hand, Running}
use Rattle.tau_shard.specs.Shard.{at}
use Rattle.tau_machine.specs.State.{Setting, Ticket, Core}
use Rattle.tau_machine.specs.Events.{Event, Lock, Busy, Done, DoneReading, Drop, Resume, ready, lock_next}
use Rattle.tau_machine.specs.Waits.{BusyHasHolder, IsBarred}
use Rattle.tau_occ.specs.declared.style.Style.{Style}
use Rattle.tau_occ.specs.declared.style.Style.TheVariants.{Locking, Optimistic}
use Rattle.tau_text.specs.declared.load.Turn.{Turn}
use Rattle.tau_text.specs.declared.load.Turn.TheVariants as turn
use Rattle.tau_run.specs.Run.{below}
use Rattle.tau_run.specs.Turns.{Progress, begun, IfSo, IsOwn, is_empty, is_raised, is_going, Goes, Tells, NamesNewest, QuitsLowest, Gathers, Flushed, Anchored, round, any_left}

-- what a run has still to do
pub data Todo : Type 0 where
  -- a turn word
  Word : Turn → Todo
  -- the flush of what a manager has gathered
  Flush : ℕ → Todo
  -- the acknowledgements of a worker
  Clear : ℕ → Todo
  -- the removal of a shard's free entries
  Remove : ℕ → Todo
  -- rounds, until no worker has anything to do
  Rounds : Todo
  -- the calls left over, each alone
  LeftOver : Todo
  -- a worker's turns, until it has nothing to do
  Alone : ℕ → Todo
  -- a manager's turns, until it is idle or its disk has failed
  Drain : ℕ → Todo
  -- the rest of such a turn, once it has gathered
  Drained : ℕ → Todo

-- how far a run has come, and what each worker has peeked of its call in this try
pub record RunState : Type 0 where
  pub progress : Progress
  pub peeks : ℕ → List (Key × Value)

-- so far it has come, and this is peeked
abbrev pub peeked : Progress → (ℕ → List (Key × Value)) → RunState
peeked p peeks = record { progress = p; peeks = peeks }

-- nothing is peeked
abbrev pub still : Progress → RunState
still p = peeked p (λ w. [])

abbrev pub state_of : RunState → Core
state_of x = x.progress.state

-- nothing happens, and this is to be done instead
abbrev pub Becomes : List Todo → RunState → List Todo → RunState → Type 0
Becomes todos x more y = (more ≡ todos) × (y ≡ x)

-- this happens, no worker peeks, and this is to be done next
abbrev pub Then : (Progress → Progress → Type 0) → List Todo → RunState → List Todo → RunState → Type 0
Then R todos x more y = (more ≡ todos) × R x.progress y.progress × (y.peeks ≡ x.peeks)

-- a worker that is Busy, or whose call has ended, has peeked nothing of its next try; in the style Locking none ever peeks
abbrev pub peeks_after : Style → Event → (ℕ → List (Key × Value)) → ℕ → List (Key × Value)
peeks_after Locking event peeks = peeks
peeks_after Optimistic (Busy w) peeks = at w [] peeks
peeks_after Optimistic (Done w) peeks = at w [] peeks
peeks_after Optimistic (DoneReading w) peeks = at w [] peeks
peeks_after Optimistic event peeks = peeks

-- m workers, n streams
module _ (set : Setting) (m n : ℕ) where
  -- The worker has something to do: a call in hand, also one of which it has only peeked, or a call to begin and no disk
  -- has failed.
  abbrev pub has_turn : RunState → ℕ → Bool
  has_turn x w =
      nat_lt w m && (is_some ((state_of x).workers w).hand || (not (is_empty (x.peeks w)) || (not (is_raised set m n (state_of x)) && not (is_empty ((state_of x).workers w).waiting))))

  abbrev pub any_turn : RunState → Bool
  any_turn x = list_any (has_turn x) (below m)

  abbrev pub row_of : RunState → Key → Value
  row_of x key = ((state_of x).shards (set.shard_of key)).rows key

  -- the worker sees a key that its call wants on what it has peeked, and takes no lock
  pub record Peeks (w : ℕ) (x y : RunState) : Type 0 where
    pub hand : Hand
    pub reads : List (Key × Value)
    pub key : Key
    pub is : (ready set (state_of x) w).hand ≡ Some hand
    pub phase : hand.phase ≡ Running
    pub wants : stage set.procs hand.call.call (x.peeks w) ≡ Wants reads key
    pub after : y ≡ record x { peeks = at w (x.peeks w ++ (key, row_of x key) ∷ []) x.peeks }

  -- its call, where it runs, has ended on what was peeked
  abbrev pub HasPeeked : ℕ → RunState → Type 0
  HasPeeked w x = (hand : Hand) → (ready set (state_of x) w).hand ≡ Some hand → hand.phase ≡ Running → (e : Effect) × (stage set.procs hand.call.call (x.peeks w) ≡ Ends e)

  -- the row that the worker is to read next is not what it has peeked
  pub record Differs (w : ℕ) (x : RunState) : Type 0 where
    pub hand : Hand
    pub key : Key
    pub is : (ready set (state_of x) w).hand ≡ Some hand
    pub next : lock_next set hand ≡ Some (key, Read)
    pub differs : lookup (same_key key) (x.peeks w) ≡ Some (row_of x key) → ⊥

  -- who is Busy: a worker whose key another holds in a conflicting mode, and an optimistic one also where a row differs
  abbrev pub BusyHasCause : Style → Event → RunState → Type 0
  BusyHasCause Locking event x = BusyHasHolder set event (state_of x)
  BusyHasCause Optimistic (Busy w) x = IsBarred set w (state_of x) ⊎ Differs w x
  BusyHasCause Optimistic event x = Unit {0}

  -- an optimistic worker reads, under its lock, what it has peeked
  abbrev pub ReadsPeeked : Style → Event → RunState → Type 0
  ReadsPeeked Locking event x = Unit {0}
  ReadsPeeked Optimistic (Lock w) x = (hand : Hand) (key : Key) → (ready set (state_of x) w).hand ≡ Some hand → lock_next set hand ≡ Some (key, Read) → lookup (same_key key) (x.peeks w) ≡ Some (row_of x key)
  ReadsPeeked Optimistic event x = Unit {0}

  -- the next action of the worker is this event
  pub record Acts (style : Style) (w : ℕ) (x y : RunState) : Type 0 where
    pub event : Event
    pub own : IsOwn w event
    pub goes : Goes set m n event x.progress y.progress
    pub newest : NamesNewest set m n event (state_of x) goes.new
    pub busy : BusyHasCause style event x
    pub reads : ReadsPeeked style event x
    pub lowest : QuitsLowest set m n event (state_of x) (state_of y) goes.new goes.leads
    pub peeks : y.peeks ≡ peeks_after style event x.peeks

  -- an optimistic worker peeks until its call has ended on what it has peeked, and acts then
  abbrev pub TakesTurn : Style → ℕ → RunState → RunState → Type 0
  TakesTurn Locking w x y = Acts Locking w x y
  TakesTurn Optimistic w x y = Peeks w x y ⊎ (HasPeeked w x × Acts Optimistic w x y)

  -- some pending call of the worker is persisted
  abbrev pub has_covered : ℕ → Core → Bool
  has_covered w s = list_any (λ (k : Ticket). covers s.plv k.lv) (s.outboxes w).pending

  -- what was gathered is persisted
  abbrev pub is_flushed : ℕ → Core → Bool
  is_flushed j s = slice_index s.gathered j == slice_index s.plv j

  -- One step: the first thing to do is done, or a part of it, and `more` is left to do of it.
  abbrev pub Does : Style → Todo → RunState → List Todo → RunState → Type 0
  Does style (Word (turn.Worker w)) x more y = IfSo (has_turn x w) ((more ≡ []) × TakesTurn style w x y) (Becomes [] x more y)
  Does style (Word (turn.Manager j)) x more y = IfSo (is_going set m n (state_of x) j) (Then (Gathers set m n j) (Flush j ∷ []) x more y) (Becomes [] x more y)
  Does style (Word (turn.Anchor j)) x more y = Then (Anchored set m n j) [] x more y
  Does style (Word turn.Clerk) x more y = Becomes (map Clear (below m)) x more y
  Does style (Word turn.Drop) x more y = Becomes (map Remove (below SHARDS)) x more y
  Does style (Flush j) x more y = Then (Flushed set m n j) [] x more y
  Does style (Clear w) x more y = IfSo (has_covered w (state_of x)) (Then (Tells set m n w) (Clear w ∷ []) x more y) (Becomes [] x more y)
  Does style (Remove i) x more y = Then (Goes set m n (Drop i (state_of x).plv)) [] x more y
  Does style Rounds x more y = IfSo (any_turn x) (Becomes (map Word (round set m n) ++ Rounds ∷ []) x more y) (Becomes [] x more y)
  Does style LeftOver x more y =
      IfSo (not (is_raised set m n (state_of x)) && any_left set m n (state_of x))
      ((w : ℕ) × (w < m) × Then (Goes set m n (Resume w)) (Alone w ∷ LeftOver ∷ []) x more y)
      (Becomes [] x more y)
  Does style (Alone w) x more y = IfSo (has_turn x w) ((more ≡ Alone w ∷ []) × Acts Locking w x y) (Becomes [] x more y)
  Does style (Drain j) x more y = IfSo (is_going set m n (state_of x) j) (Then (Gathers set m n j) (Drained j ∷ []) x more y) (Becomes [] x more y)
  Does style (Drained j) x more y = IfSo (is_flushed j (state_of x)) (Becomes [] x more y) (Then (Flushed set m n j) (Drain j ∷ []) x more y)

  -- from these things to do in this state, in some steps, to those in that state
  pub data Steps (style : Style) : List Todo → RunState → List Todo → RunState → Type 0 where
    here : {todos : List Todo} {x : RunState} → Steps style todos x todos x
    on : {todo : Todo} {todos rest : List Todo} {x y z : RunState} (more : List Todo) → Does style todo x more y → Steps style (more ++ todos) y rest z → Steps style (todo ∷ todos) x rest z

  -- what was to do has become this, whatever is to do after it
  abbrev pub Leaves : Style → List Todo → List Todo → RunState → RunState → Type 0
  Leaves style todos left x y = (later rest : List Todo) (z : RunState) → Steps style (left ++ later) y rest z → Steps style (todos ++ later) x rest z

  -- a part of them, or all
  abbrev pub Began : Style → List Todo → RunState → RunState → Type 0
  Began style todos x y = (later : List Todo) → (rest : List Todo) × Steps style (todos ++ later) x rest y

  -- all that a run does: the turn words, rounds, the calls left over, each manager until it is idle, and the clerk once more
  abbrev pub todos_of : List Turn → List Todo
  todos_of turns = map Word turns ++ (Rounds ∷ LeftOver ∷ (map Drain (below n) ++ Word turn.Clerk ∷ []))

  -- a whole run in this style, and a first part of one
  abbrev pub IsWhole : Style → List Turn → Core → RunState → Type 0
  IsWhole style turns opening x = Steps style (todos_of turns) (still (begun opening)) [] x

  abbrev pub IsPart : Style → List Turn → Core → RunState → Type 0
  IsPart style turns opening x = (rest : List Todo) × Steps style (todos_of turns) (still (begun opening)) rest x
