-- The turn of a worker in a style, with what the workers have peeked before it and after it.
use Rattle.std.specs.Prelude.{Result, Ok, Err, ℕ, ◌≡◌, ◌⊎◌, ◌+◌, ◌-◌, ◌*◌, Bool, true, Option, Some, None, List, [], ◌∷◌, ◌++◌, length, replicate, slice_get}
use Rattle.std.specs.Map.{lookup}
use Rattle.tau_base.specs.Database.{same_key}
use Rattle.tau_base.specs.Shards.{shard_number}
use Rattle.tau_base.specs.declared.value.Key.{Key}
use Rattle.tau_base.specs.declared.value.Mode.{Mode}
use Rattle.tau_base.specs.declared.value.Mode.TheVariants.{Read}
use Rattle.tau_base.specs.declared.value.NoMemory.{NoMemory}
use Rattle.tau_base.specs.declared.value.Value.{Value}
use Rattle.tau_proc.specs.Effect.{Effect}
use Rattle.tau_model.specs.History.{Act}
use Rattle.tau_machine.specs.Stage.{Wants, Ends, stage}
use Rattle.tau_machine.specs.Hands.{Txn, Hand}
use Rattle.tau_shard.specs.Shard.{at}
use Rattle.tau_machine.specs.Events as machine
use Rattle.tau_machine.specs.Events.{ready}
use Rattle.tau_core.specs.declared.state.Load.{Load}
use Rattle.tau_core.specs.State.{Plain}
use Rattle.tau_core.specs.View.{Hidden, setting_of, core_of, worker_at}
use Rattle.tau_core.specs.NextLock.{TellsLock}
use Rattle.tau_core.specs.Retries.{RetrySteps}
use Rattle.tau_core.specs.Stands.{Stands}
use Rattle.tau_core.specs.Steps.{LockSteps}
use Rattle.tau_core.specs.declared.event.Outcome.TheVariants as outcome
use Rattle.tau_occ.specs.declared.style.Style.{Style}
use Rattle.tau_occ.specs.declared.style.Style.TheVariants.{Locking, Optimistic}
use Rattle.tau_base.specs.declared.limits.TheConstants.{MAX_STEPS}
use Rattle.tau_machine.specs.Worker.{Worker, begun}
use Rattle.tau_text.specs.declared.load.Workload.{Workload}
use Rattle.tau_step.specs.Remains.{sum_below, worker_left}
use Rattle.tau_proc.specs.declared.proc.Proc.{Proc}
use Rattle.tau_run.specs.Fits.{Fits}
use Rattle.tau_run.specs.Turns.{Progress, IfSo}
use Rattle.tau_run.specs.Schedule.{TakesTurn, has_turn, peeked}
use Rattle.tau_occ.specs.Peeker.{PlainPeeker, IsPeeking, blank_peeker}
use Rattle.tau_step.specs.Progressed.{progress, stays, Comes}

abbrev pub Peeks : Type 0
Peeks = ℕ → List (Key × Value)

abbrev pub turned_in : Style → ℕ → Peeks → Peeks → Load → Progress → Progress → Type 0
turned_in style w f f' l P P' =
    IfSo (has_turn (setting_of l) l.workers l.streams (peeked P f) w) (TakesTurn (setting_of l) l.workers l.streams style w (peeked P f) (peeked P' f')) (peeked P' f' ≡ peeked P f)

module _ (w : ℕ) (p p' : Plain) (K : List (Act Txn)) (h : Hidden) (es : List machine.Event) (told : List (ℕ × List ℕ)) (f : Peeks) where
  -- the worker has something to do, also where it rests and has peeked of a call
  abbrev pub has_turn_in : Bool
  has_turn_in = has_turn (setting_of p.load) p.load.workers p.load.streams (peeked (progress p h es K told) f) w

  abbrev pub TurnedIn : Style → Peeks → Type 0
  TurnedIn style f' = Comes (turned_in style w f f') p p' told told K h es

  -- by the answer of a function that takes such a turn, after which the worker has this peeked
  abbrev pub SeenTurned : {A : Type 0} → List (Key × Value) → Result A NoMemory → Type 0
  SeenTurned seen (Ok a) = TurnedIn Optimistic (at w seen f)
  SeenTurned seen (Err e) = Comes stays p p' told told K h es × (seen ≡ f w)

  -- and by that of one that tells whether there was anything to do
  abbrev pub OptimistTurned : List (Key × Value) → Result Bool NoMemory → Type 0
  OptimistTurned seen (Ok did) = (did ≡ has_turn_in) × TurnedIn Optimistic (at w seen f)
  OptimistTurned seen (Err e) = Comes stays p p' told told K h es × (seen ≡ f w)

-- the call that the worker has in hand, or would begin
abbrev pub ready_at : Plain → ℕ → Option Hand
ready_at p w = (begun p.load.streams (worker_at p w)).hand

-- what was seen is seen of this call, if anything was
abbrev pub IsOfCall : List Proc → Option Hand → PlainPeeker → Type 0
IsOfCall procs o q = (q.seen ≡ []) ⊎ ((hand : Hand) × (o ≡ Some hand) × IsPeeking procs hand.call.call q)

-- what the worker has peeked fits its call
pub record PeekerFits (p : Plain) (w : ℕ) (q : PlainPeeker) : Type 0 where
  pub fits : Fits p.load.procs q.seen (ready_at p w)
  pub call : IsOfCall p.load.procs (ready_at p w) q

-- what the workers of these peekers have peeked
abbrev pub seen_in : Option PlainPeeker → List (Key × Value)
seen_in None = []
seen_in (Some q) = q.seen

abbrev pub peeks_of : List PlainPeeker → Peeks
peeks_of qs w = seen_in (slice_get qs w)

-- the core stands on this workload, and each optimistic worker has a peeker, which fits its call
pub record AllFit (load : Workload) (p : Plain) (qs : List PlainPeeker) : Type 0 where
  pub procs : load.declarations.procs ≡ p.load.procs
  pub calls : load.calls ≡ p.load.calls
  pub count : length qs ≡ p.load.workers
  pub each : (w : ℕ) (q : PlainPeeker) → slice_get qs w ≡ Some q → PeekerFits p w q

-- in the style Locking there is no peeker
abbrev pub AreFit : Style → Workload → Plain → List PlainPeeker → Type 0
AreFit Locking load p qs = qs ≡ []
AreFit Optimistic load p qs = AllFit load p qs

-- the peekers of a run that has not begun
abbrev pub blank_peekers : Style → ℕ → List PlainPeeker
blank_peekers Locking m = []
blank_peekers Optimistic m = replicate m blank_peeker

-- what a worker has still to do, at most: each of its events, and between two of them as many peeks as a call can make
abbrev pub turns_left : List Proc → Worker → List (Key × Value) → ℕ
turns_left procs wk seen = (MAX_STEPS + 1) * worker_left procs wk + (MAX_STEPS - length seen)

abbrev pub all_turns_left : Plain → Peeks → ℕ
all_turns_left p f = sum_below (λ w. turns_left p.load.procs (worker_at p w) (f w)) p.load.workers

-- the call of the worker, also where it rests and would begin it, is at no lock
abbrev pub IsAtNone : Plain → ℕ → Type 0
IsAtNone p w = (K : List (Act Txn)) (h : Hidden) → Stands p K h → TellsLock p h w None

-- the call of the worker, also where it rests and would begin it, is at this lock
abbrev pub IsAtLock : Plain → ℕ → ℕ → Key → Mode → Type 0
IsAtLock p w number key mode = (K : List (Act Txn)) (h : Hidden) → Stands p K h → TellsLock p h w (Some (number, key, mode))

-- its call runs on what was peeked
abbrev pub PeeksItsCall : Plain → ℕ → PlainPeeker → Type 0
PeeksItsCall p w q = (K : List (Act Txn)) (h : Hidden) → Stands p K h → (hand : Hand) → (ready (setting_of p.load) (core_of p h) w).hand ≡ Some hand → IsPeeking p.load.procs hand.call.call q

-- and has ended on it
abbrev pub HasEndedPeeking : Plain → ℕ → List (Key × Value) → Type 0
HasEndedPeeking p w seen = (K : List (Act Txn)) (h : Hidden) → Stands p K h → (hand : Hand) → (ready (setting_of p.load) (core_of p h) w).hand ≡ Some hand → (e : Effect) × (stage p.load.procs hand.call.call seen ≡ Ends e)

-- the row that it is to read is not what was peeked
abbrev pub RowDiffers : Plain → Key → Mode → List (Key × Value) → Type 0
RowDiffers p key mode seen = (mode ≡ Read) × ((K : List (Act Txn)) (h : Hidden) → Stands p K h → lookup (same_key key) seen ≡ Some (((core_of p h).shards (shard_number key)).rows key) → ⊥)

-- What the calls of a core come to for an optimistic worker whose call is at a lock: a peek, a lock of what was peeked, a
-- Busy for another's lock, and a Busy for a row that differs.
abbrev pub PeeksAreTurns : Type 0
PeeksAreTurns = (w : ℕ) (p : Plain) (K : List (Act Txn)) (h : Hidden) (es : List machine.Event) (told : List (ℕ × List ℕ)) (f : Peeks) → Stands p K h →
    has_turn_in w p p K h es told f ≡ true → (number : ℕ) (at_key : Key) (mode : Mode) → TellsLock p h w (Some (number, at_key, mode)) →
    (reads : List (Key × Value)) (key : Key) → ((hand : Hand) → (ready (setting_of p.load) (core_of p h) w).hand ≡ Some hand → stage p.load.procs hand.call.call (f w) ≡ Wants reads key) →
    (value : Value) → value ≡ ((core_of p h).shards (shard_number key)).rows key → TurnedIn w p p K h es told f Optimistic (at w (f w ++ (key, value) ∷ []) f)

abbrev pub LocksAreTurns : Type 0
LocksAreTurns = (w : ℕ) (p p' : Plain) (K : List (Act Txn)) (h : Hidden) (es : List machine.Event) (told : List (ℕ × List ℕ)) (f : Peeks) →
    has_turn_in w p p' K h es told f ≡ true → (number : ℕ) (key : Key) (mode : Mode) → TellsLock p h w (Some (number, key, mode)) →
    ((hand : Hand) → (ready (setting_of p.load) (core_of p h) w).hand ≡ Some hand → (effect : Effect) × (stage p.load.procs hand.call.call (f w) ≡ Ends effect)) →
    ((value : Value) → LockSteps p p' K h w (outcome.Granted value) → (mode ≡ Read → lookup (same_key key) (f w) ≡ Some (((core_of p h).shards (shard_number key)).rows key)) → TurnedIn w p p' K h es told f Optimistic f)
    × ((holder : ℕ) → LockSteps p p' K h w (outcome.Busy holder) → TurnedIn w p p' K h es told f Optimistic (at w [] f))
    × (RetrySteps p p' K h w outcome.Went → mode ≡ Read → (lookup (same_key key) (f w) ≡ Some (((core_of p h).shards (shard_number key)).rows key) → ⊥) → TurnedIn w p p' K h es told f Optimistic (at w [] f))
