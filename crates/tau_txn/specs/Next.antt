-- What a worker's call does next, by the core's words, and by what its machine wants.
use Rattle.std.specs.Prelude.{ℕ, ◌≡◌, ◌==◌, ◌⊎◌, ◌+◌, Bool, true, false, if◌then◌else◌, Option, Some, None, List, [], length}
use Rattle.std.specs.Map.{lookup}
use Rattle.std.specs.Ordering.{is_le}
use Rattle.tau_base.specs.declared.value.Key.{Key}
use Rattle.tau_base.specs.declared.value.Value.{Value}
use Rattle.tau_base.specs.declared.value.Mode.{Mode}
use Rattle.tau_base.specs.declared.value.Mode.TheVariants.{Read, Write}
use Rattle.tau_base.specs.declared.limits.TheConstants.{MAX_TRIES}
use Rattle.tau_base.specs.Database.{same_key, key_cmp}
use Rattle.tau_proc.specs.declared.proc.Proc.{Proc}
use Rattle.tau_proc.specs.declared.reply.Reply.{Reply}
use Rattle.tau_proc.specs.declared.reply.Want.{Want}
use Rattle.tau_proc.specs.declared.reply.Want.TheVariants as want
use Rattle.tau_proc.specs.Progress.{buffered, next_want}
use Rattle.tau_proc.specs.Effect.{Effect}
use Rattle.tau_model.specs.History.{Act, updating}
use Rattle.tau_machine.specs.Stage.{Stage, Ends, stage}
use Rattle.tau_machine.specs.Hands as theory
use Rattle.tau_machine.specs.Hands.{Hand, lv_of, unplaced_at, mode_of}
use Rattle.tau_machine.specs.Worker.{lock_of}
use Rattle.tau_txn.specs.declared.standing.Standing.{Standing}
use Rattle.tau_txn.specs.declared.standing.Standing.TheVariants.{Running, Quitting, Placed, Freeing, LeftOver}
use Rattle.tau_txn.specs.declared.action.Action.{Action}
use Rattle.tau_txn.specs.declared.action.Action.TheVariants as action
use Rattle.tau_txn.specs.declared.action.ActionKind.{ActionKind}
use Rattle.tau_txn.specs.declared.action.ActionKind.TheVariants as kind
use Rattle.tau_txn.specs.Hand.{PlainHand}
use Rattle.tau_txn.specs.Read.{effect_in}
use Rattle.tau_txn.specs.Actions.{quits, frees}
use Rattle.tau_txn.specs.Txn.{PlainTxn, hand_in, bytes_in, leaves_in, has_joined, anchor_in, stream_in}

-- by what the machine wants

-- what a call does next that has all its locks, and replies this
abbrev pub ends_with : Bool → Reply → PlainHand → Action
ends_with true reply h = frees reply h.dep [] h.held
ends_with false reply h = action.Commit (length h.bytes)

abbrev pub asks : Want → PlainHand → Action
asks (want.Read x) h = action.Lock x Read
asks (want.Write x) h = action.Lock x Write
asks (want.Finished reply) h = ends_with (length (buffered h.machine) == 0) reply h

abbrev pub frees_on : Want → PlainHand → Action
frees_on (want.Finished reply) h = frees reply h.lv (buffered h.machine) h.held
frees_on _ h = action.Nothing

abbrev pub next_by : Standing → PlainHand → Action
next_by Running h = if h.leaves then quits h.held else asks (next_want h.machine) h
next_by Quitting h = quits h.held
next_by Placed h = action.Post
next_by Freeing h = frees_on (next_want h.machine) h
next_by LeftOver h = action.LeftOver

abbrev pub next_of : Option PlainHand → Action
next_of None = action.Nothing
next_of (Some h) = next_by h.standing h

-- what the worker's call does next
abbrev pub next_action : PlainTxn → Action
next_action t = next_of t.hand

-- an action without what it carries
abbrev pub kind_of : Action → ActionKind
kind_of (action.Lock x m) = kind.Lock
kind_of (action.Quit x) = kind.Quit
kind_of (action.Commit size) = kind.Commit
kind_of action.Post = kind.Post
kind_of (action.Free x write) = kind.Free
kind_of (action.Done reply lv) = kind.Done
kind_of action.LeftOver = kind.LeftOver
kind_of action.Nothing = kind.Nothing

-- which actions have no answer of their own
abbrev pub IsForWent : Action → Type 0
IsForWent (action.Lock x m) = ⊥
IsForWent (action.Commit size) = ⊥
IsForWent action.Post = ⊥
IsForWent _ = Unit {0}

abbrev pub IsLock : Action → Type 0
IsLock (action.Lock x m) = Unit {0}
IsLock _ = ⊥

abbrev pub IsCommit : Action → Type 0
IsCommit (action.Commit size) = Unit {0}
IsCommit _ = ⊥

-- the number of a call, with the lock that it takes next
abbrev pub lock_by : Option ℕ → Action → Option (ℕ × Key × Mode)
lock_by (Some number) (action.Lock x m) = Some (number, x, m)
lock_by _ a = None

-- in the core's words

abbrev pub IsLowest : Key → List (Key × Mode) → Type 0
IsLowest x held = (k : Key) (m : Mode) → mode_of k held ≡ Some m → is_le (key_cmp x k) ≡ true

module _ (procs : List Proc) where
  abbrev pub stage_in : Hand → Stage
  stage_in h = stage procs h.call.call h.seen

  -- a read-only call that has finished, as the act that it becomes
  pub record Reads (w : ℕ) (hand : Hand) (act : Act theory.Txn) : Type 0 where
    pub effect : Effect
    pub phase : hand.phase ≡ theory.Running
    pub ended : stage_in hand ≡ Ends effect
    pub no_write : effect.writes ≡ []
    pub is : act ≡ record { call = record { call = hand.call; worker = w; place = unplaced_at hand.dep; anchor = 0 }; effect = effect }

  -- the act of a call that frees its keys: it has joined the committed ones, or is a read-only call that does so now
  abbrev pub FreesBy : Bool → ℕ → Hand → Act theory.Txn → Type 0
  FreesBy true w hand act = hand.phase ≡ theory.Freeing act
  FreesBy false w hand act = Reads w hand act

  pub record Locks (t : PlainTxn) (x : Key) (m : Mode) : Type 0 where
    pub hand : Hand
    pub is : hand_in procs t ≡ Some hand
    pub phase : hand.phase ≡ theory.Running
    pub next : lock_of (stage_in hand) hand.held ≡ Some (x, m)

  pub record Quits (t : PlainTxn) (x : Key) : Type 0 where
    pub hand : Hand
    pub mode : Mode
    pub is : hand_in procs t ≡ Some hand
    pub phase : (hand.phase ≡ theory.Quitting) ⊎ ((hand.phase ≡ theory.Running) × (leaves_in t ≡ true))
    pub held : mode_of x hand.held ≡ Some mode
    pub lowest : IsLowest x hand.held

  pub record Commits (t : PlainTxn) (size : ℕ) : Type 0 where
    pub hand : Hand
    pub effect : Effect
    pub is : hand_in procs t ≡ Some hand
    pub phase : hand.phase ≡ theory.Running
    pub ended : stage_in hand ≡ Ends effect
    pub locked : lock_of (stage_in hand) hand.held ≡ None
    pub updates : updating effect.writes ≡ true
    pub size_is : size ≡ length (bytes_in t)

  pub record Posts (t : PlainTxn) : Type 0 where
    pub hand : Hand
    pub act : Act theory.Txn
    pub is : hand_in procs t ≡ Some hand
    pub phase : hand.phase ≡ theory.Placed act

  pub record Frees (t : PlainTxn) (x : Key) (write : Option Value) : Type 0 where
    pub hand : Hand
    pub act : Act theory.Txn
    pub mode : Mode
    pub is : hand_in procs t ≡ Some hand
    pub act_is : FreesBy (has_joined t) t.worker hand act
    pub held : mode_of x hand.held ≡ Some mode
    pub lowest : IsLowest x hand.held
    pub write_is : write ≡ lookup (same_key x) act.effect.writes

  pub record Finishes (t : PlainTxn) (reply : Reply) (lv : List ℕ) : Type 0 where
    pub hand : Hand
    pub act : Act theory.Txn
    pub is : hand_in procs t ≡ Some hand
    pub act_is : FreesBy (has_joined t) t.worker hand act
    pub held : hand.held ≡ []
    pub reply_is : reply ≡ act.effect.reply
    pub lv_is : lv ≡ lv_of act

  -- the call met Busy for the last time, and holds no key
  pub record IsLeftOver (t : PlainTxn) : Type 0 where
    pub hand : PlainHand
    pub is : t.hand ≡ Some hand
    pub tries : hand.tries ≡ MAX_TRIES
    pub held : hand.held ≡ []
    pub gone : hand_in procs t ≡ None

  -- what the action says of the core's worker
  abbrev pub Means : PlainTxn → Action → Type 0
  Means t (action.Lock x m) = Locks t x m
  Means t (action.Quit x) = Quits t x
  Means t (action.Commit size) = Commits t size
  Means t action.Post = Posts t
  Means t (action.Free x write) = Frees t x write
  Means t (action.Done reply lv) = Finishes t reply lv
  Means t action.LeftOver = IsLeftOver t
  Means t action.Nothing = t.hand ≡ None

  -- the act that an updating call becomes by a place that starts here
  abbrev pub act_at : PlainTxn → ℕ → Hand → Act theory.Txn
  act_at t start h = record {
    call = record { call = h.call; worker = t.worker; place = record { stream = stream_in t; start = start; past = start + length (bytes_in t); dep = h.dep }; anchor = anchor_in t };
    effect = effect_in (stage_in h);
  }
