-- What the core keeps: there is a commit order with which its state has the invariant of the machine, and its bytes are those of the records.
use Rattle.std.specs.Prelude.{ℕ, ◌+◌, ◌≤◌, ◌≡◌, Bool, true, false, if◌then◌else◌, is_some, IsTrue, Option, Some, None, List, [], ◌∷◌, ◌++◌, length, map, slice_get}
use Rattle.tau_base.specs.declared.limits.TheConstants.{MAX_BODY, MAX_CALLS, MAX_WORKERS, SHARDS}
use Rattle.tau_base.specs.Modes.{format_of, most_streams}
use Rattle.tau_base.specs.declared.value.Call.{Call}
use Rattle.tau_proc.specs.Takes.{takes}
use Rattle.tau_model.specs.History.{Act, Member, Reordered}
use Rattle.tau_machine.specs.Hands.{Txn, Hand, committed_of, act_in}
use Rattle.tau_machine.specs.Invariant.{Invariant}
use Rattle.tau_machine.specs.Pieces.{placed_in}
use Rattle.tau_machine.specs.Shapes.{ShardShape}
use Rattle.tau_machine.specs.State.{Record}
use Rattle.tau_txn.specs.Txn.{PlainTxn, hand_in, RunsBy, bytes_in, leaves_in}
use Rattle.tau_shard.specs.Plain.{PlainShard}
use Rattle.tau_shard.specs.Read.{shard_of}
use Rattle.tau_core.specs.declared.state.Load.{Load}
use Rattle.tau_core.specs.Plain.{PlainSeat, PlainStream}
use Rattle.tau_core.specs.State.{Plain}
use Rattle.tau_core.specs.View.{setting_of, call_of, worker_of, Hidden, anchors_in, core_of}
use Rattle.tau_core.specs.Pieces.{IsPieceOf, Paired, Spelled}

-- a call is in hand and has not committed
abbrev pub is_open : Option Hand → Bool
is_open None = false
is_open (Some h) = if is_some (act_in (Some h)) then false else true

-- how many calls in hand have not committed
abbrev pub open_calls : Load → List PlainSeat → ℕ
open_calls l [] = 0
open_calls l (s ∷ ss) = (if is_open (hand_in l.procs s.txn) then 1 else 0) + open_calls l ss

-- a call has this number
abbrev pub IsNumber : Load → ℕ → Type 0
IsNumber l n = (c : Call) × (call_of l.calls n ≡ Some c)

abbrev pub AreNumbers : Load → List ℕ → Type 0
AreNumbers l [] = Unit {0}
AreNumbers l (n ∷ ns) = IsNumber l n × AreNumbers l ns

-- a worker's transaction: it is the worker's own, and its call in hand is one of the run
pub record SoundTxn (l : Load) (w : ℕ) (t : PlainTxn) : Type 0 where
  pub worker : t.worker ≡ w
  pub width : t.width ≡ l.streams
  pub mode : t.mode ≡ l.mode
  pub runs : RunsBy l.procs t
  -- a call that is left over does not stay
  pub stays : is_some t.hand ≡ is_some (hand_in l.procs t)
  -- and no call is given up
  pub leaving : leaves_in t ≡ false
  pub call : (h : Hand) → hand_in l.procs t ≡ Some h → call_of l.calls h.call.number ≡ Some h.call.call
  pub whose : (h : Hand) → hand_in l.procs t ≡ Some h → worker_of l.workers h.call.number ≡ w

-- what a worker's part has in store: the room that its call in hand will need, and numbers of calls
pub record SoundStore (l : Load) (s : PlainSeat) : Type 0 where
  pub ends : is_some s.txn.hand ≡ true → 1 ≤ s.pending.room
  pub leaves : is_some s.txn.hand ≡ true → 1 ≤ s.room
  pub posts : (t : Act Txn) → placed_in (hand_in l.procs s.txn) ≡ Some t → 1 ≤ s.outbox.room
  pub low : 1 ≤ s.next
  pub high : s.next ≤ length l.calls + l.workers
  pub again : (n : ℕ) → s.again ≡ Some n → IsNumber l n
  pub left : AreNumbers l s.left

-- a worker's part
pub record SoundSeat (l : Load) (w : ℕ) (s : PlainSeat) : Type 0 where
  pub txn : SoundTxn l w s.txn
  pub store : SoundStore l s

-- the anchors of a stream have a position for each stream, and its body keeps within its limit
abbrev pub SoundStream : Load → PlainStream → Type 0
SoundStream l s = ((a : List ℕ) → Member a s.anchors → length a ≡ l.streams) × (length s.body ≤ MAX_BODY)

-- the parts by themselves
pub record Sound (p : Plain) : Type 0 where
  pub workers_low : 1 ≤ p.load.workers
  pub workers_high : p.load.workers ≤ MAX_WORKERS
  pub streams_low : 1 ≤ p.load.streams
  pub streams_high : p.load.streams ≤ most_streams (format_of p.load.mode)
  pub few : length p.load.calls ≤ MAX_CALLS
  pub takes : (n : ℕ) (c : Call) → call_of p.load.calls n ≡ Some c → IsTrue (takes p.load.procs c)
  pub opened : length p.load.opening.anchors.items ≡ p.load.streams
  pub shards : length p.shards ≡ SHARDS
  pub seats : length p.seats ≡ p.load.workers
  pub streams : length p.streams ≡ p.load.streams
  pub ends : length p.ends ≡ p.load.streams
  pub gathered : length p.gathered ≡ p.load.streams
  pub plv : length p.plv ≡ p.load.streams
  pub seat : (w : ℕ) (s : PlainSeat) → slice_get p.seats w ≡ Some s → SoundSeat p.load w s
  pub wide : (j : ℕ) (s : PlainStream) → slice_get p.streams j ≡ Some s → SoundStream p.load s
  pub narrow : (i : ℕ) (s : PlainShard) → slice_get p.shards i ≡ Some s → ShardShape (setting_of p.load) (shard_of s)
  pub room : open_calls p.load p.seats ≤ p.room

abbrev pub anchors_at : Plain → ℕ → List (List ℕ)
anchors_at p j = anchors_in (slice_get p.streams j)

-- the core with its commit order K
pub record Stands (p : Plain) (K : List (Act Txn)) (h : Hidden) : Type 0 where
  pub sound : Sound p
  pub inv : Invariant (setting_of p.load) K (core_of p h)
  -- the calls that are kept are those of the commit order, in some order, with each worker's own by `inv`
  pub order : Reordered (map committed_of K) p.committed
  -- what is posted, by workers and by managers
  pub posted : (w : ℕ) (s : PlainSeat) → slice_get p.seats w ≡ Some s → Paired (IsPieceOf p.load (anchors_at p)) s.outbox.pieces (h.posted w)
  pub own : (j : ℕ) (s : PlainStream) → slice_get p.streams j ≡ Some s → Paired (IsPieceOf p.load (anchors_at p)) s.own.pieces (h.own j)
  -- a record that has its place and is not posted
  pub placed : (w : ℕ) (s : PlainSeat) (t : Act Txn) → slice_get p.seats w ≡ Some s → placed_in (hand_in p.load.procs s.txn) ≡ Some t →
      IsPieceOf p.load (anchors_at p) (record { start = s.start; bytes = bytes_in s.txn }) (Record t)
  -- what was gathered: the bytes that were given away, and those that are still here
  pub gathered : (j : ℕ) (s : PlainStream) → slice_get p.streams j ≡ Some s → Spelled p.load (anchors_at p) (h.moved j) (h.taken j ++ s.body)

-- there is a commit order
abbrev pub Stood : Plain → Type 0
Stood p = (K : List (Act Txn)) × (h : Hidden) × Stands p K h
