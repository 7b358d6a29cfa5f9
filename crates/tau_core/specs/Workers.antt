-- What workers do, on the parts.
use Rattle.std.specs.Ordering.{is_le}
use Rattle.std.specs.Prelude.{ℕ, ◌≡◌, true, false, Some, List, slice_get, slice_set}
use Rattle.tau_base.specs.declared.value.Key.{Key}
use Rattle.tau_base.specs.declared.value.Value.{Value}
use Rattle.tau_base.specs.declared.value.Mode.{Mode}
use Rattle.tau_base.specs.Database.{key_cmp}
use Rattle.tau_base.specs.Shards.{shard_number}
use Rattle.tau_model.specs.declared.committed.Committed.{Committed}
use Rattle.tau_machine.specs.Hands.{Hand, Running, Quitting, mode_of}
use Rattle.tau_shard.specs.Shard.{entry_in, shard_locked, shard_quit}
use Rattle.tau_machine.specs.Stage.{stage}
use Rattle.tau_machine.specs.Worker.{lock_of, hand_locked, settled, hand_busy, hand_quit}
use Rattle.tau_shard.specs.Plain.{PlainShard}
use Rattle.tau_shard.specs.Read.{shard_of}
use Rattle.tau_shard.specs.Blocks.{blocks, IsLowest}
use Rattle.tau_txn.specs.Txn.{hand_in}
use Rattle.tau_core.specs.Plain.{PlainSeat}
use Rattle.tau_core.specs.State.{Plain}
use Rattle.tau_core.specs.View.{seat_worker}
use Rattle.tau_core.specs.Stands.{SoundSeat}

-- the call in hand is at its lock of this key
pub record Wants (p : Plain) (seat : PlainSeat) (hand : Hand) (key : Key) (mode : Mode) : Type 0 where
  pub is : hand_in p.load.procs seat.txn ≡ Some hand
  pub phase : hand.phase ≡ Running
  pub next : lock_of (stage p.load.procs hand.call.call hand.seen) hand.held ≡ Some (key, mode)

-- it takes the lock
pub record Takes (w : ℕ) (value : Value) (p p' : Plain) : Type 0 where
  pub seat : PlainSeat
  pub shard : PlainShard
  pub hand : Hand
  pub key : Key
  pub mode : Mode
  pub new : PlainSeat
  pub locked : PlainShard
  pub is : slice_get p.seats w ≡ Some seat
  pub shard_is : slice_get p.shards (shard_number key) ≡ Some shard
  pub wants : Wants p seat hand key mode
  pub free : (u : ℕ) → blocks (entry_in (shard_of shard) key) w mode u ≡ false
  pub value_is : value ≡ (shard_of shard).rows key
  pub locks : shard_of locked ≡ shard_locked (shard_of shard) w key mode
  pub granted : hand_in p.load.procs new.txn ≡ Some (hand_locked hand key mode ((shard_of shard).rows key) (entry_in (shard_of shard) key).write_lv (entry_in (shard_of shard) key).read_lv)
  pub others : new ≡ record seat { txn = new.txn }
  pub sound : SoundSeat p.load w new
  pub after : p' ≡ record p { seats = slice_set p.seats w new; shards = slice_set p.shards (shard_number key) locked }

-- the parts of a worker that a step of its call leaves
pub record Keeps (seat new : PlainSeat) : Type 0 where
  pub next : new.next ≡ seat.next
  pub again : new.again ≡ seat.again
  pub outbox : new.outbox ≡ seat.outbox
  pub pending : new.pending ≡ seat.pending

-- it is refused: others hold the key, `holder` is the lowest of them
pub record IsRefused (w holder : ℕ) (p p' : Plain) : Type 0 where
  pub seat : PlainSeat
  pub shard : PlainShard
  pub hand : Hand
  pub key : Key
  pub mode : Mode
  pub new : PlainSeat
  pub kept : PlainShard
  pub is : slice_get p.seats w ≡ Some seat
  pub shard_is : slice_get p.shards (shard_number key) ≡ Some shard
  pub kept_is : shard_of kept ≡ shard_of shard
  pub wants : Wants p seat hand key mode
  pub lowest : IsLowest (entry_in (shard_of shard) key) w mode holder
  pub settles : (c : List Committed) → seat_worker p.load new c ≡ settled p.load.streams (seat_worker p.load seat c) (hand_busy hand)
  pub keeps : Keeps seat new
  pub sound : SoundSeat p.load w new
  pub after : p' ≡ record p { seats = slice_set p.seats w new; shards = slice_set p.shards (shard_number key) kept }

-- memory ran out
pub record StaysShort (p p' : Plain) : Type 0 where
  pub i : ℕ
  pub shard : PlainShard
  pub kept : PlainShard
  pub is : slice_get p.shards i ≡ Some shard
  pub kept_is : shard_of kept ≡ shard_of shard
  pub after : p' ≡ record p { shards = slice_set p.shards i kept }

-- it gives its lowest key back
pub record GivesBack (w : ℕ) (p p' : Plain) : Type 0 where
  pub seat : PlainSeat
  pub shard : PlainShard
  pub hand : Hand
  pub key : Key
  pub mode : Mode
  pub new : PlainSeat
  pub quit : PlainShard
  pub is : slice_get p.seats w ≡ Some seat
  pub shard_is : slice_get p.shards (shard_number key) ≡ Some shard
  pub hand_is : hand_in p.load.procs seat.txn ≡ Some hand
  pub phase : hand.phase ≡ Quitting
  pub held : mode_of key hand.held ≡ Some mode
  pub lowest : (k : Key) (m : Mode) → mode_of k hand.held ≡ Some m → is_le (key_cmp key k) ≡ true
  pub quits : shard_of quit ≡ shard_quit (shard_of shard) w key
  pub settles : (c : List Committed) → seat_worker p.load new c ≡ settled p.load.streams (seat_worker p.load seat c) (hand_quit hand key false)
  pub keeps : Keeps seat new
  pub sound : SoundSeat p.load w new
  pub after : p' ≡ record p { seats = slice_set p.seats w new; shards = slice_set p.shards (shard_number key) quit }
