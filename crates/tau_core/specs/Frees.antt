-- Post, Free and Done, on the parts.
use Rattle.std.specs.Prelude.{ℕ, Bool, true, ◌≡◌, ◌≤◌, ◌⊎◌, Option, Some, None, List, [], ◌∷◌, ◌++◌, slice_get, slice_set}
use Rattle.std.specs.Map.{lookup}
use Rattle.std.specs.Ordering.{is_le}
use Rattle.tau_base.specs.declared.value.Key.{Key}
use Rattle.tau_base.specs.declared.value.Value.{Value}
use Rattle.tau_base.specs.declared.value.Mode.{Mode}
use Rattle.tau_base.specs.Database.{key_cmp, same_key}
use Rattle.tau_base.specs.Shards.{shard_number}
use Rattle.tau_proc.specs.declared.reply.Reply.{Reply}
use Rattle.tau_model.specs.History.{Act}
use Rattle.tau_model.specs.declared.committed.Committed.{Committed}
use Rattle.tau_machine.specs.Hands.{Txn, Hand, Placed, Freeing, mode_of, lv_of, committed_of}
use Rattle.tau_shard.specs.Shard.{shard_freed}
use Rattle.tau_machine.specs.Worker.{hand_joined, hand_freed}
use Rattle.tau_shard.specs.Plain.{PlainShard}
use Rattle.tau_shard.specs.Read.{shard_of}
use Rattle.tau_txn.specs.Txn.{hand_in, bytes_in, has_joined}
use Rattle.tau_txn.specs.Next as txn
use Rattle.tau_txn.specs.Next.{next_action}
use Rattle.tau_txn.specs.declared.action.Action.TheVariants as action
use Rattle.tau_core.specs.declared.state.Load.{Load}
use Rattle.tau_core.specs.declared.event.Phase.TheVariants as at_phase
use Rattle.tau_core.specs.declared.event.Outcome.{Outcome}
use Rattle.tau_core.specs.declared.event.Outcome.TheVariants.{Went, NotNow}
use Rattle.tau_core.specs.Plain.{PlainSeat}
use Rattle.tau_core.specs.State.{Plain}
use Rattle.tau_core.specs.Stands.{SoundSeat, open_calls}
use Rattle.tau_core.specs.Locks.{IsElsewhere}

-- the record that has its place is posted
pub record PostsRecord (w : ℕ) (p p' : Plain) : Type 0 where
  pub seat : PlainSeat
  pub hand : Hand
  pub act : Act Txn
  pub new : PlainSeat
  pub is : slice_get p.seats w ≡ Some seat
  pub hand_is : hand_in p.load.procs seat.txn ≡ Some hand
  pub phase : hand.phase ≡ Placed act
  pub posted : hand_in p.load.procs new.txn ≡ Some (record hand { phase = Freeing act })
  pub pieces : new.outbox.pieces ≡ seat.outbox.pieces ++ record { start = seat.start; bytes = bytes_in seat.txn } ∷ []
  pub others : new ≡ record seat { txn = new.txn; outbox = new.outbox }
  pub sound : SoundSeat p.load w new
  pub after : p' ≡ record p { seats = slice_set p.seats w new }

abbrev pub IsAtPost : Plain → ℕ → Type 0
IsAtPost p w = (s : PlainSeat) → slice_get p.seats w ≡ Some s → (next_action s.txn ≡ action.Post) × txn.Posts p.load.procs s.txn

abbrev pub PostBy : Plain → ℕ → Outcome → Plain → Type 0
PostBy p w Went p' = PostsRecord w p p'
PostBy p w (NotNow phase) p' = (p' ≡ p) × IsElsewhere p w at_phase.Placed phase
PostBy p w _ p' = ⊥

-- whether the call in hand has joined the committed ones
abbrev pub HasJoined : Plain → ℕ → Bool → Type 0
HasJoined p w joined = (s : PlainSeat) → slice_get p.seats w ≡ Some s → has_joined s.txn ≡ joined

-- the call is posted, or read-only and has joined; or it is read-only, has finished, and joins the committed ones by this
abbrev pub JoinsBy : Load → ℕ → Hand → Act Txn → List Committed → Type 0
JoinsBy l w hand act joined = ((hand.phase ≡ Freeing act) × (joined ≡ [])) ⊎ (txn.Reads l.procs w hand act × (joined ≡ committed_of act ∷ []))

-- its lowest key is freed
pub record FreesKey (w : ℕ) (p p' : Plain) : Type 0 where
  pub seat : PlainSeat
  pub shard : PlainShard
  pub hand : Hand
  pub act : Act Txn
  pub key : Key
  pub mode : Mode
  pub new : PlainSeat
  pub freed : PlainShard
  pub joined : List Committed
  pub room : ℕ
  pub is : slice_get p.seats w ≡ Some seat
  pub shard_is : slice_get p.shards (shard_number key) ≡ Some shard
  pub hand_is : hand_in p.load.procs seat.txn ≡ Some hand
  pub joins : JoinsBy p.load w hand act joined
  pub held : mode_of key hand.held ≡ Some mode
  pub lowest : (k : Key) (m : Mode) → mode_of k hand.held ≡ Some m → is_le (key_cmp key k) ≡ true
  pub frees : shard_of freed ≡ shard_freed (shard_of shard) w key (lv_of act) (lookup (same_key key) act.effect.writes)
  pub left : hand_in p.load.procs new.txn ≡ Some (hand_freed (hand_joined hand (Freeing act) hand.dep) key)
  pub others : new ≡ record seat { txn = new.txn }
  pub sound : SoundSeat p.load w new
  pub rooms : open_calls p.load (slice_set p.seats w new) ≤ room
  pub after : p' ≡ record p { seats = slice_set p.seats w new; shards = slice_set p.shards (shard_number key) freed; committed = p.committed ++ joined; room = room }

abbrev pub IsAtFree : Plain → ℕ → Key → Option Value → Type 0
IsAtFree p w key write = (s : PlainSeat) → slice_get p.seats w ≡ Some s → (next_action s.txn ≡ action.Free key write) × txn.Frees p.load.procs s.txn key write

abbrev pub FreeBy : Plain → ℕ → Outcome → Plain → Type 0
FreeBy p w Went p' = FreesKey w p p'
FreeBy p w (NotNow phase) p' = (p' ≡ p) × IsElsewhere p w at_phase.Freeing phase
FreeBy p w _ p' = ⊥

-- it has freed all its keys, and waits for its acknowledgement
pub record EndsCall (w : ℕ) (p p' : Plain) : Type 0 where
  pub seat : PlainSeat
  pub hand : Hand
  pub act : Act Txn
  pub new : PlainSeat
  pub joined : List Committed
  pub room : ℕ
  pub is : slice_get p.seats w ≡ Some seat
  pub hand_is : hand_in p.load.procs seat.txn ≡ Some hand
  pub joins : JoinsBy p.load w hand act joined
  pub held : hand.held ≡ []
  pub gone : hand_in p.load.procs new.txn ≡ None
  pub waits : new.pending.calls ≡ seat.pending.calls ++ record { number = act.call.call.number; lv = lv_of act } ∷ []
  pub others : new ≡ record seat { txn = new.txn; pending = new.pending }
  pub sound : SoundSeat p.load w new
  pub rooms : open_calls p.load (slice_set p.seats w new) ≤ room
  pub after : p' ≡ record p { seats = slice_set p.seats w new; committed = p.committed ++ joined; room = room }

abbrev pub IsAtDone : Plain → ℕ → Type 0
IsAtDone p w = (s : PlainSeat) → slice_get p.seats w ≡ Some s → (reply : Reply) × (lv : List ℕ) × (next_action s.txn ≡ action.Done reply lv) × txn.Finishes p.load.procs s.txn reply lv

abbrev pub DoneBy : Plain → ℕ → Outcome → Plain → Type 0
DoneBy p w Went p' = EndsCall w p p'
DoneBy p w (NotNow phase) p' = (p' ≡ p) × IsElsewhere p w at_phase.Ended phase
DoneBy p w _ p' = ⊥
