-- What optimistic workers do on the desk.
use Rattle.std.specs.Prelude.{ℕ, ◌≡◌, ◌⊎◌, Some, List, []}
use Rattle.std.specs.Map.{lookup}
use Rattle.tau_base.specs.Database.{same_key}
use Rattle.tau_base.specs.Shards.{shard_number}
use Rattle.tau_base.specs.declared.value.Key.{Key}
use Rattle.tau_base.specs.declared.value.Mode.{Mode}
use Rattle.tau_base.specs.declared.value.Mode.TheVariants.{Read}
use Rattle.tau_base.specs.declared.value.Value.{Value}
use Rattle.tau_machine.specs.Events.{Conflicts}
use Rattle.tau_shard.specs.Shard.{Shard}
use Rattle.tau_txn.specs.Txn.{PlainTxn}
use Rattle.tau_core.specs.State.{Plain}
use Rattle.tau_core.specs.View.{setting_of}
use Rattle.tau_rule.specs.Knows.{Knows}
use Rattle.tau_rule.specs.Steps.{Agrees, Sat, shard_in, told}
use Rattle.tau_rule.specs.declared.part.Part.{Part}
use Rattle.tau_desk.specs.Acts.{HasLocked, HasMetBusy}
use Rattle.tau_desk.specs.Seats.{PlainWorkerSeat}
use Rattle.tau_desk.specs.Works.{GoesOn}
use Rattle.tau_desk.specs.declared.work.Acted.{Acted}
use Rattle.tau_desk.specs.declared.work.Acted.TheVariants.{Went, Busy as IsBusy, Other, NoMemory}

-- the shard of the key, as it was when the seat took it
pub record TakenShard (origin : Plain) (v : Knows) (key : Key) : Type 0 where
  pub part : Part
  pub shard : Shard
  pub is : shard_in part ≡ Some shard
  pub agrees : Agrees origin v (shard_number key) part

-- the key had this row then
pub record HasPeeked (origin : Plain) (v : Knows) (key : Key) (value : Value) : Type 0 where
  pub taken : TakenShard origin v key
  pub value_is : value ≡ taken.shard.rows key

-- the key had this row then, no other worker held it in a mode that conflicts, and to be read it is what was peeked
pub record IsAsPeeked (origin : Plain) (v : Knows) (w : ℕ) (seen : List (Key × Value)) (key : Key) (mode : Mode) (row : Value) : Type 0 where
  pub taken : TakenShard origin v key
  pub row_is : row ≡ taken.shard.rows key
  pub free : Conflicts (setting_of origin.load) taken.shard w key mode → ⊥
  pub read : mode ≡ Read → lookup (same_key key) seen ≡ Some row

-- why a worker is Busy: another one held the key then in a mode that conflicts, or the row that it was to read was not what it had peeked
pub record BusyCause (origin : Plain) (v : Knows) (w : ℕ) (seen : List (Key × Value)) (key : Key) (mode : Mode) : Type 0 where
  pub taken : TakenShard origin v key
  pub cause : Conflicts (setting_of origin.load) taken.shard w key mode ⊎ ((mode ≡ Read) × (lookup (same_key key) seen ≡ Some (taken.shard.rows key) → ⊥))

-- what comes of a lock of an optimistic worker, which has peeked these values
abbrev pub LockedSeen : Plain → ℕ → List (Key × Value) → Sat → PlainTxn → Sat → PlainTxn → Acted → Type 0
LockedSeen origin w seen m t m' t' Went = (m' ≡ (told origin.load m.0 t', [])) × (l : HasLocked origin.load.procs t t') × IsAsPeeked origin m.0 w seen l.key l.mode l.row
LockedSeen origin w seen m t m' t' IsBusy = (m' ≡ (told origin.load m.0 t', [])) × (b : HasMetBusy origin.load.procs t t') × BusyCause origin m.0 w seen b.key b.mode
LockedSeen origin w seen m t m' t' Other = (m' ≡ m) × (t' ≡ t)
LockedSeen origin w seen m t m' t' NoMemory = (m' ≡ m) × (t' ≡ t)

-- the same, on its seat
abbrev pub LocksSeenOn : Plain → List (Key × Value) → PlainWorkerSeat → PlainWorkerSeat → Acted → Type 0
LocksSeenOn origin seen s s' Went = (t : PlainTxn) × (l : HasLocked origin.load.procs s.work.txn t) × IsAsPeeked origin s.me.0 s.worker seen l.key l.mode l.row × GoesOn origin.load s s' t
LocksSeenOn origin seen s s' IsBusy = (t : PlainTxn) × (b : HasMetBusy origin.load.procs s.work.txn t) × BusyCause origin s.me.0 s.worker seen b.key b.mode × GoesOn origin.load s s' t
LocksSeenOn origin seen s s' Other = s' ≡ s
LocksSeenOn origin seen s s' NoMemory = s' ≡ s
