-- What a worker's actions come to.
use Rattle.std.specs.Prelude.{ℕ, ◌+◌, ◌<◌, ◌≡◌, false, length, List, [], Option, Some, None}
use Rattle.tau_base.specs.Vectors.{join}
use Rattle.tau_base.specs.declared.limits.TheConstants.{MAX_LSN}
use Rattle.tau_base.specs.declared.value.Key.{Key}
use Rattle.tau_base.specs.declared.value.Mode.{Mode}
use Rattle.tau_base.specs.declared.value.Value.{Value}
use Rattle.tau_base.specs.Shards.{shard_number}
use Rattle.tau_proc.specs.declared.proc.Proc.{Proc}
use Rattle.tau_proc.specs.declared.reply.Reply.{Reply}
use Rattle.tau_model.specs.declared.committed.Committed.{Committed}
use Rattle.tau_model.specs.History.{Act}
use Rattle.tau_machine.specs.Hands.{Freeing, Hand, Placed, Txn, committed_of}
use Rattle.tau_machine.specs.Events.{Conflicts}
use Rattle.tau_shard.specs.Shard.{Shard}
use Rattle.tau_machine.specs.Worker.{Worker, hand_busy, hand_freed, hand_joined, hand_quit, settled}
use Rattle.tau_base.specs.Modes.{format_of}
use Rattle.tau_record.specs.Record.{base_of, Spells}
use Rattle.tau_txn.specs.Record.{entry_of}
use Rattle.tau_txn.specs.Txn.{PlainTxn, RunsBy, bytes_in, hand_in, leaves_in, stream_in, worker_of}
use Rattle.tau_txn.specs.Next as txn
use Rattle.tau_txn.specs.declared.action.Action.TheVariants as action
use Rattle.tau_txn.specs.Steps.{locked_with}
use Rattle.tau_core.specs.State.{Plain}
use Rattle.tau_core.specs.View.{setting_of}
use Rattle.tau_rule.specs.Knows.{Knows}
use Rattle.tau_rule.specs.Steps.{Agrees, Sat, shard_in, told}
use Rattle.tau_rule.specs.declared.part.Part.{Part}
use Rattle.tau_desk.specs.declared.work.Acted.{Acted}
use Rattle.tau_desk.specs.declared.work.Acted.TheVariants.{Went, Busy as IsBusy, Other, NoMemory}

module _ (procs : List Proc) (t t' : PlainTxn) where
  -- another call stands there only in what the hand has
  pub record SameWorker : Type 0 where
    pub runs : RunsBy procs t'
    pub same : t' ≡ record t { hand = t'.hand }
    -- it is not given up by that
    pub stays : leaves_in t ≡ false → leaves_in t' ≡ false

  -- the call in hand has got the key that it wanted, with this row and this vector
  pub record HasLocked : Type 0 where
    pub key : Key
    pub mode : Mode
    pub row : Value
    pub dep : List ℕ
    pub wanted : txn.Locks procs t key mode
    pub is : hand_in procs t' ≡ Some (locked_with wanted.hand key mode row dep)
    pub worker : SameWorker

  -- it has met Busy at that key
  pub record HasMetBusy : Type 0 where
    pub key : Key
    pub mode : Mode
    pub wanted : txn.Locks procs t key mode
    pub settles : (wk : Worker) → worker_of procs wk t' ≡ settled t.width wk (hand_busy wanted.hand)
    pub worker : SameWorker

  -- it has given its lowest key back
  pub record HasQuit : Type 0 where
    pub key : Key
    pub quits : txn.Quits procs t key
    pub settles : (wk : Worker) → worker_of procs wk t' ≡ settled t.width wk (hand_quit quits.hand key (leaves_in t))
    pub worker : SameWorker

  -- it has freed its lowest key
  pub record HasFreed : Type 0 where
    pub key : Key
    pub write : Option Value
    pub frees : txn.Frees procs t key write
    pub is : hand_in procs t' ≡ Some (hand_freed (hand_joined frees.hand (Freeing frees.act) frees.hand.dep) key)
    pub worker : SameWorker

module _ (procs : List Proc) (t t' : PlainTxn) where
  -- its record is posted
  pub record HasPosted : Type 0 where
    pub posts : txn.Posts procs t
    pub is : hand_in procs t' ≡ Some (record posts.hand { phase = Freeing posts.act })
    pub worker : SameWorker procs t t'

  -- it only read, has joined the committed ones, of which this is kept, and has freed its lowest key
  pub record HasFirstFreed (kept : Committed) : Type 0 where
    pub key : Key
    pub write : Option Value
    pub frees : txn.Frees procs t key write
    pub kept_is : kept ≡ committed_of frees.act
    pub is : hand_in procs t' ≡ Some (hand_freed (hand_joined frees.hand (Freeing frees.act) frees.hand.dep) key)
    pub worker : SameWorker procs t t'

  -- it has joined the committed ones and freed its keys, and is no longer in hand
  pub record HasEnded : Type 0 where
    pub reply : Reply
    pub lv : List ℕ
    pub next : txn.next_action t ≡ action.Done reply lv
    pub ends : txn.Finishes procs t reply lv
    pub gone : t'.hand ≡ None
    pub worker : SameWorker procs t t'

module _ (procs : List Proc) (t t' : PlainTxn) where
  -- it only read, holds no key, has joined the committed ones, of which this is kept, and is no longer in hand
  pub record HasEndedReading (kept : Committed) : Type 0 where
    pub reply : Reply
    pub lv : List ℕ
    pub next : txn.next_action t ≡ action.Done reply lv
    pub ends : txn.Finishes procs t reply lv
    pub kept_is : kept ≡ committed_of ends.act
    pub gone : t'.hand ≡ None
    pub worker : SameWorker procs t t'

  -- its record, which was made, has its place there, and of the call this is kept
  pub record IsPlaced (start : ℕ) (kept : Committed) : Type 0 where
    pub is : (hand : Hand) → hand_in procs t ≡ Some hand → (hand_in procs t' ≡ Some (hand_joined hand (Placed (txn.act_at procs t start hand)) hand.dep)) × (kept ≡ committed_of (txn.act_at procs t start hand))
    pub bytes : bytes_in t' ≡ bytes_in t
    pub worker : SameWorker procs t t'

  -- it has all its keys, its record is made above the anchor with this number and this vector, and has its place there; by that it has joined the committed ones, of which this is kept, and posts next
  pub record HasCommitted (number : ℕ) (anchor : List ℕ) (start : ℕ) (kept : Committed) : Type 0 where
    pub size : ℕ
    pub commits : txn.Commits procs t size
    pub act : Act Txn
    pub act_is : act ≡ record {
      call = record { call = commits.hand.call; worker = t.worker; place = record { stream = stream_in t; start = start; past = start + length (bytes_in t'); dep = join commits.hand.dep anchor }; anchor = number };
      effect = commits.effect;
    }
    pub is : hand_in procs t' ≡ Some (hand_joined commits.hand (Placed act) (join commits.hand.dep anchor))
    pub next : txn.next_action t' ≡ action.Post
    pub small : start + length (bytes_in t') < MAX_LSN
    pub spelled : (vectors : List (List ℕ)) → base_of vectors number ≡ anchor → Spells (format_of t.mode) t.width vectors false (entry_of t.mode act) (bytes_in t')
    pub kept_is : kept ≡ committed_of act
    pub worker : SameWorker procs t t'

-- another worker holds the key that the call wants, in a mode that conflicts: in the shard of that key as it was taken, by a
-- seat that knew this
pub record MeetsHolder (origin : Plain) (v : Knows) (t : PlainTxn) : Type 0 where
  pub key : Key
  pub mode : Mode
  pub wanted : txn.Locks origin.load.procs t key mode
  pub taken : Part
  pub shard : Shard
  pub was : shard_in taken ≡ Some shard
  pub agrees : Agrees origin v (shard_number key) taken
  pub held : Conflicts (setting_of origin.load) shard t.worker key mode

-- after a lock, or a Busy, the seat knows what the call in hand shows; else nothing changed
abbrev pub LockedBy : Plain → Sat → PlainTxn → Sat → PlainTxn → Acted → Type 0
LockedBy origin m t m' t' Went = (m' ≡ (told origin.load m.0 t', [])) × HasLocked origin.load.procs t t'
LockedBy origin m t m' t' IsBusy = (m' ≡ (told origin.load m.0 t', [])) × HasMetBusy origin.load.procs t t' × MeetsHolder origin m.0 t
LockedBy origin m t m' t' Other = (m' ≡ m) × (t' ≡ t)
LockedBy origin m t m' t' NoMemory = (m' ≡ m) × (t' ≡ t)

-- the same after a key was given back, and after one was freed
abbrev pub QuitBy : Plain → Sat → PlainTxn → Sat → PlainTxn → Acted → Type 0
QuitBy origin m t m' t' Went = (m' ≡ (told origin.load m.0 t', [])) × HasQuit origin.load.procs t t'
QuitBy origin m t m' t' IsBusy = ⊥
QuitBy origin m t m' t' Other = (m' ≡ m) × (t' ≡ t)
QuitBy origin m t m' t' NoMemory = ⊥

abbrev pub FreedBy : Plain → Sat → PlainTxn → Sat → PlainTxn → Acted → Type 0
FreedBy origin m t m' t' Went = (m' ≡ (told origin.load m.0 t', [])) × HasFreed origin.load.procs t t'
FreedBy origin m t m' t' IsBusy = ⊥
FreedBy origin m t m' t' Other = (m' ≡ m) × (t' ≡ t)
FreedBy origin m t m' t' NoMemory = ⊥
