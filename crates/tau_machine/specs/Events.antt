-- The events of the core, each as a relation between two states; and which calls join the committed ones by it.
use Rattle.std.specs.Prelude.{ℕ, ◌<◌, ◌≤◌, ◌≡◌, ◌⊎◌, Bool, true, ◌||◌, Option, Some, None, List, [], ◌∷◌, ◌++◌, slice_index, slice_set, ◌+◌, ◌-◌, ◌^◌, length, slice_get}
use Rattle.std.specs.Map.{lookup}
use Rattle.tau_base.specs.declared.value.Key.{Key}
use Rattle.tau_base.specs.declared.value.Mode.{Mode}
use Rattle.tau_base.specs.declared.value.Mode.TheVariants.{Write}
use Rattle.tau_base.specs.declared.limits.TheConstants.{MAX_ANCHORS}
use Rattle.tau_model.specs.History.{Numbered, Act, Member, updating}
use Rattle.std.specs.Ordering.{is_le}
use Rattle.tau_base.specs.Database.{key_cmp, same_key}
use Rattle.tau_proc.specs.Effect.{Effect}
use Rattle.tau_base.specs.Vectors.{AtMost, join}
use Rattle.tau_machine.specs.Stage.{Ends, stage}
use Rattle.tau_machine.specs.Hands.{Txn, lv_of, unplaced_at, committed_of, Running, Quitting, Placed, Freeing, act_of, Hand, mode_of}
use Rattle.tau_shard.specs.Shard.{at, Shard, entry_in, shard_locked, shard_quit, shard_freed, Dropped}
use Rattle.tau_machine.specs.Worker.{Worker, begun, lock_of, hand_locked, settled, hand_busy, hand_quit, hand_joined, hand_freed}
use Rattle.tau_machine.specs.State.{Setting, Ticket, Item, Record, Anchor, Outbox, Stream, Core, ticket, start_of, past_of}

abbrev pub with_worker : Core → ℕ → Worker → Core
with_worker s w wk = record s { workers = at w wk s.workers }

abbrev pub with_shard : Core → ℕ → Shard → Core
with_shard s i sh = record s { shards = at i sh s.shards }

abbrev pub with_outbox : Core → ℕ → Outbox → Core
with_outbox s w o = record s { outboxes = at w o s.outboxes }

abbrev pub with_stream : Core → ℕ → Stream → Core
with_stream s j o = record s { streams = at j o s.streams }

pub data Event : Type 0 where
  Lock : ℕ → Event
  Busy : ℕ → Event
  Quit : ℕ → Bool → Event
  Commit : ℕ → Event
  Post : ℕ → Event
  Free : ℕ → Event
  FirstFree : ℕ → Event
  Done : ℕ → Event
  DoneReading : ℕ → Event
  Drop : ℕ → List ℕ → Event
  Gather : ℕ → Event
  PlaceAnchor : ℕ → List ℕ → Event
  Persist : ℕ → ℕ → Event
  Ack : ℕ → List ℕ → Event
  Stop : ℕ → ℕ → Event
  Resume : ℕ → Event

module _ (set : Setting) where
  -- the worker, where it rests, with its next call begun
  abbrev pub ready : Core → ℕ → Worker
  ready s w = begun set.width (s.workers w)

  abbrev pub lock_next : Hand → Option (Key × Mode)
  lock_next h = lock_of (stage set.procs h.call.call h.seen) h.held

  -- another worker holds the key in a mode that conflicts
  abbrev pub Conflicts : Shard → ℕ → Key → Mode → Type 0
  Conflicts sh w x m = (u : ℕ) × (n : Mode) × (u ≡ w → ⊥) × ((entry_in sh x).holders u ≡ Some n) × ((m ≡ Write) ⊎ (n ≡ Write))

  -- the key is locked in the mode that the worker wants
  pub record Locks (w : ℕ) (s s' : Core) : Type 0 where
    pub hand : Hand
    pub key : Key
    pub mode : Mode
    pub is : (ready s w).hand ≡ Some hand
    pub phase : hand.phase ≡ Running
    pub next : lock_next hand ≡ Some (key, mode)
    pub free : Conflicts (s.shards (set.shard_of key)) w key mode → ⊥
    pub after : let sh = s.shards (set.shard_of key) in
        s' ≡ with_shard (with_worker s w (record (ready s w) { hand = Some (hand_locked hand key mode (sh.rows key) (entry_in sh key).write_lv (entry_in sh key).read_lv) }))
        (set.shard_of key) (shard_locked sh w key mode)

  -- a lock that is refused or not taken: the call has met Busy once more and is to quit
  pub record Refuses (w : ℕ) (s s' : Core) : Type 0 where
    pub hand : Hand
    pub key : Key
    pub mode : Mode
    pub is : (ready s w).hand ≡ Some hand
    pub phase : hand.phase ≡ Running
    pub next : lock_next hand ≡ Some (key, mode)
    pub after : s' ≡ with_worker s w (settled set.width (ready s w) (hand_busy hand))

  -- a call that is to quit gives a key back
  pub record Quits (w : ℕ) (up : Bool) (s s' : Core) : Type 0 where
    pub hand : Hand
    pub key : Key
    pub mode : Mode
    pub is : (s.workers w).hand ≡ Some hand
    -- it met Busy in this try, or is given up, by this event or by an earlier one
    pub phase : (hand.phase ≡ Quitting) ⊎ ((hand.phase ≡ Running) × ((hand.given_up || up) ≡ true))
    pub held : mode_of key hand.held ≡ Some mode
    pub after : let sh = s.shards (set.shard_of key) in
        s' ≡ with_shard (with_worker s w (settled set.width (s.workers w) (hand_quit hand key up))) (set.shard_of key) (shard_quit sh w key)

  -- an updating call gets its place; `anchor` is the vector of an anchor of its stream, or zero where it names none
  abbrev pub act_placed : ℕ → Hand → Effect → ℕ → List ℕ → ℕ → ℕ → Act Txn
  act_placed w h e number anchor start past =
      record { call = record { call = h.call; worker = w; place = record { stream = set.stream_of w; start = start; past = past; dep = join h.dep anchor }; anchor = number }; effect = e }

  pub record Commits (w : ℕ) (s s' : Core) (t : Act Txn) : Type 0 where
    pub hand : Hand
    pub effect : Effect
    pub number : ℕ
    pub anchor : List ℕ
    pub past : ℕ
    pub is : (ready s w).hand ≡ Some hand
    pub phase : hand.phase ≡ Running
    pub ended : stage set.procs hand.call.call hand.seen ≡ Ends effect
    pub locked : lock_next hand ≡ None
    pub updates : updating effect.writes ≡ true
    pub named : ((number ≡ 0) × (anchor ≡ [])) ⊎ ((i : ℕ) × (number ≡ set.anchored (set.stream_of w) + i + 1) × (slice_get (s.streams (set.stream_of w)).anchors i ≡ Some anchor))
    pub past_start : slice_index s.ends (set.stream_of w) < past
    pub act : t ≡ act_placed w hand effect number anchor (slice_index s.ends (set.stream_of w)) past
    pub after : s' ≡ record (with_worker s w (record (ready s w) { hand = Some (hand_joined hand (Placed t) t.call.place.dep); committed = (s.workers w).committed ++ committed_of t ∷ [] }))
        { ends = slice_set s.ends (set.stream_of w) past }

  -- a record that has its place is posted
  pub record Posts (w : ℕ) (s s' : Core) : Type 0 where
    pub hand : Hand
    pub act : Act Txn
    pub is : (s.workers w).hand ≡ Some hand
    pub phase : hand.phase ≡ Placed act
    pub after : s' ≡ with_outbox (with_worker s w (record (s.workers w) { hand = Some (record hand { phase = Freeing act }) })) w
        (record (s.outboxes w) { posted = (s.outboxes w).posted ++ Record act ∷ [] })

  -- a read-only call that has finished joins the committed calls
  abbrev pub act_reading : ℕ → Hand → Effect → Act Txn
  act_reading w h e =
      record { call = record { call = h.call; worker = w; place = unplaced_at h.dep; anchor = 0 }; effect = e }

  pub record Reads (w : ℕ) (s s' : Core) (t : Act Txn) : Type 0 where
    pub hand : Hand
    pub effect : Effect
    pub is : (ready s w).hand ≡ Some hand
    pub phase : hand.phase ≡ Running
    pub ended : stage set.procs hand.call.call hand.seen ≡ Ends effect
    pub no_write : effect.writes ≡ []
    pub act : t ≡ act_reading w hand effect
    pub after : s' ≡ with_worker s w (record (ready s w) { hand = Some (hand_joined hand (Freeing t) hand.dep); committed = (s.workers w).committed ++ committed_of t ∷ [] })

  -- a key of a posted call, or of a read-only one that has joined, is freed
  pub record Frees (w : ℕ) (s s' : Core) : Type 0 where
    pub hand : Hand
    pub act : Act Txn
    pub key : Key
    pub mode : Mode
    pub is : (s.workers w).hand ≡ Some hand
    pub phase : hand.phase ≡ Freeing act
    pub held : mode_of key hand.held ≡ Some mode
    pub lowest : (k : Key) (m : Mode) → mode_of k hand.held ≡ Some m → is_le (key_cmp key k) ≡ true
    pub after : let sh = s.shards (set.shard_of key) in
        s' ≡ with_shard (with_worker s w (record (s.workers w) { hand = Some (hand_freed hand key) }))
        (set.shard_of key) (shard_freed sh w key (lv_of act) (lookup (same_key key) act.effect.writes))

  -- a call that has freed all its keys is to be acknowledged
  pub record Finishes (w : ℕ) (s s' : Core) : Type 0 where
    pub hand : Hand
    pub act : Act Txn
    pub is : (s.workers w).hand ≡ Some hand
    pub phase : hand.phase ≡ Freeing act
    pub held : hand.held ≡ []
    pub after : s' ≡ with_outbox (with_worker s w (record (s.workers w) { hand = None })) w
        (record (s.outboxes w) { pending = (s.outboxes w).pending ++ ticket act ∷ [] })

  -- a shard drops free entries
  pub record Drops (i : ℕ) (v : List ℕ) (s s' : Core) : Type 0 where
    pub covered : AtMost v s.plv
    pub shard : Shard
    pub dropped : Dropped v (s.shards i) shard
    pub after : s' ≡ with_shard s i shard

  -- a stream has at most 2^32 - 1 anchors
  pub record Anchors (j : ℕ) (v : List ℕ) (s s' : Core) : Type 0 where
    pub there : j < set.width
    pub going : (s.streams j).stop ≡ None
    pub room : set.anchored j + length (s.streams j).anchors < MAX_ANCHORS
    pub covered : AtMost v s.plv
    pub narrow : length v ≤ set.width
    pub past : ℕ
    pub past_start : slice_index s.ends j < past
    pub after : let str = s.streams j in
        s' ≡ record (with_stream s j (record str { anchors = str.anchors ++ v ∷ []; posted = str.posted ++ Anchor (slice_index s.ends j) past v ∷ [] }))
        { ends = slice_set s.ends j past }

  -- the front piece of a worker's outbox, or of the manager's own, continues the stream
  pub record GathersRecord (j w : ℕ) (s s' : Core) : Type 0 where
    pub there : j < set.width
    pub going : (s.streams j).stop ≡ None
    pub whose : set.stream_of w ≡ j
    pub item : Item
    pub others : List Item
    pub is : (s.outboxes w).posted ≡ item ∷ others
    pub start : start_of item ≡ slice_index s.gathered j
    pub after : s' ≡ record (with_stream (with_outbox s w (record (s.outboxes w) { posted = others })) j (record (s.streams j) { moved = (s.streams j).moved ++ item ∷ [] })) { gathered = slice_set s.gathered j (past_of item) }

  pub record GathersAnchor (j : ℕ) (s s' : Core) : Type 0 where
    pub there : j < set.width
    pub going : (s.streams j).stop ≡ None
    pub item : Item
    pub others : List Item
    pub is : (s.streams j).posted ≡ item ∷ others
    pub start : start_of item ≡ slice_index s.gathered j
    pub after : s' ≡ record (with_stream s j (record (s.streams j) { posted = others; moved = (s.streams j).moved ++ item ∷ [] })) { gathered = slice_set s.gathered j (past_of item) }

  -- a Gather moves on over pieces, one after another
  pub data Gathered (j : ℕ) : Core → Core → Type 0 where
    stop : {s : Core} → Gathered j s s
    record_first : {s m s' : Core} (w : ℕ) → GathersRecord j w s m → Gathered j m s' → Gathered j s s'
    anchor_first : {s m s' : Core} → GathersAnchor j s m → Gathered j m s' → Gathered j s s'

  -- what is gathered up to there is persisted
  pub record Persists (j upto : ℕ) (s s' : Core) : Type 0 where
    pub there : j < set.width
    pub going : (s.streams j).stop ≡ None
    pub low : slice_index s.plv j ≤ upto
    pub high : upto ≤ slice_index s.gathered j
    pub after : s' ≡ record s { plv = slice_set s.plv j upto }

  -- a call whose vector is persisted is acknowledged
  pub record Acks (w : ℕ) (v : List ℕ) (s s' : Core) : Type 0 where
    pub licensed : AtMost v s.plv
    pub front : List Ticket
    pub ticket : Ticket
    pub back : List Ticket
    pub is : (s.outboxes w).pending ≡ front ++ ticket ∷ back
    pub covered : AtMost ticket.lv v
    pub after : s' ≡ record (with_outbox s w (record (s.outboxes w) { pending = front ++ back })) { acked = at w ((s.acked w) ++ ticket ∷ []) s.acked }

  -- the stream is cut there, and goes no further
  pub record Stops (j upto : ℕ) (s s' : Core) : Type 0 where
    pub there : j < set.width
    pub going : (s.streams j).stop ≡ None
    pub low : slice_index s.plv j ≤ upto
    pub high : upto ≤ slice_index s.gathered j
    pub after : s' ≡ with_stream s j (record (s.streams j) { stop = Some upto })

  -- where nothing is left to begin, the lowest of the calls left over becomes its worker's next call
  pub record Resumes (w : ℕ) (s s' : Core) : Type 0 where
    pub resting : (u : ℕ) → ((s.workers u).hand ≡ None) × ((s.workers u).waiting ≡ [])
    pub front : List Numbered
    pub call : Numbered
    pub back : List Numbered
    pub is : (s.workers w).left ≡ front ++ call ∷ back
    pub lowest : (u : ℕ) (c : Numbered) → Member c (s.workers u).left → call.number ≤ c.number
    pub after : s' ≡ with_worker s w (record (s.workers w) { waiting = call ∷ []; left = front ++ back })

  -- the event leads from s to s', and these calls join the committed ones
  abbrev pub Leads : Event → Core → Core → List (Act Txn) → Type 0
  Leads (Lock w) s s' new = Locks w s s' × (new ≡ [])
  Leads (Busy w) s s' new = Refuses w s s' × (new ≡ [])
  Leads (Quit w up) s s' new = Quits w up s s' × (new ≡ [])
  Leads (Commit w) s s' new = (t : Act Txn) × Commits w s s' t × (new ≡ t ∷ [])
  Leads (Post w) s s' new = Posts w s s' × (new ≡ [])
  Leads (Free w) s s' new = Frees w s s' × (new ≡ [])
  Leads (FirstFree w) s s' new = (m : Core) × (t : Act Txn) × Reads w s m t × Frees w m s' × (new ≡ t ∷ [])
  Leads (Done w) s s' new = Finishes w s s' × (new ≡ [])
  Leads (DoneReading w) s s' new = (m : Core) × (t : Act Txn) × Reads w s m t × Finishes w m s' × (new ≡ t ∷ [])
  Leads (Drop i v) s s' new = Drops i v s s' × (new ≡ [])
  Leads (Gather j) s s' new = Gathered j s s' × (new ≡ [])
  Leads (PlaceAnchor j v) s s' new = Anchors j v s s' × (new ≡ [])
  Leads (Persist j upto) s s' new = Persists j upto s s' × (new ≡ [])
  Leads (Ack w v) s s' new = Acks w v s s' × (new ≡ [])
  Leads (Stop j upto) s s' new = Stops j upto s s' × (new ≡ [])
  Leads (Resume w) s s' new = Resumes w s s' × (new ≡ [])

  -- no event: a call in hand that has not committed and holds no key is let go, as one that is given up
  pub record LetsGo (w : ℕ) (s s' : Core) : Type 0 where
    pub hand : Hand
    pub is : (s.workers w).hand ≡ Some hand
    pub phase : act_of hand.phase ≡ None
    pub held : hand.held ≡ []
    pub after : s' ≡ with_worker s w (record (s.workers w) { hand = None })
