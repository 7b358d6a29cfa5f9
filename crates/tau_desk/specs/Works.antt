-- What a worker's steps owe and tell, besides a Lock, a Busy, a Quit, a Free, a Post and a Done, which owe `GivesShard` and `GivesOutbox`.
use Rattle.std.specs.Prelude.{ℕ, ◌+◌, ◌≤◌, ◌<◌, ◌≡◌, Bool, true, false, Option, Some, None, Result, Ok, Err, length, List, [], ◌∷◌, ◌++◌}
use Rattle.tau_model.specs.declared.committed.Committed.{Committed}
use Rattle.tau_shard.specs.Shard.{Shard}
use Rattle.tau_machine.specs.Worker.{Worker}
use Rattle.tau_machine.specs.Events.{FirstFree, DoneReading}
use Rattle.tau_shard.specs.Plain.{PlainShard}
use Rattle.tau_shard.specs.Read.{shard_of}
use Rattle.tau_txn.specs.declared.standing.Standing.{Standing}
use Rattle.tau_txn.specs.declared.standing.Standing.TheVariants.{LeftOver}
use Rattle.tau_txn.specs.Hand.{PlainHand}
use Rattle.tau_txn.specs.Txn.{PlainTxn}
use Rattle.tau_base.specs.declared.value.Call.{Call}
use Rattle.tau_base.specs.declared.value.NoMemory.{NoMemory}
use Rattle.tau_machine.specs.Worker.{fresh}
use Rattle.tau_proc.specs.declared.proc.Proc.{Proc}
use Rattle.tau_txn.specs.Txn.{RunsBy, hand_in, held_in, leaves_in}
use Rattle.tau_core.specs.Begins.{next_behind, number_by}
use Rattle.tau_core.specs.View.{call_of}
use Rattle.tau_core.specs.declared.state.Load.{Load}
use Rattle.tau_core.specs.State.{Plain}
use Rattle.tau_core.specs.View.{setting_of}
use Rattle.tau_occ.specs.declared.style.Style.{Style}
use Rattle.tau_rule.specs.Role.{Role, Working}
use Rattle.tau_rule.specs.Knows.{Knows}
use Rattle.tau_rule.specs.Rule.{anchor_part, outbox_part}
use Rattle.tau_rule.specs.Steps.{Sat, StepsShard, first_role, handed, next_worker, shard_in, told, worker_in, working}
use Rattle.tau_rule.specs.Boxes.{BoxOf, StepsBox, box_in, told_box, with_box}
use Rattle.tau_rule.specs.declared.part.Part.{Part}
use Rattle.tau_desk.specs.declared.mark.Mark.{Mark}
use Rattle.tau_desk.specs.Acts.{HasCommitted, HasEnded, HasEndedReading, HasFirstFreed, HasFreed, HasLocked, HasMetBusy, HasPosted, HasQuit}
use Rattle.tau_desk.specs.Seats.{PlainWorkerSeat}
use Rattle.tau_desk.specs.Shares.{PlainWork, unbegun}
use Rattle.tau_desk.specs.declared.work.Acted.{Acted}
use Rattle.tau_desk.specs.declared.work.Acted.TheVariants as acted
use Rattle.tau_rule.specs.declared.part.Part.TheVariants as part

-- the worker whose call only read: it commits by the step after which this is in hand, and this is kept of it
abbrev pub joined_worker : Load → Worker → PlainTxn → Committed → Worker
joined_worker l wk t kept = record (next_worker l wk t) { committed = wk.committed ++ kept ∷ [] }

-- what its seat knows then, after a shard has come home
abbrev pub told_joined : Load → Knows → PlainTxn → Committed → Knows
told_joined l v t kept = handed v (first_role v.roles).0 (working (first_role v.roles).1 (joined_worker l (worker_in v) t kept))

-- and after its outbox has
abbrev pub told_read_only : Load → Knows → PlainTxn → Committed → ℕ × ℕ → Knows
told_read_only l v t kept spare = handed v (first_role v.roles).0 (with_box (first_role v.roles).1 (joined_worker l (worker_in v) t kept) spare)

-- the seat has the shard k in hand, and the first free of its call, which only read, leaves it so, with this call in hand
pub record GivesFirst (origin : Plain) (m : Sat) (k : ℕ) (q : PlainShard) (w : ℕ) (t : PlainTxn) (kept : Committed) : Type 0 where
  pub taken : Part
  pub role : Role
  pub worker : Worker
  pub before : Shard
  pub held : m.0.hand ≡ Some (k, taken)
  pub carried : m.1 ≡ (k, None) ∷ []
  pub roles : m.0.roles ≡ (w, role) ∷ []
  pub share : role.share ≡ Working worker
  pub was : shard_in taken ≡ Some before
  pub there : w < origin.load.workers
  pub steps : (style : Style) → StepsShard origin style (FirstFree w) w worker (joined_worker origin.load worker t kept) k before (shard_of q)

-- the seat has its outbox in hand, and the end of its call, which only read and holds no key, leaves it so, with no call in hand
pub record GivesReadOnly (origin : Plain) (m : Sat) (b : BoxOf) (w : ℕ) (t : PlainTxn) (kept : Committed) (spare : ℕ × ℕ) : Type 0 where
  pub taken : Part
  pub role : Role
  pub worker : Worker
  pub before : BoxOf
  pub held : m.0.hand ≡ Some (outbox_part w, taken)
  pub carried : m.1 ≡ (outbox_part w, None) ∷ []
  pub roles : m.0.roles ≡ (w, role) ∷ []
  pub share : role.share ≡ Working worker
  pub was : box_in taken ≡ Some before
  pub there : w < origin.load.workers
  pub records : spare.0 ≤ b.0.room
  pub calls : spare.1 ≤ b.1.room
  pub steps : StepsBox origin (DoneReading w) m.0 w worker (joined_worker origin.load worker t kept) before b

-- room was made in the outbox that the seat has in hand, or it was closed, and no event happens
pub record GivesRoom (m : Sat) (b : BoxOf) (w : ℕ) (spare : ℕ × ℕ) : Type 0 where
  pub taken : Part
  pub role : Role
  pub before : BoxOf
  pub held : m.0.hand ≡ Some (outbox_part w, taken)
  pub carried : m.1 ≡ (outbox_part w, None) ∷ []
  pub roles : m.0.roles ≡ (w, role) ∷ []
  pub was : box_in taken ≡ Some before
  pub pieces : b.0.pieces ≡ before.0.pieces
  pub pending : b.1.calls ≡ before.1.calls
  pub records : spare.0 ≤ b.0.room
  pub calls : spare.1 ≤ b.1.room

-- what the seat knows then
abbrev pub told_room : Knows → ℕ × ℕ → Knows
told_room v spare = handed v (first_role v.roles).0 (record (first_role v.roles).1 { spare = spare })

-- the anchor in a part
abbrev pub anchor_in : Part → Option (ℕ × List ℕ)
anchor_in (part.Shard b) = None
anchor_in (part.Outbox o p) = None
anchor_in (part.Anchor number lv) = Some (number, lv.value)

-- the worker has the published anchor of its stream in hand, reads it, and gives it back
pub record GivesRead (l : Load) (m : Sat) (w : ℕ) (number : ℕ) (lv : List ℕ) : Type 0 where
  pub taken : Part
  pub role : Role
  pub held : m.0.hand ≡ Some (anchor_part l ((setting_of l).stream_of w), taken)
  pub carried : m.1 ≡ (anchor_part l ((setting_of l).stream_of w), None) ∷ []
  pub roles : m.0.roles ≡ (w, role) ∷ []
  pub there : w < l.workers
  pub is : anchor_in taken ≡ Some (number, lv)

-- what it knows then
abbrev pub told_read : Knows → ℕ → List ℕ → Knows
told_read v number lv = record v { hand = None; read = (number, lv) }

-- a call that is left over goes to the others that are, any other one stays
abbrev pub LeavesBy : Standing → PlainHand → PlainWork → PlainWork → Type 0
LeavesBy LeftOver h o o' = (o'.txn ≡ record o.txn { hand = None }) × (o'.left ≡ o.left ++ h.number ∷ []) × (o' ≡ record o { txn = o'.txn; left = o'.left; left_room = o'.left_room })
LeavesBy _ h o o' = o' ≡ o

abbrev pub leaves_of : Option PlainHand → PlainWork → PlainWork → Type 0
leaves_of None o o' = o' ≡ o
leaves_of (Some h) o o' = LeavesBy h.standing h o o'

abbrev pub Leaves : PlainWork → PlainWork → Type 0
Leaves o o' = leaves_of o.txn.hand o o'

-- the seat is the same, of the same desk and the same worker
abbrev pub IsSameSeat : PlainWorkerSeat → PlainWorkerSeat → Type 0
IsSameSeat s s' = (s'.table_id ≡ s.table_id) × (s'.id ≡ s.id) × (s'.worker ≡ s.worker) × (s'.me.0.opened ≡ s.me.0.opened)

-- the call in hand went on, and the seat knows what it shows then
pub record GoesOn (l : Load) (s s' : PlainWorkerSeat) (t : PlainTxn) : Type 0 where
  pub me : s'.me ≡ (told l s.me.0 t, [])
  pub leaves : Leaves (record s.work { txn = t; mark = None }) s'.work
  pub others : s' ≡ record s { me = s'.me; work = s'.work }

-- what comes of a lock, of a key that is given back, and of one that is freed
abbrev pub LocksOn : Load → PlainWorkerSeat → PlainWorkerSeat → Acted → Type 0
LocksOn l s s' acted.Went = (t : PlainTxn) × HasLocked l.procs s.work.txn t × GoesOn l s s' t
LocksOn l s s' acted.Busy = (t : PlainTxn) × HasMetBusy l.procs s.work.txn t × GoesOn l s s' t
LocksOn l s s' acted.Other = s' ≡ s
LocksOn l s s' acted.NoMemory = s' ≡ s

abbrev pub QuitsOn : Load → PlainWorkerSeat → PlainWorkerSeat → Acted → Type 0
QuitsOn l s s' acted.Went = (t : PlainTxn) × HasQuit l.procs s.work.txn t × GoesOn l s s' t
QuitsOn l s s' acted.Busy = ⊥
QuitsOn l s s' acted.Other = s' ≡ s
QuitsOn l s s' acted.NoMemory = ⊥

abbrev pub FreesOn : Load → PlainWorkerSeat → PlainWorkerSeat → Acted → Type 0
FreesOn l s s' acted.Went = (t : PlainTxn) × HasFreed l.procs s.work.txn t × GoesOn l s s' t
FreesOn l s s' acted.Busy = ⊥
FreesOn l s s' acted.Other = s' ≡ s
FreesOn l s s' acted.NoMemory = ⊥

-- the record of the call in hand stands in the outbox, and takes of its room
pub record PostsOn (l : Load) (s s' : PlainWorkerSeat) : Type 0 where
  pub txn : PlainTxn
  pub posted : HasPosted l.procs s.work.txn txn
  pub spare : ℕ × ℕ
  pub records : spare.0 + 1 ≡ s.work.spare.0
  pub calls : spare.1 ≡ s.work.spare.1
  pub me : s'.me ≡ (told_box l s.me.0 txn spare, [])
  pub after : s' ≡ record s { me = s'.me; work = record s.work { txn = txn; spare = spare; mark = None } }

-- the call waits in the outbox for its acknowledgement and is in hand no more; room was made there
pub record EndsOn (l : Load) (s s' : PlainWorkerSeat) : Type 0 where
  pub txn : PlainTxn
  pub ended : HasEnded l.procs s.work.txn txn
  pub spare : ℕ × ℕ
  pub records : s.work.spare.0 ≤ spare.0
  pub calls : s.work.spare.1 ≤ spare.1 + 1
  pub me : s'.me ≡ (told_box l s.me.0 txn spare, [])
  pub after : s' ≡ record s { me = s'.me; work = record s.work { txn = txn; spare = spare; mark = None } }

-- only room was made, for a call that is left over and for one that commits
pub record RoomMade (o o' : PlainWork) : Type 0 where
  pub left : o.left_room ≤ o'.left_room
  pub committed : o.committed_room ≤ o'.committed_room
  pub others : o' ≡ record o { left_room = o'.left_room; committed_room = o'.committed_room }

-- the next call is in hand, and has made no event
pub record BeginsNext (l : Load) (o o' : PlainWork) : Type 0 where
  pub roomy : PlainWork
  pub made : RoomMade o roomy
  pub number : ℕ
  pub call : Call
  pub next : number_by (length l.calls) o.next o.again ≡ Some number
  pub is : call_of l.calls number ≡ Some call
  pub begun : hand_in l.procs o'.txn ≡ Some (fresh o.txn.width (record { number = number; call = call }) 0)
  pub stays : leaves_in o'.txn ≡ false
  pub same : o'.txn ≡ record o.txn { hand = o'.txn.hand }
  pub others : o' ≡ record roomy { txn = o'.txn; next = next_behind l.workers o.next o.again; again = None; mark = Some (record { next = o.next; again = o.again }) }

abbrev pub BeginsBy : Load → PlainWork → PlainWork → Bool → Type 0
BeginsBy l o o' true = BeginsNext l o o'
BeginsBy l o o' false = (o' ≡ o) × (number_by (length l.calls) o.next o.again ≡ None)

abbrev pub BeginsIn : Load → PlainWork → PlainWork → Result Bool NoMemory → Type 0
BeginsIn l o o' (Ok b) = BeginsBy l o o' b
BeginsIn l o o' (Err e) = RoomMade o o'

-- room was made in the outbox
pub record RoomOn (s s' : PlainWorkerSeat) : Type 0 where
  pub spare : ℕ × ℕ
  pub records : s.work.spare.0 ≤ spare.0
  pub calls : s.work.spare.1 ≤ spare.1
  pub me : s'.me ≡ (told_room s.me.0 spare, [])
  pub after : s' ≡ record s { me = s'.me; work = record s.work { spare = spare } }

-- after the first free of a call that only read
abbrev pub FirstFreedBy : Plain → Sat → PlainTxn → Sat → PlainTxn → Option Committed → Type 0
FirstFreedBy origin m t m' t' None = (m' ≡ m) × (t' ≡ t)
FirstFreedBy origin m t m' t' (Some kept) = (m' ≡ (told_joined origin.load m.0 t' kept, [])) × HasFirstFreed origin.load.procs t t' kept

-- and after the end of one that only read and held no key
abbrev pub EndedReadingBy : Plain → Sat → PlainTxn → Sat → PlainTxn → Committed → ℕ × ℕ → Type 0
EndedReadingBy origin m t m' t' kept spare = (m' ≡ (told_read_only origin.load m.0 t' kept spare, [])) × HasEndedReading origin.load.procs t t' kept

-- after a call got the place of its record, above this anchor; out of memory, nothing has changed
abbrev pub CommittedBy : Plain → Sat → PlainTxn → Sat → PlainTxn → ℕ × List ℕ → Result (ℕ × Committed) NoMemory → Type 0
CommittedBy origin m t m' t' anchor (Ok r) = (m' ≡ (told_joined origin.load m.0 t' r.1, [])) × HasCommitted origin.load.procs t t' anchor.0 anchor.1 r.0 r.1
CommittedBy origin m t m' t' anchor (Err e) = (m' ≡ m) × (t' ≡ t)

-- the call in hand has joined the committed ones, of which this is kept, and the seat knows what it shows then
pub record JoinsOn (l : Load) (s s' : PlainWorkerSeat) (t : PlainTxn) (start : ℕ) (kept : Committed) : Type 0 where
  pub me : s'.me ≡ (told_joined l s.me.0 t kept, [])
  pub work : s'.work ≡ record s.work { txn = t; start = start; committed = s.work.committed ++ kept ∷ []; committed_room = s'.work.committed_room; mark = None }
  pub others : s' ≡ record s { me = s'.me; work = s'.work }

-- what comes of a commit; where there is no memory, or no room for a record in the outbox, nothing has changed
abbrev pub CommitsOn : Load → PlainWorkerSeat → PlainWorkerSeat → Acted → Type 0
CommitsOn l s s' acted.Went = (t : PlainTxn) × (start : ℕ) × (kept : Committed) × HasCommitted l.procs s.work.txn t s.read.0 s.read.1 start kept × JoinsOn l s s' t start kept
CommitsOn l s s' acted.Busy = ⊥
CommitsOn l s s' acted.Other = s' ≡ s
CommitsOn l s s' acted.NoMemory = s' ≡ s

-- of the first key that a call frees which only read
abbrev pub FirstFreesOn : Load → PlainWorkerSeat → PlainWorkerSeat → Acted → Type 0
FirstFreesOn l s s' acted.Went = (t : PlainTxn) × (kept : Committed) × HasFirstFreed l.procs s.work.txn t kept × JoinsOn l s s' t s.work.start kept
FirstFreesOn l s s' acted.Busy = ⊥
FirstFreesOn l s s' acted.Other = s' ≡ s
FirstFreesOn l s s' acted.NoMemory = ⊥

-- the call, which only read and held no key, has joined the committed ones, waits in the outbox for its acknowledgement and is in hand no more; room was made there
pub record EndsReadingOn (l : Load) (s s' : PlainWorkerSeat) : Type 0 where
  pub txn : PlainTxn
  pub kept : Committed
  pub ended : HasEndedReading l.procs s.work.txn txn kept
  pub spare : ℕ × ℕ
  pub records : s.work.spare.0 ≤ spare.0
  pub calls : s.work.spare.1 ≤ spare.1 + 1
  pub me : s'.me ≡ (told_read_only l s.me.0 txn kept spare, [])
  pub work : s'.work ≡ record s.work { txn = txn; committed = s.work.committed ++ kept ∷ []; committed_room = s'.work.committed_room; spare = spare; mark = None }
  pub others : s' ≡ record s { me = s'.me; work = s'.work }

-- as it was before the call in hand was begun, where that has made no event
abbrev pub undone : PlainWork → Option Mark → PlainWork
undone o None = o
undone o (Some k) = unbegun o k

-- the call in hand holds keys, and from now on only gives them back
pub record GivesUp (t t' : PlainTxn) : Type 0 where
  pub held : 1 ≤ length (held_in t)
  pub shown : (procs : List Proc) → hand_in procs t' ≡ hand_in procs t
  pub leaves : leaves_in t' ≡ true
  pub runs : (procs : List Proc) → RunsBy procs t → RunsBy procs t'
  pub same : t' ≡ record t { hand = t'.hand }

-- where it holds none, it stays, or is undone where it has made no event
abbrev pub GivesUpOn : PlainWorkerSeat → PlainWorkerSeat → Bool → Type 0
GivesUpOn s s' true = GivesUp s.work.txn s'.work.txn × (s' ≡ record s { work = record s.work { txn = s'.work.txn } })
GivesUpOn s s' false = (held_in s.work.txn ≡ []) × (s' ≡ record s { work = undone s.work s.work.mark })
