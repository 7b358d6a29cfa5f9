-- A worker's events on its outbox.
use Rattle.tau_base.specs.declared.limits.TheConstants.{MAX_LSN}
use Rattle.tau_txn.specs.Next.{next_action}
use Rattle.tau_txn.specs.declared.action.Action.TheVariants as action
use Rattle.std.specs.Prelude.{false, ℕ, ◌+◌, ◌≤◌, ◌<◌, ◌≡◌, ◌⊎◌, List, [], ◌∷◌, ◌++◌, length, replicate, Option, Some, None}
use Rattle.tau_model.specs.History.{Act}
use Rattle.tau_machine.specs.Hands.{Txn, Hand, Placed}
use Rattle.tau_machine.specs.Worker.{Worker}
use Rattle.tau_machine.specs.State.{Outbox}
use Rattle.tau_machine.specs.Events.{Event, Leads, with_worker, with_outbox}
use Rattle.tau_outbox.specs.declared.Piece.{Piece}
use Rattle.tau_outbox.specs.Pieces.{PlainOutbox, bytes_of}
use Rattle.tau_outbox.specs.Gather.{Continues}
use Rattle.tau_ack.specs.Pending.{PlainPending}
use Rattle.tau_base.specs.Modes.{format_of}
use Rattle.tau_record.specs.Record.{base_of, Spells}
use Rattle.tau_txn.specs.Record.{entry_of}
use Rattle.tau_txn.specs.Txn.{PlainTxn, hand_in, bytes_in}
use Rattle.tau_core.specs.State.{Plain}
use Rattle.tau_core.specs.declared.state.Load.{Load}
use Rattle.tau_core.specs.View.{setting_of}
use Rattle.tau_rule.specs.Role.{Managed, Working, Managing, Role}
use Rattle.tau_rule.specs.Knows.{Knows}
use Rattle.tau_occ.specs.declared.style.Style.{Style}
use Rattle.tau_rule.specs.Holders.{BusyHasCause}
use Rattle.tau_rule.specs.Rule.{Now, Sees, Meets, PersistsNone, IsOutbox, anchors_at, outbox_part, manager_role}
use Rattle.tau_rule.specs.Steps.{Sat, handed, first_role, worker_in, next_worker}
use Rattle.tau_rule.specs.declared.part.Part.{Part}
use Rattle.tau_rule.specs.declared.part.Part.TheVariants as part

-- what a part holds that is an outbox
abbrev pub box_in : Part → Option (PlainOutbox × PlainPending)
box_in (part.Shard b) = None
box_in (part.Outbox o p) = Some (o.value, p.value)
box_in (part.Anchor number lv) = None

abbrev pub BoxOf : Type 0
BoxOf = PlainOutbox × PlainPending

abbrev pub with_box : Role → Worker → ℕ × ℕ → Role
with_box x wk spare = record x { share = Working wk; spare = spare }

-- in either style the event, which is no Busy without a cause, leads from every state that this seat may see, with this worker and this outbox, to one in which they are these
abbrev pub StepsBox : Plain → Event → Knows → ℕ → Worker → Worker → PlainOutbox × PlainPending → PlainOutbox × PlainPending → Type 0
StepsBox origin e v w wk wk' b b' =
    (style : Style) (c : Now) → Meets origin style c → Sees origin c v → c.core.workers w ≡ wk → IsOutbox origin.load b.0 b.1 (anchors_at c.core) (c.core.outboxes w) →
    (box : Outbox) × (new : List (Act Txn)) × Leads (setting_of origin.load) e c.core (with_outbox (with_worker c.core w wk') w box) new × IsOutbox origin.load b'.0 b'.1 (anchors_at c.core) box × BusyHasCause (setting_of origin.load) style e c.core

-- what the seat knows then
abbrev pub told_box : Load → Knows → PlainTxn → ℕ × ℕ → Knows
told_box l v t spare = handed v (first_role v.roles).0 (with_box (first_role v.roles).1 (next_worker l (worker_in v) t) spare)

-- the seat has its worker's outbox in hand, and this event leaves it so, with this call in hand
pub record GivesOutbox (origin : Plain) (e : Event) (m : Sat) (b : BoxOf) (w : ℕ) (t : PlainTxn) (spare : ℕ × ℕ) : Type 0 where
  pub taken : Part
  pub role : Role
  pub worker : Worker
  pub before : BoxOf
  pub held : m.0.hand ≡ Some (outbox_part w, taken)
  pub carried : m.1 ≡ (outbox_part w, None) ∷ []
  pub roles : m.0.roles ≡ (w, role) ∷ []
  pub share : role.share ≡ Working worker
  pub was : box_in taken ≡ Some before
  pub there : w < origin.load.workers
  pub records : spare.0 ≤ b.0.room
  pub calls : spare.1 ≤ b.1.room
  pub steps : StepsBox origin e m.0 w worker (next_worker origin.load worker t) before b
  pub none : PersistsNone e

-- the call in hand has this place, and its bytes are those of its record, above the anchor that the seat read last or above none
pub record IsToPost (origin : Plain) (m : Sat) (t : PlainTxn) (start : ℕ) : Type 0 where
  pub hand : Hand
  pub act : Act Txn
  pub base : List ℕ
  pub next : next_action t ≡ action.Post
  pub is : hand_in origin.load.procs t ≡ Some hand
  pub phase : hand.phase ≡ Placed act
  pub starts : act.call.place.start ≡ start
  pub past : act.call.place.past ≡ start + length (bytes_in t)
  pub small : start + length (bytes_in t) < MAX_LSN
  pub stream : act.call.place.stream ≡ (setting_of origin.load).stream_of t.worker
  pub named : ((act.call.anchor ≡ 0) × (base ≡ replicate origin.load.streams 0)) ⊎ ((act.call.anchor ≡ m.0.read.0) × (base ≡ m.0.read.1))
  pub spelled : (vectors : List (List ℕ)) → base_of vectors act.call.anchor ≡ base → Spells (format_of origin.load.mode) origin.load.streams vectors false (entry_of origin.load.mode act) (bytes_in t)

-- the seat is the manager's of stream j and has the outbox of a worker of that stream in hand, of which it has gathered these pieces
pub record GivesGathered (origin : Plain) (m : Sat) (q : Part) (w j : ℕ) (taken : List Piece) : Type 0 where
  pub part_taken : Part
  pub role : Role
  pub managed : Managed
  pub before : BoxOf
  pub after : BoxOf
  pub opened : m.0.opened ≡ Some origin
  pub held : m.0.hand ≡ Some (outbox_part w, part_taken)
  pub roles : m.0.roles ≡ (manager_role origin.load j, role) ∷ []
  pub share : role.share ≡ Managing managed
  pub was : box_in part_taken ≡ Some before
  pub is : box_in q ≡ Some after
  pub there : j < origin.load.streams
  pub low : w < origin.load.workers
  pub whose : (setting_of origin.load).stream_of w ≡ j
  pub front : before.0.pieces ≡ taken ++ after.0.pieces
  pub calls : after.1.calls ≡ before.1.calls
  pub continues : Continues managed.gathered taken
  pub records : before.0.room ≤ after.0.room
  pub pending : before.1.room ≤ after.1.room

-- what the manager knows then
abbrev pub gathered_by : Managed → List Piece → Managed
gathered_by g taken = record g { taken = g.taken ++ taken; gathered = g.gathered + length (bytes_of taken) }
