-- What the steps of managers and of the clerk owe and tell, besides a Gather of an outbox, which owes `GivesGathered`, and the place of an anchor, which owes `IsToAnchor`.
use Rattle.std.specs.Prelude.{ℕ, false, slice_index, ◌*◌, ◌+◌, ◌-◌, ◌≤◌, ◌<◌, ◌≡◌, ◌==◌, ◌||◌, true, Option, Some, None, List, [], ◌∷◌, ◌++◌, length, slice_index_or, slice_set, take}
use Rattle.tau_base.specs.Vectors.{AtMost}
use Rattle.tau_base.specs.declared.limits.TheConstants.{MAX_LSN}
use Rattle.tau_shard.specs.Shard.{Shard, Dropped}
use Rattle.tau_machine.specs.State.{Ticket}
use Rattle.tau_outbox.specs.declared.Piece.{Piece}
use Rattle.tau_outbox.specs.Gather.{Continues, Gathers}
use Rattle.tau_outbox.specs.Pieces.{bytes_of}
use Rattle.tau_ack.specs.Pending.{NoneCovered, TakesFirst}
use Rattle.tau_ack.specs.declared.Waiting.{Waiting}
use Rattle.tau_shard.specs.Plain.{PlainShard}
use Rattle.tau_shard.specs.Read.{shard_of}
use Rattle.tau_base.specs.Modes.{format_of}
use Rattle.tau_record.specs.Record.{Spells}
use Rattle.tau_record.specs.declared.entry.Entry.TheVariants as entry
use Rattle.tau_core.specs.declared.state.Load.{Load}
use Rattle.tau_core.specs.Pieces.{Names}
use Rattle.tau_core.specs.State.{Plain}
use Rattle.tau_occ.specs.declared.style.Style.{Style}
use Rattle.tau_rule.specs.Role.{Clerking, Managed, Managing, Role, Share, Working, managed_in_share}
use Rattle.tau_rule.specs.Knows.{Knows}
use Rattle.atomic_table.specs.Table.{Step}
use Rattle.tau_rule.specs.Rule.{IsRole, Meets, Now, Sees, anchor_part, clerk_role, has, manager_role, outbox_part, part_count}
use Rattle.tau_rule.specs.Steps.{Agrees, Sat, first_role, handed, shard_in}
use Rattle.tau_rule.specs.Anchoring.{anchored}
use Rattle.tau_rule.specs.Boxes.{BoxOf, box_in, gathered_by}
use Rattle.tau_rule.specs.declared.part.Part.{Part}
use Rattle.tau_desk.specs.Shares.{PlainStock}
use Rattle.tau_desk.specs.Seats.{PlainClerkSeat, PlainManagerSeat}
use Rattle.tau_desk.specs.Works.{anchor_in}

-- the clerk's lists
abbrev pub acked_in_share : Share → List (List Ticket)
acked_in_share (Working wk) = []
acked_in_share (Managing g) = []
acked_in_share (Clerking acked) = acked

abbrev pub managed_in : Knows → Managed
managed_in v = managed_in_share (first_role v.roles).1.share

abbrev pub acked_in : Knows → List (List Ticket)
acked_in v = acked_in_share (first_role v.roles).1.share

-- what the seat of a manager knows when its part is at home
abbrev pub managing : Knows → Managed → Knows
managing v g = handed v (first_role v.roles).0 (record (first_role v.roles).1 { share = Managing g })

-- the pieces in the part in hand, and those that are gone from its front where these are left
abbrev pub pieces_in : Option BoxOf → List Piece
pieces_in None = []
pieces_in (Some b) = b.0.pieces

abbrev pub pieces_held : Option (ℕ × Part) → List Piece
pieces_held None = []
pieces_held (Some h) = pieces_in (box_in h.1)

abbrev pub gone : List Piece → List Piece → List Piece
gone before left = take (length before - length left) before

-- what the manager knows after a Gather of the outbox in hand that leaves these pieces
abbrev pub told_gathered : Knows → List Piece → Knows
told_gathered v left = managing v (gathered_by (managed_in v) (gone (pieces_held v.hand) left))

-- the manager has the anchor part of its stream in hand, which comes home as it was, and has gathered these of its own anchors' records
pub record GivesOwn (origin : Plain) (m : Sat) (j : ℕ) (taken left : List Piece) : Type 0 where
  pub part_taken : Part
  pub role : Role
  pub managed : Managed
  pub opened : m.0.opened ≡ Some origin
  pub held : m.0.hand ≡ Some (anchor_part origin.load j, part_taken)
  pub carried : m.1 ≡ (anchor_part origin.load j, None) ∷ []
  pub roles : m.0.roles ≡ (manager_role origin.load j, role) ∷ []
  pub share : role.share ≡ Managing managed
  pub there : j < origin.load.streams
  pub front : managed.own ≡ taken ++ left
  pub continues : Continues managed.gathered taken

abbrev pub own_gathered : Managed → List Piece → Managed
own_gathered g left = record g { taken = g.taken ++ gone g.own left; gathered = g.gathered + length (bytes_of (gone g.own left)); own = left }

abbrev pub told_own : Knows → List Piece → Knows
told_own v left = managing v (own_gathered (managed_in v) left)

-- the seat has a shard in hand, of which it has dropped free entries that the positions cover which it has seen persisted; it knows no more by that
pub record GivesSwept (m : Sat) (k : ℕ) (q : PlainShard) : Type 0 where
  pub taken : Part
  pub number : ℕ
  pub role : Role
  pub before : Shard
  pub held : m.0.hand ≡ Some (k, taken)
  pub carried : m.1 ≡ (k, None) ∷ []
  pub roles : m.0.roles ≡ (number, role) ∷ []
  pub was : shard_in taken ≡ Some before
  pub dropped : Dropped m.0.seen before (shard_of q)

-- the clerk has the outbox of a worker in hand, and has taken the first pending call out that is covered by the positions which it has seen persisted
pub record GivesAcked (l : Load) (m : Sat) (b : BoxOf) (w : ℕ) (call : Waiting) : Type 0 where
  pub taken : Part
  pub role : Role
  pub acked : List (List Ticket)
  pub before : BoxOf
  pub held : m.0.hand ≡ Some (outbox_part w, taken)
  pub carried : m.1 ≡ (outbox_part w, None) ∷ []
  pub roles : m.0.roles ≡ (clerk_role l, role) ∷ []
  pub share : role.share ≡ Clerking acked
  pub wide : length acked ≡ l.workers
  pub was : box_in taken ≡ Some before
  pub there : w < l.workers
  pub pieces : b.0.pieces ≡ before.0.pieces
  pub takes : TakesFirst m.0.seen before.1.calls call b.1.calls
  pub records : before.0.room ≤ b.0.room
  pub calls : before.1.room ≤ b.1.room

-- what the clerk knows then
abbrev pub told_acked : Knows → ℕ → Waiting → Knows
told_acked v w call =
    handed v (first_role v.roles).0 (record (first_role v.roles).1 { share = Clerking (slice_set (acked_in v) w (slice_index_or (acked_in v) w [] ++ record { number = call.number; lv = call.lv } ∷ [])) })

-- the manager has the anchor part of its stream in hand, and publishes an anchor that it placed and that is newer; it knows no more by that
pub record GivesPublished (origin : Plain) (m : Sat) (j : ℕ) (number : ℕ) (lv : List ℕ) : Type 0 where
  pub taken : Part
  pub role : Role
  pub managed : Managed
  pub before : ℕ × List ℕ
  pub opened : m.0.opened ≡ Some origin
  pub held : m.0.hand ≡ Some (anchor_part origin.load j, taken)
  pub carried : m.1 ≡ (anchor_part origin.load j, None) ∷ []
  pub roles : m.0.roles ≡ (manager_role origin.load j, role) ∷ []
  pub share : role.share ≡ Managing managed
  pub there : j < origin.load.streams
  pub was : anchor_in taken ≡ Some before
  pub newer : before.0 < number
  pub named : Names origin.load j managed.anchors number lv
  pub wide : length lv ≡ origin.load.streams

-- what a seat knows that has raised the stop
abbrev pub told_raised : Knows → Knows
told_raised v = record v { roles = ((first_role v.roles).0, record (first_role v.roles).1 { raised = true }) ∷ [] }

-- and one that has looked
abbrev pub told_found : Knows → ℕ → Knows
told_found v n = record v { found = n == 1 || v.found }

-- the manager took the outbox of a worker, moved the longest front of its pieces that continues the stream and fits to the body, and knows that it has gathered just these
pub record GathersBox (origin : Plain) (s : PlainManagerSeat) (w : ℕ) (body : List ℕ) (s' : PlainManagerSeat) (longer : List ℕ) : Type 0 where
  pub part_taken : Part
  pub agrees : Agrees origin s.me.0 (outbox_part w) part_taken
  pub before : BoxOf
  pub was : box_in part_taken ≡ Some before
  pub left : List Piece
  pub moved : Gathers s.stock.gathered before.0.pieces left body longer s'.stock.gathered
  pub after : s' ≡ record s { me = (managing s.me.0 (gathered_by (managed_in s.me.0) moved.taken), []); stock = record s.stock { gathered = s'.stock.gathered } }

-- the clerk took the outbox of a worker and acknowledged the first pending call there that is covered by the positions which it has seen persisted
pub record AcksFirst (origin : Plain) (s : PlainClerkSeat) (w : ℕ) (call : Waiting) (s' : PlainClerkSeat) : Type 0 where
  pub part_taken : Part
  pub agrees : Agrees origin s.me.0 (outbox_part w) part_taken
  pub before : BoxOf
  pub was : box_in part_taken ≡ Some before
  pub left : List Waiting
  pub takes : TakesFirst s.seen before.1.calls call left
  pub after : s' ≡ record s { me = (told_acked s.me.0 w call, []) }

-- or found none
pub record AcksNone (origin : Plain) (s : PlainClerkSeat) (w : ℕ) (s' : PlainClerkSeat) : Type 0 where
  pub part_taken : Part
  pub agrees : Agrees origin s.me.0 (outbox_part w) part_taken
  pub before : BoxOf
  pub was : box_in part_taken ≡ Some before
  pub none : NoneCovered s.seen before.1.calls
  pub after : s' ≡ s

-- the manager moved the longest front of its own anchors' records that continues the stream and fits to the body, and knows that it has gathered just these
pub record GathersOwn (s : PlainManagerSeat) (body : List ℕ) (s' : PlainManagerSeat) (longer : List ℕ) : Type 0 where
  pub moved : Gathers s.stock.gathered s.stock.own.pieces s'.stock.own.pieces body longer s'.stock.gathered
  pub room : s.stock.own.room ≤ s'.stock.own.room
  pub after : s' ≡ record s { me = (told_own s.me.0 s'.stock.own.pieces, []); stock = record s.stock { own = s'.stock.own; gathered = s'.stock.gathered } }

-- only room was made in what the manager has of its own
pub record OnlyRoom (o o' : PlainStock) : Type 0 where
  pub anchors : o'.anchors ≡ o.anchors
  pub pieces : o'.own.pieces ≡ o.own.pieces
  pub gathered : o'.gathered ≡ o.gathered
  pub records : o.own.room ≤ o'.own.room
  pub vectors : o.room ≤ o'.room

-- what the manager knows that has placed an anchor with these bytes there, which holds what it has seen
abbrev pub told_anchored : Knows → List ℕ → ℕ → Knows
told_anchored v bytes start = record v { roles = ((first_role v.roles).0, record (first_role v.roles).1 { share = Managing (anchored (managed_in v) v.seen bytes start) }) ∷ [] }

-- one anchor more, whose record starts there
pub record PutsAnchor (o : PlainStock) (lv bytes : List ℕ) (start : ℕ) (o' : PlainStock) : Type 0 where
  pub anchors : o'.anchors ≡ o.anchors ++ lv ∷ []
  pub pieces : o'.own.pieces ≡ o.own.pieces ++ record { start = start; bytes = bytes } ∷ []
  pub gathered : o'.gathered ≡ o.gathered

-- the manager has placed an anchor that holds what it has seen persisted
pub record PlacesAnchor (l : Load) (s s' : PlainManagerSeat) : Type 0 where
  pub bytes : List ℕ
  pub start : ℕ
  pub spelled : (vectors : List (List ℕ)) → Spells (format_of l.mode) l.streams vectors false (entry.Anchor s.seen) bytes
  pub small : start + length bytes < MAX_LSN
  pub puts : PutsAnchor s.stock s.seen bytes start s'.stock
  pub after : s' ≡ record s { me = (told_anchored s.me.0 bytes start, []); stock = s'.stock }

-- the seat may have seen streams persisted further, and knows no more by that
pub record SeesOn (m m' : Sat) (seen seen' : List ℕ) : Type 0 where
  pub up : AtMost seen seen'
  pub wide : length seen' ≡ length seen
  pub knows : m' ≡ (record m.0 { seen = m'.0.seen }, m.1)

-- at a state with which all that the seat knows agrees the stream was placed up to there
pub record PlacedTo (origin : Plain) (v : Knows) (j upto : ℕ) : Type 0 where
  pub style : Style
  pub state : Now
  pub meets : Meets origin style state
  pub sees : Sees origin state v
  pub roles : (u : ℕ) (r : Role) → has u v ≡ Some r → IsRole origin.load u r state
  pub end : slice_index state.core.ends j ≡ upto

-- a seat has read the placed end of a stream
abbrev pub saw_end : Step (Option Part) → Sat → ℕ → Sat → Type 0
saw_end st m found m' = (m' ≡ m) × ((origin : Plain) → m.0.opened ≡ Some origin → (j : ℕ) → j < origin.load.streams → st.word ≡ 8 * (part_count origin.load + j) → PlacedTo origin m.0 j found)
