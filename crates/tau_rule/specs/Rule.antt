-- The rule of the desk: its words, parts and views show one state of the core.
use Rattle.std.specs.Prelude.{ℕ, ◌+◌, ◌-◌, ◌*◌, ◌^◌, ◌<◌, ◌≤◌, ◌==◌, ◌≡◌, Bool, true, false, if◌then◌else◌, List, [], length, Option, Some, None, slice_index, slice_index_or, zero, suc, nat_le}
use Rattle.tau_base.specs.declared.limits.TheConstants.{SHARDS, MAX_BEGIN, MAX_CALLS, MAX_WORKERS}
use Rattle.tau_base.specs.Modes.{format_of, most_streams}
use Rattle.tau_base.specs.Vectors.{AtMost}
use Rattle.atomic_table.specs.Table.{State}
use Rattle.tau_machine.specs.State.{Core, Outbox}
use Rattle.tau_shard.specs.Read.{shard_of}
use Rattle.tau_outbox.specs.Pieces.{PlainOutbox}
use Rattle.tau_ack.specs.Pending.{PlainPending}
use Rattle.tau_shown.specs.Shown.{Shown}
use Rattle.tau_machine.specs.Runs.{Run}
use Rattle.tau_machine.specs.Events.{Event, Persist}
use Rattle.tau_machine.specs.Hands.{Txn}
use Rattle.tau_model.specs.History.{Act, Member}
use Rattle.tau_core.specs.declared.state.Load.{Load}
use Rattle.tau_occ.specs.declared.style.Style.{Style}
use Rattle.tau_core.specs.Opens.{Opened, nothing}
use Rattle.tau_core.specs.Parts.{nobody, no_shard}
use Rattle.tau_core.specs.State.{Plain}
use Rattle.tau_core.specs.View.{setting_of, core_of, tickets}
use Rattle.tau_rule.specs.Role.{Managed, Share, Working, Managing, Clerking, Role, role_in}
use Rattle.tau_core.specs.Pieces.{Names, IsPieceOf, Paired}
use Rattle.tau_rule.specs.Knows.{Knows}
use Rattle.tau_rule.specs.Holders.{LeadHeld}
use Rattle.tau_rule.specs.declared.part.Part.{Part}
use Rattle.tau_rule.specs.declared.part.Part.TheVariants as part

-- the state that is shown: that of the core; which actors have raised the stop; how much room the outbox of each worker has at least; and which persisted positions were stored of each stream
pub record Now : Type 0 where
  pub core : Core
  pub raised : ℕ → Bool
  pub spare : ℕ → ℕ × ℕ
  pub stored : ℕ → List ℕ

abbrev pub anchors_at : Core → ℕ → List (List ℕ)
anchors_at s j = (s.streams j).anchors

-- the numbers of parts
abbrev pub outbox_part : ℕ → ℕ
outbox_part w = SHARDS + w

abbrev pub anchor_part : Load → ℕ → ℕ
anchor_part l j = SHARDS + l.workers + j

abbrev pub part_count : Load → ℕ
part_count l = SHARDS + l.workers + l.streams

-- the numbers of roles
abbrev pub manager_role : Load → ℕ → ℕ
manager_role l j = l.workers + j

abbrev pub clerk_role : Load → ℕ
clerk_role l = l.workers + l.streams

pub record IsOutbox (l : Load) (o : PlainOutbox) (p : PlainPending) (anchors : ℕ → List (List ℕ)) (box : Outbox) : Type 0 where
  pub posted : Paired (IsPieceOf l anchors) o.pieces box.posted
  pub pending : box.pending ≡ tickets p.calls

-- a part is that of the core
abbrev pub IsPart : Load → ℕ → Part → Now → Type 0
IsPart l k (part.Shard b) c = (k < SHARDS) × (c.core.shards k ≡ shard_of b.value)
IsPart l k (part.Outbox o p) c = (w : ℕ) × (k ≡ outbox_part w) × (w < l.workers) × IsOutbox l o.value p.value (anchors_at c.core) (c.core.outboxes w) × ((c.spare w).0 ≤ o.value.room) × ((c.spare w).1 ≤ p.value.room)
IsPart l k (part.Anchor number lv) c = (j : ℕ) × (k ≡ anchor_part l j) × (j < l.streams) × Names l j (anchors_at c.core j) number lv.value × (length lv.value ≡ l.streams)

pub record IsManaged (l : Load) (j : ℕ) (g : Managed) (c : Now) : Type 0 where
  pub moved : Paired (IsPieceOf l (anchors_at c.core)) g.taken (c.core.streams j).moved
  pub gathered : slice_index c.core.gathered j ≡ g.gathered
  pub anchors : (c.core.streams j).anchors ≡ g.anchors
  pub own : Paired (IsPieceOf l (anchors_at c.core)) g.own (c.core.streams j).posted
  pub stored : c.stored j ≡ g.stored

abbrev pub IsShare : Load → ℕ → Share → Now → Type 0
IsShare l u (Working wk) c = (u < l.workers) × (c.core.workers u ≡ wk)
IsShare l u (Managing g) c = (j : ℕ) × (u ≡ manager_role l j) × (j < l.streams) × IsManaged l j g c
IsShare l u (Clerking acked) c = (u ≡ clerk_role l) × ((w : ℕ) → w < l.workers → c.core.acked w ≡ slice_index_or acked w [])

-- an actor's part is that of the core
abbrev pub IsRole : Load → ℕ → Role → Now → Type 0
IsRole l u r c = IsShare l u r.share c × (c.raised u ≡ r.raised) × (c.spare u ≡ r.spare)

-- whether one of the first so many actors has raised the stop
abbrev pub is_raised : ℕ → (ℕ → Bool) → Bool
is_raised zero f = false
is_raised (suc n) f = if f n then true else is_raised n f

abbrev pub number_if : Bool → ℕ
number_if true = 1
number_if false = 0

-- the words after the turns: of each stream its placed end, of each its persisted position, the stop
abbrev pub word_of : Load → ℕ → Now → ℕ
word_of l i c =
    if i == l.streams + l.streams then number_if (is_raised (l.workers + l.streams + 1) c.raised)
    else (if nat_le (i + 1) l.streams then slice_index c.core.ends i else slice_index c.core.plv (i - l.streams))

abbrev pub hand_of : Knows → Option (ℕ × Part)
hand_of v = v.hand

abbrev pub has : ℕ → Knows → Option Role
has u v = role_in u v.roles

-- what any seat knows of the state
pub record Sees (origin : Plain) (c : Now) (v : Knows) : Type 0 where
  pub opened : (u : ℕ) (r : Role) → has u v ≡ Some r → v.opened ≡ Some origin
  pub wide : (u : ℕ) (r : Role) → has u v ≡ Some r → length v.seen ≡ origin.load.streams
  pub low : AtMost v.seen c.core.plv
  -- a manager has seen its own word as it is
  pub own : (j : ℕ) (r : Role) → j < origin.load.streams → has (manager_role origin.load j) v ≡ Some r → slice_index v.seen j ≡ slice_index c.core.plv j
  pub read : (w : ℕ) (r : Role) → w < origin.load.workers → has w v ≡ Some r → Names origin.load ((setting_of origin.load).stream_of w) (anchors_at c.core ((setting_of origin.load).stream_of w)) v.read.0 v.read.1
  pub found : v.found ≡ true → is_raised (origin.load.workers + origin.load.streams + 1) c.raised ≡ true

-- how long the record of an anchor is at most
abbrev pub MAX_ANCHOR : ℕ
MAX_ANCHOR = 277

-- no record of a call is longer
abbrev pub LONGEST : ℕ
LONGEST = 2 ^ 32

-- the limits of a run
pub record IsLimited (l : Load) : Type 0 where
  pub streams_low : 1 ≤ l.streams
  pub streams_high : l.streams ≤ most_streams (format_of l.mode)
  pub workers_high : l.workers ≤ MAX_WORKERS
  pub few : length l.calls ≤ MAX_CALLS
  pub low : (j : ℕ) → j < l.streams → slice_index l.opening.ends j ≤ MAX_BEGIN
  pub wide : length l.opening.ends ≡ l.streams

-- events lead there from the core with which the desk was opened, and each worker that was Busy by one had a cause
pub record IsReached (origin : Plain) (style : Style) (s : Core) : Type 0 where
  pub events : List Event
  pub joined : List (Act Txn)
  pub run : Run (setting_of origin.load) (core_of origin nothing) events joined s
  pub held : LeadHeld (setting_of origin.load) style events (core_of origin nothing) s joined

-- the event persists nothing
abbrev pub PersistsNone : Event → Type 0
PersistsNone (Persist j upto) = ⊥
PersistsNone _ = Unit {0}

-- these lists have each position of their stream that the events persist
abbrev pub HavePersisted : (ℕ → List ℕ) → List Event → Type 0
HavePersisted stored events = (j upto : ℕ) → Member (Persist j upto) events → Member upto (stored j)

-- events lead there from the opening, and no stream was stopped
pub record Meets (origin : Plain) (style : Style) (c : Now) : Type 0 where
  pub reached : IsReached origin style c.core
  pub stored : HavePersisted c.stored reached.events
  pub going : (j : ℕ) → (c.core.streams j).stop ≡ None
  -- each stream has grown by the records of the committed calls and by its anchors
  pub fits : (j : ℕ) → j < origin.load.streams → slice_index c.core.ends j ≤ slice_index origin.load.opening.ends j + LONGEST * length reached.joined + MAX_ANCHOR * length (c.core.streams j).anchors
  pub anchors : (j : ℕ) → j < origin.load.streams → length (c.core.streams j).anchors < 2 ^ 32
  pub opened : Opened origin.load origin
  pub limited : IsLimited origin.load
  -- there are no other workers, shards and streams
  pub beyond : (u : ℕ) → origin.load.workers ≤ u → c.core.workers u ≡ nobody
  pub shards : (i : ℕ) → SHARDS ≤ i → c.core.shards i ≡ no_shard
  pub streams : (j : ℕ) → origin.load.streams ≤ j → (c.core.streams j).anchors ≡ []

abbrev pub Rule : Plain → Style → State (Option Part) Knows → Type 0
Rule origin style = Shown (IsPart origin.load) (IsRole origin.load) (word_of origin.load) hand_of has (Sees origin) (Meets origin style) (part_count origin.load) (origin.load.streams + origin.load.streams + 1)
