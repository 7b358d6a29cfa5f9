-- What a run in threads has at its end: the state that the desk gives when it closes, and what became of the writers and the sink.
use Rattle.std.specs.Prelude.{ℕ, ◌<◌, ◌≡◌, ◌==◌, Bool, false, Option, Some, None, if◌then◌else◌, List, [], length, map, slice_get, slice_index}
use Rattle.std.specs.List.{filter}
use Rattle.tau_base.specs.Modes.{format_of}
use Rattle.tau_base.specs.Vectors.{AtMost}
use Rattle.tau_disk.specs.declared.disk.Disk.{Ghosts}
use Rattle.tau_stream.specs.declared.writer.Writer.{Writer}
use Rattle.tau_stream.specs.Writer.{disk_of, has_failed, IsReady}
use Rattle.tau_outbox.specs.declared.Piece.{Piece}
use Rattle.tau_model.specs.History.{Act, Member}
use Rattle.tau_machine.specs.Hands.{Txn, Hand, act_in}
use Rattle.tau_machine.specs.State.{Core}
use Rattle.tau_machine.specs.Events.{Event, Persist}
use Rattle.tau_machine.specs.Runs as machine
use Rattle.tau_core.specs.Opens.{Opened, nothing}
use Rattle.tau_core.specs.Pieces.{IsPieceOf, Paired}
use Rattle.tau_core.specs.State.{Plain}
use Rattle.tau_core.specs.View.{core_of, setting_of, worker_of}
use Rattle.tau_core.specs.declared.state.Load.{Load}
use Rattle.tau_occ.specs.declared.style.Style.{Style}
use Rattle.tau_run.specs.Run.{pair_of}
use Rattle.tau_rule.specs.Holders.{LeadHeld}
use Rattle.tau_rule.specs.Rule.{anchors_at}
use Rattle.tau_run.specs.Writers.{EachOf}
use Rattle.tau_crew_facts.specs.Writers.{BecameDurable, HasWritten}
use Rattle.tau_crew_facts.specs.Spacing.{IsSpacing}

-- ---- the state of the desk at its close

-- a call in hand has not committed and holds no key
abbrev pub IsLoose : Option Hand → Type 0
IsLoose None = Unit {0}
IsLoose (Some h) = (act_in (Some h) ≡ None) × (h.held ≡ [])

-- Events lead to this state from the core `first`, with which the desk was opened, and no stream was stopped; each worker that
-- was Busy by one of them had a cause; each outbox is at home.
pub record IsClosed (first : Plain) (style : Style) (c : Core) : Type 0 where
  pub opened : Opened first.load first
  pub events : List Event
  pub joined : List (Act Txn)
  pub run : machine.Run (setting_of first.load) (core_of first nothing) events joined c
  pub held : LeadHeld (setting_of first.load) style events (core_of first nothing) c joined
  pub going : (j : ℕ) → (c.streams j).stop ≡ None
  pub loose : (w : ℕ) → IsLoose (c.workers w).hand
  pub boxes : (w : ℕ) → w < first.load.workers → (pieces : List Piece) × Paired (IsPieceOf first.load (anchors_at c)) pieces (c.outboxes w).posted

-- The manager of stream j: the pieces that it has gathered, those of its own that wait, and its writer, w at the entry and w' now.
-- What it has stored last is the persisted position.
pub record ManagerEnds {D : Type 0} {G : Ghosts D} (l : Load) (c : Core) (j : ℕ) (base : List ℕ) (w w' : Writer D G) : Type 0 where
  pub taken : List Piece
  pub own : List Piece
  pub moved : Paired (IsPieceOf l (anchors_at c)) taken (c.streams j).moved
  pub posted : Paired (IsPieceOf l (anchors_at c)) own (c.streams j).posted
  pub ready : G.tells → IsReady (format_of l.mode) l.streams j w base
  pub written : HasWritten (format_of l.mode) l.streams j base taken (slice_index c.plv j) w w'

-- Each position that these events persist was just what was durable of its stream at some moment, and every image of the disk since then holds at least so much.
abbrev pub AreLasting : {D : Type 0} {G : Ghosts D} → Load → List Event → List (Writer D G) → Type 0
AreLasting {D} {G} l events ws' = (j upto : ℕ) → Member (Persist j upto) events → (w' : Writer D G) → slice_get ws' j ≡ Some w' → G.tells → BecameDurable G (format_of l.mode) l.streams j (disk_of w') upto

-- The clerk has told the calls of each worker in their order, and each with a vector that it had seen to be persisted.
pub record ClerkEnds (l : Load) (c : Core) (acks : List (ℕ × List ℕ)) : Type 0 where
  pub told : (w : ℕ) → w < l.workers → filter (λ (a : ℕ × List ℕ). worker_of l.workers a.0 == w) acks ≡ map pair_of (c.acked w)
  pub seen : List ℕ
  pub low : AtMost seen c.plv
  pub licensed : (a : ℕ × List ℕ) → Member a acks → AtMost a.1 seen

-- A run in threads from the core `first` on streams that had these bytes, at whatever end, out of memory too, as the desk leaves it:
-- no stream is stopped yet, and what was written is told by the pieces that the managers gathered. That this is a run, as tau_run
-- says it of the state with its stops (`CameTo`), is a law.
pub record IsThreadEnd {D : Type 0} {G : Ghosts D} (bases : ℕ → List ℕ) (first : Plain) (style : Style) (c : Core) (ws ws' : List (Writer D G)) (acks : List (ℕ × List ℕ)) : Type 0 where
  pub closed : IsClosed first style c
  pub count : length ws ≡ first.load.streams
  pub managers : EachOf (λ j w w'. ManagerEnds first.load c j (bases j) w w') ws ws'
  pub lasts : AreLasting first.load closed.events ws'
  pub clerk : ClerkEnds first.load c acks

-- ---- stops

-- whether the disk of this writer failed
abbrev pub failed_in : {D : Type 0} {G : Ghosts D} → Option (Writer D G) → Bool
failed_in None = false
failed_in (Some w) = has_failed w

-- where each stream is stopped: if its writer's disk failed, at what is persisted of it
abbrev pub stops_of : {D : Type 0} {G : Ghosts D} → List (Writer D G) → List ℕ → ℕ → Option ℕ
stops_of ws plv j = if failed_in (slice_get ws j) then Some (slice_index plv j) else None

-- the state of the desk with these stops
abbrev pub stopped_by : {D : Type 0} {G : Ghosts D} → List (Writer D G) → Core → Core
stopped_by ws c = record c { streams = λ j. record (c.streams j) { stop = stops_of ws c.plv j } }

-- ---- anchors

-- the managers have kept their distance, over the own components of their anchors, from the opening's end on
abbrev pub AreApart : (ℕ → List ℕ) → Load → Core → Type 0
AreApart bases l c = (j : ℕ) → j < l.streams → IsSpacing (slice_index l.opening.anchors.items j) (length (bases j)) (slice_index c.plv j) (map (λ (v : List ℕ). slice_index v j) (c.streams j).anchors)
