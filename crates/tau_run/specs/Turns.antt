-- Runs by turns: what the turns of a run do.
use Rattle.std.specs.Prelude.{ℕ, ◌+◌, Some, ◌==◌, ◌≡◌, ◌⊎◌, ◌&&◌, not, nat_lt, Bool, true, false, is_some, is_none, List, [], ◌∷◌, ◌++◌, map, length, slice_index}
use Rattle.std.specs.List.{list_any}
use Rattle.tau_base.specs.declared.value.Key.{Key}
use Rattle.tau_base.specs.declared.value.Mode.{Mode}
use Rattle.tau_base.specs.Vectors.{covers}
use Rattle.tau_base.specs.declared.limits.TheConstants.{MAX_ANCHORS}
use Rattle.tau_model.specs.History.{Act, Member}
use Rattle.tau_base.specs.Database.{key_cmp}
use Rattle.std.specs.Ordering.{is_le}
use Rattle.tau_machine.specs.Hands.{Txn, mode_of}
use Rattle.tau_core.specs.Pieces.{newest_of}
use Rattle.tau_machine.specs.State.{Setting, Ticket, Core}
use Rattle.tau_machine.specs.Events.{Event, Lock, Busy, Quit, Commit, Post, Free, FirstFree, Done, DoneReading, Gather, PlaceAnchor, Persist, Ack, Stop, Leads}
use Rattle.tau_machine.specs.Waits.{IsGathered}
use Rattle.tau_text.specs.declared.load.Turn.{Turn}
use Rattle.tau_text.specs.declared.load.Turn.TheVariants as turn
use Rattle.tau_run.specs.Run.{below}

-- how far a run has come: the events and the commit order that led to its state, and what was acknowledged, as it was told
pub record Progress : Type 0 where
  pub state : Core
  pub events : List Event
  pub joined : List (Act Txn)
  pub told : List (ℕ × List ℕ)

abbrev pub begun : Core → Progress
begun opening = record { state = opening; events = []; joined = []; told = [] }

-- a turn in which nothing happens
abbrev pub Stays : Progress → Progress → Type 0
Stays p p' = p' ≡ p

-- the one where this is so, else the other
abbrev pub IfSo : Bool → Type 0 → Type 0 → Type 0
IfSo true A B = A
IfSo false A B = B

-- an event of the worker
abbrev pub IsOwn : ℕ → Event → Type 0
IsOwn w (Lock u) = u ≡ w
IsOwn w (Busy u) = u ≡ w
IsOwn w (Quit u up) = (u ≡ w) × (up ≡ false)
IsOwn w (Commit u) = u ≡ w
IsOwn w (Post u) = u ≡ w
IsOwn w (Free u) = u ≡ w
IsOwn w (FirstFree u) = u ≡ w
IsOwn w (Done u) = u ≡ w
IsOwn w (DoneReading u) = u ≡ w
IsOwn w _ = ⊥

abbrev pub is_empty : {A : Type 0} → List A → Bool
is_empty [] = true
is_empty (x ∷ xs) = false

-- m workers, n streams
module _ (set : Setting) (m n : ℕ) where
  -- a disk has failed
  abbrev pub is_raised : Core → Bool
  is_raised s = list_any (λ j. is_some (s.streams j).stop) (below n)

  -- the stream is there, and its disk has not failed
  abbrev pub is_going : Core → ℕ → Bool
  is_going s j = nat_lt j n && is_none (s.streams j).stop

  -- one event
  pub record Goes (e : Event) (p p' : Progress) : Type 0 where
    pub new : List (Act Txn)
    pub leads : Leads set e p.state p'.state new
    pub events : p'.events ≡ p.events ++ e ∷ []
    pub joined : p'.joined ≡ p.joined ++ new
    pub told : p'.told ≡ p.told

  -- the first pending call of the worker that is persisted is acknowledged
  pub record Tells (w : ℕ) (p p' : Progress) : Type 0 where
    pub front : List Ticket
    pub ticket : Ticket
    pub back : List Ticket
    pub is : (p.state.outboxes w).pending ≡ front ++ ticket ∷ back
    pub first : list_any (λ (k : Ticket). covers p.state.plv k.lv) front ≡ false
    pub covered : covers p.state.plv ticket.lv ≡ true
    pub leads : Leads set (Ack w p.state.plv) p.state p'.state []
    pub acked : p'.state.acked w ≡ p.state.acked w ++ ticket ∷ []
    pub events : p'.events ≡ p.events ++ Ack w p.state.plv ∷ []
    pub joined : p'.joined ≡ p.joined
    pub told : p'.told ≡ p.told ++ (ticket.number, ticket.lv) ∷ []

  -- a call that commits by it names the newest anchor of its stream
  abbrev pub NamesNewest : Event → Core → List (Act Txn) → Type 0
  NamesNewest (Commit w) s new = (t : Act Txn) → Member t new → t.call.anchor ≡ newest_of (set.anchored (set.stream_of w)) (s.streams (set.stream_of w)).anchors
  NamesNewest _ s new = Unit {0}

  -- a key that is given back is the lowest that the call holds
  abbrev pub QuitsLowest : (e : Event) (s s' : Core) (new : List (Act Txn)) → Leads set e s s' new → Type 0
  QuitsLowest (Quit w up) s s' new leads = (k : Key) (mode : Mode) → mode_of k leads.0.hand.held ≡ Some mode → is_le (key_cmp leads.0.key k) ≡ true
  QuitsLowest _ s s' new leads = Unit {0}

  -- all that continues the stream is gathered, as much as one block holds
  abbrev pub Gathers : ℕ → Progress → Progress → Type 0
  Gathers j p p' = Goes (Gather j) p p' × IsGathered set m j p'.state

  -- what was gathered is persisted where anything is new, unless the disk fails
  abbrev pub Flushed : ℕ → Progress → Progress → Type 0
  Flushed j p p' = IfSo (slice_index p.state.gathered j == slice_index p.state.plv j) (Stays p p')
      (Goes (Persist j (slice_index p.state.gathered j)) p p' ⊎ Goes (Stop j (slice_index p.state.plv j)) p p')

  -- an anchor of the stream that holds what is persisted
  abbrev pub Anchored : ℕ → Progress → Progress → Type 0
  Anchored j p p' = IfSo (is_going p.state j && nat_lt (set.anchored j + length (p.state.streams j).anchors) MAX_ANCHORS) (Goes (PlaceAnchor j p.state.plv) p p') (Stays p p')

  -- each worker, each manager and the clerk
  abbrev pub round : List Turn
  round = map turn.Worker (below m) ++ map turn.Manager (below n) ++ turn.Clerk ∷ []

  -- a call was left over
  abbrev pub any_left : Core → Bool
  any_left s = list_any (λ w. not (is_empty (s.workers w).left)) (below m)
