-- What a manager gathers.
use Rattle.std.specs.Prelude.{ℕ, None, min, ◌+◌, ◌-◌, ◌%◌, ◌≡◌, ◌≤◌, ◌⊎◌, Some, List, [], ◌++◌, length, slice_get, slice_index, slice_set}
use Rattle.tau_base.specs.declared.limits.TheConstants.{MAX_BODY}
use Rattle.tau_outbox.specs.declared.Piece.{Piece}
use Rattle.tau_outbox.specs.Pieces.{PlainOutbox, bytes_of}
use Rattle.tau_outbox.specs.Gather.{Continues, Stops}
use Rattle.tau_core.specs.declared.event.Phase.TheVariants.{Stopped}
use Rattle.tau_core.specs.declared.event.Outcome.{Outcome}
use Rattle.tau_core.specs.declared.event.Outcome.TheVariants as outcome
use Rattle.tau_core.specs.View.{stop_in}
use Rattle.tau_core.specs.Plain.{PlainSeat, PlainStream}
use Rattle.tau_core.specs.State.{Plain}
use Rattle.tau_core.specs.Anchors.{Reserves}

-- the front pieces that continue the position `next` are moved after the body, as long as it keeps within its limit
pub record Moves (next : ℕ) (before after : PlainOutbox) (body longer : List ℕ) : Type 0 where
  pub taken : List Piece
  pub front : before.pieces ≡ taken ++ after.pieces
  pub continues : Continues next taken
  pub bytes : longer ≡ body ++ bytes_of taken
  pub fits : (taken ≡ []) ⊎ (length longer ≤ MAX_BODY)
  pub stops : Stops (next + length (bytes_of taken)) (length longer) after.pieces
  pub room : before.room ≤ after.room

-- from the outbox of the manager
pub record MovesOwn (j : ℕ) (p p' : Plain) : Type 0 where
  pub stream : PlainStream
  pub own : PlainOutbox
  pub longer : List ℕ
  pub spare : ℕ
  pub is : slice_get p.streams j ≡ Some stream
  pub moves : Moves (slice_index p.gathered j) stream.own own stream.body longer
  pub spares : stream.room ≤ spare + length (bytes_of moves.taken)
  pub after : p' ≡ record p {
    streams = slice_set p.streams j (record stream { own = own; body = longer; room = spare });
    gathered = slice_set p.gathered j (slice_index p.gathered j + length (bytes_of moves.taken));
  }

-- from that of a worker
pub record MovesPosted (j w : ℕ) (p p' : Plain) : Type 0 where
  pub stream : PlainStream
  pub seat : PlainSeat
  pub outbox : PlainOutbox
  pub longer : List ℕ
  pub spare : ℕ
  pub is : slice_get p.streams j ≡ Some stream
  pub seat_is : slice_get p.seats w ≡ Some seat
  pub moves : Moves (slice_index p.gathered j) seat.outbox outbox stream.body longer
  pub spares : stream.room ≤ spare + length (bytes_of moves.taken)
  pub after : p' ≡ record p {
    streams = slice_set p.streams j (record stream { body = longer; room = spare });
    seats = slice_set p.seats w (record seat { outbox = outbox });
    gathered = slice_set p.gathered j (slice_index p.gathered j + length (bytes_of moves.taken));
  }

-- from one outbox of the stream after another, once room was made
pub data GathersOn (j : ℕ) : Plain → Plain → Type 0 where
  end_on : {p : Plain} → GathersOn j p p
  room_next : {p m p' : Plain} → Reserves j p m → GathersOn j m p' → GathersOn j p p'
  own_next : {p m p' : Plain} → MovesOwn j p m → GathersOn j m p' → GathersOn j p p'
  posted_next : {p m p' : Plain} (w : ℕ) → (w % p.load.streams ≡ j) → MovesPosted j w p m → GathersOn j m p' → GathersOn j p p'

-- the body has room for all that may be gathered
abbrev pub Roomy : ℕ → Plain → Type 0
Roomy j p = (s : PlainStream) → slice_get p.streams j ≡ Some s → min (MAX_BODY - length s.body) (slice_index p.ends j - slice_index p.gathered j) ≤ s.room

-- the front piece of this outbox does not start where the stream is gathered, or it is too long for the body
abbrev pub BoxWaits : ℕ → Plain → PlainOutbox → Type 0
BoxWaits j p o = (s : PlainStream) → slice_get p.streams j ≡ Some s → Stops (slice_index p.gathered j) (length s.body) o.pieces

-- nothing that is posted may be gathered: so it is of the manager's outbox, and of those of all the stream's workers
pub record AllGathered (j : ℕ) (p : Plain) : Type 0 where
  pub own : (s : PlainStream) → slice_get p.streams j ≡ Some s → BoxWaits j p s.own
  pub posted : (w : ℕ) (t : PlainSeat) → w % p.load.streams ≡ j → slice_get p.seats w ≡ Some t → BoxWaits j p t.outbox

-- a Gather: lack of memory, before anything is gathered, and a stop are its refusals
abbrev pub Gathered : Plain → ℕ → Outcome → Plain → Type 0
Gathered p j (outcome.Gathered upto) p' = (stop_in (slice_get p.streams j) ≡ None) × GathersOn j p p' × (upto ≡ slice_index p'.gathered j) × AllGathered j p'
Gathered p j outcome.NoMemory p' = (stop_in (slice_get p.streams j) ≡ None) × Reserves j p p'
Gathered p j (outcome.NotNow (Stopped at)) p' = (stop_in (slice_get p.streams j) ≡ Some at) × (p' ≡ p)
Gathered p j _ p' = ⊥
