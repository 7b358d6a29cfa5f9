-- What a manager does to place an anchor.
use Rattle.std.specs.Prelude.{ℕ, ◌+◌, ◌<◌, ◌≡◌, None, Some, false, List, [], ◌∷◌, ◌++◌, length, slice_get, slice_index, slice_set}
use Rattle.tau_base.specs.declared.limits.TheConstants.{MAX_ANCHORS}
use Rattle.tau_base.specs.Modes.{format_of}
use Rattle.tau_record.specs.Record.{Spells}
use Rattle.tau_record.specs.declared.entry.Entry.TheVariants as entry
use Rattle.tau_outbox.specs.Pieces.{PlainOutbox}
use Rattle.tau_core.specs.declared.event.Phase.TheVariants.{Stopped}
use Rattle.tau_core.specs.declared.event.Outcome.{Outcome}
use Rattle.tau_core.specs.declared.event.Outcome.TheVariants.{Placed, NotNow, NoMemory}
use Rattle.tau_core.specs.Plain.{PlainStream}
use Rattle.tau_core.specs.State.{Plain}
use Rattle.tau_core.specs.View.{stop_in}

-- an anchor that holds the persisted positions is placed at the end of the stream and posted
pub record Anchors (j : ℕ) (p p' : Plain) : Type 0 where
  pub stream : PlainStream
  pub own : PlainOutbox
  pub bytes : List ℕ
  pub is : slice_get p.streams j ≡ Some stream
  pub pieces : own.pieces ≡ stream.own.pieces ++ record { start = slice_index p.ends j; bytes = bytes } ∷ []
  pub few : slice_index p.load.opening.anchors.items j + length stream.anchors < MAX_ANCHORS
  pub spelled : (vectors : List (List ℕ)) → Spells (format_of p.load.mode) (length p.plv) vectors false (entry.Anchor p.plv) bytes
  pub after : p' ≡ record p {
    streams = slice_set p.streams j (record stream { own = own; anchors = stream.anchors ++ p.plv ∷ [] });
    ends = slice_set p.ends j (slice_index p.ends j + length bytes);
  }

-- room was made in the manager's outbox or in the body, and nothing else
pub record Reserves (j : ℕ) (p p' : Plain) : Type 0 where
  pub stream : PlainStream
  pub own : PlainOutbox
  pub room : ℕ
  pub is : slice_get p.streams j ≡ Some stream
  pub pieces : own.pieces ≡ stream.own.pieces
  pub after : p' ≡ record p { streams = slice_set p.streams j (record stream { own = own; room = room }) }

abbrev pub Anchored : Plain → ℕ → Outcome → Plain → Type 0
Anchored p j (Placed start) p' = (stop_in (slice_get p.streams j) ≡ None) × Anchors j p p' × (start ≡ slice_index p.ends j)
Anchored p j NoMemory p' = (stop_in (slice_get p.streams j) ≡ None) × Reserves j p p'
Anchored p j (NotNow (Stopped at)) p' = (stop_in (slice_get p.streams j) ≡ Some at) × (p' ≡ p)
Anchored p j _ p' = ⊥
