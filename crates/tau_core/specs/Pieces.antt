-- The bytes of records and anchors that are posted, and of what was gathered.
use Rattle.std.specs.Prelude.{ℕ, false, ◌+◌, ◌≡◌, ◌⊎◌, Some, List, [], ◌∷◌, ◌++◌, length, replicate, slice_get, slice_index}
use Rattle.tau_model.specs.History.{Act}
use Rattle.tau_machine.specs.Hands.{Txn}
use Rattle.tau_machine.specs.State.{Item, Record, Anchor, start_of, past_of}
use Rattle.tau_base.specs.Modes.{format_of}
use Rattle.tau_record.specs.Record.{base_of, Spells}
use Rattle.tau_record.specs.declared.entry.Entry.TheVariants as entry
use Rattle.tau_txn.specs.Record.{entry_of}
use Rattle.tau_outbox.specs.declared.Piece.{Piece}
use Rattle.tau_outbox.specs.Pieces as outbox
use Rattle.tau_core.specs.declared.state.Load.{Load}

-- the vector that an anchor's number names in this stream: 0 the zero vector, and after those that the stream was opened with the anchors of this run
abbrev pub Names : Load → ℕ → List (List ℕ) → ℕ → List ℕ → Type 0
Names l j anchors number base =
    ((number ≡ 0) × (base ≡ replicate l.streams 0)) ⊎ ((i : ℕ) × (number ≡ slice_index l.opening.anchors.items j + i + 1) × (slice_get anchors i ≡ Some base))

-- the number of the stream's newest anchor, where it was opened with so many and these are the anchors of this run; 0 where there are none of this run
abbrev pub newest_of : ℕ → List (List ℕ) → ℕ
newest_of before [] = 0
newest_of before (a ∷ rest) = before + length (a ∷ rest)

-- these are the bytes of the call's record, above the vector of the anchor that it names
pub record IsRecordOf (l : Load) (anchors : ℕ → List (List ℕ)) (t : Act Txn) (bytes : List ℕ) : Type 0 where
  pub base : List ℕ
  pub named : Names l t.call.place.stream (anchors t.call.place.stream) t.call.anchor base
  pub spelled : (vectors : List (List ℕ)) → base_of vectors t.call.anchor ≡ base → Spells (format_of l.mode) l.streams vectors false (entry_of l.mode t) bytes

abbrev pub AreBytesOf : Load → (ℕ → List (List ℕ)) → Item → List ℕ → Type 0
AreBytesOf l anchors (Record t) bytes = IsRecordOf l anchors t bytes
AreBytesOf l anchors (Anchor start past v) bytes = (vectors : List (List ℕ)) → Spells (format_of l.mode) l.streams vectors false (entry.Anchor v) bytes

-- the piece stands where the item does, and has its bytes
pub record IsPieceOf (l : Load) (anchors : ℕ → List (List ℕ)) (p : Piece) (i : Item) : Type 0 where
  pub start : p.start ≡ start_of i
  pub past : outbox.past_of p ≡ past_of i
  pub bytes : AreBytesOf l anchors i p.bytes

-- each of these belongs to the one at its place
abbrev pub Paired : {A B : Type 0} → (A → B → Type 0) → List A → List B → Type 0
Paired R [] [] = Unit {0}
Paired R [] (y ∷ ys) = ⊥
Paired R (x ∷ xs) [] = ⊥
Paired R (x ∷ xs) (y ∷ ys) = R x y × Paired R xs ys

-- these bytes are those of the items, one after another
abbrev pub Spelled : Load → (ℕ → List (List ℕ)) → List Item → List ℕ → Type 0
Spelled l anchors [] bytes = bytes ≡ []
Spelled l anchors (i ∷ is) bytes =
    (first : List ℕ) × (rest : List ℕ) × (bytes ≡ first ++ rest) × (start_of i + length first ≡ past_of i) × AreBytesOf l anchors i first × Spelled l anchors is rest
