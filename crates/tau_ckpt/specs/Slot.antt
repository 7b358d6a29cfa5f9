-- What the image of a slot holds.
use Rattle.std.specs.Prelude.{◌≡◌, ◌≢◌, ℕ, ◌<◌, ◌≤◌, ◌^◌, true, List, [], ◌∷◌, ◌++◌, length, map}
use Rattle.std.specs.Int.{w16, w32, w64, to_be_bytes}
use Rattle.std.specs.List.{All, flat_map, list_all}
use Rattle.std.specs.List.Sorted.{IsStrictlySortedBy}
use Rattle.tau_base.specs.Database.{key_cmp}
use Rattle.tau_base.specs.declared.limits.TheConstants.{MAX_STREAMS}
use Rattle.tau_base.specs.declared.value.Key.{Key}
use Rattle.tau_base.specs.declared.value.Value.{Value}
use Rattle.tau_base.specs.declared.value.Value.TheVariants.{Absent}
use Rattle.tau_model.specs.Tables.{is_present}
use Rattle.tau_record.specs.Item.{write}
use Rattle.tau_record.specs.Rows.{AreRows}
use Rattle.tau_record.specs.Vector.{ArePlaces}
use Rattle.tau_ckpt.specs.declared.checkpoint.Checkpoint.{Checkpoint}
use Rattle.tau_ckpt.specs.declared.checkpoint.TheConstants.{MAX_NUMBER}
use Rattle.tau_ckpt.specs.declared.front.Head.{Head}

-- ---- the spelling

-- the text `TAURUS-CKP-1`
abbrev pub magic : List ℕ
magic = 84 ∷ 65 ∷ 85 ∷ 82 ∷ 85 ∷ 83 ∷ 45 ∷ 67 ∷ 75 ∷ 80 ∷ 45 ∷ 49 ∷ []

-- what stands in a slot between its gate and a body: for how many streams the checkpoint is, which slot it is, and
-- how many bytes the body has
unfoldable pub frame : ℕ → ℕ → ℕ → List ℕ
frame streams slot size = magic ++ (to_be_bytes w16 streams ++ (to_be_bytes w16 slot ++ to_be_bytes w64 size))

-- the fields of a body before its rows
unfoldable pub head_text : Head → List ℕ
head_text h = to_be_bytes w64 h.number ++ (to_be_bytes w32 h.epoch ++ (flat_map (to_be_bytes w64) h.lv ++ to_be_bytes w64 h.count))

abbrev pub head_of : Checkpoint → Head
head_of c = record { number = c.number; epoch = c.epoch; lv = c.lv; count = length c.rows }

-- the number, the epoch, the positions, the count of the rows, and the rows
abbrev pub body_text : Checkpoint → List ℕ
body_text c = head_text (head_of c) ++ flat_map write c.rows

-- a slot after its gate
abbrev pub slot_text : ℕ → Checkpoint → List ℕ
slot_text slot c = frame (length c.lv) slot (length (body_text c)) ++ body_text c

-- Each field has room for what it spells. The rows are present ones, in the order of their keys.
pub record FitsCheckpoint (c : Checkpoint) : Type 0 where
  pub low : 1 ≤ c.number
  pub high : c.number ≤ MAX_NUMBER
  pub epoch : c.epoch < 2 ^ 32
  pub some : 1 ≤ length c.lv
  pub few : length c.lv ≤ MAX_STREAMS
  pub places : ArePlaces c.lv
  pub are_rows : AreRows c.rows
  pub present : list_all is_present c.rows ≡ true
  pub short : length (body_text c) < 2 ^ 64

-- An image of the slot holds the checkpoint: its gate is open, and the spelling stands after it. What comes after the body
-- does not count.
pub record Holds (slot : ℕ) (image : List ℕ) (c : Checkpoint) : Type 0 where
  pub slot_is : slot ≤ 1
  pub fits : FitsCheckpoint c
  pub rest : List ℕ
  pub parts : image ≡ 1 ∷ (slot_text slot c ++ rest)

-- the image holds none
abbrev pub HoldsNone : ℕ → List ℕ → Type 0
HoldsNone slot image = (c : Checkpoint) → Holds slot image c → ⊥

-- ---- the parts of an image, as they are read

-- the image has an open gate, the frame of this slot for so many streams, this body, and what comes after it
pub record IsFramed (slot : ℕ) (image : List ℕ) (streams : ℕ) (body : List ℕ) : Type 0 where
  pub some : 1 ≤ streams
  pub few : streams ≤ MAX_STREAMS
  pub short : length body < 2 ^ 64
  pub rest : List ℕ
  pub parts : image ≡ 1 ∷ (frame streams slot (length body) ++ (body ++ rest))

-- the body of a checkpoint for so many streams
pub record IsBody (streams : ℕ) (body : List ℕ) (c : Checkpoint) : Type 0 where
  pub fits : FitsCheckpoint c
  pub width : length c.lv ≡ streams
  pub text : body ≡ body_text c

-- the bytes begin with so many positions, and this is left after them
pub record ArePositions (count : ℕ) (bytes lv rest : List ℕ) : Type 0 where
  pub width : length lv ≡ count
  pub places : ArePlaces lv
  pub parts : bytes ≡ flat_map (to_be_bytes w64) lv ++ rest

-- the body begins with these fields for so many streams, and this is left after them
pub record Begins (streams : ℕ) (body : List ℕ) (h : Head) (rest : List ℕ) : Type 0 where
  pub number : h.number < 2 ^ 64
  pub epoch : h.epoch < 2 ^ 32
  pub count : h.count < 2 ^ 64
  pub width : length h.lv ≡ streams
  pub places : ArePlaces h.lv
  pub parts : body ≡ head_text h ++ rest

-- ---- what is written

-- present rows in the order of their keys, as the tables of a database are
pub record AreTables (rows : List (Key × Value)) : Type 0 where
  pub ascending : IsStrictlySortedBy key_cmp (map (λ r. r.0) rows)
  pub present : All (λ r. r.1 ≢ Absent) rows
