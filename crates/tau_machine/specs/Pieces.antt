-- What the streams hold, and which pieces of them are posted.
use Rattle.std.specs.Prelude.{ℕ, ◌+◌, ◌<◌, ◌≤◌, ◌≡◌, ◌⊎◌, Option, Some, None, List, [], ◌∷◌, ◌++◌, slice_index, slice_get}
use Rattle.std.specs.List.{filter}
use Rattle.tau_model.specs.History.{Act, Member, updates}
use Rattle.tau_model.specs.Reported.{in_stream}
use Rattle.tau_base.specs.Vectors.{AtMost}
use Rattle.tau_machine.specs.Hands.{Txn, Phase, Running, Quitting, Placed, Freeing, Hand}
use Rattle.tau_machine.specs.State.{Setting, Item, Record, Anchor, start_of, past_of, Core, hand_of}

-- items that touch end to start
abbrev pub Chain : ℕ → List Item → ℕ → Type 0
Chain from [] to = from ≡ to
Chain from (i ∷ is) to = (start_of i ≡ from) × (from < past_of i) × Chain (past_of i) is to

-- each starts where the ones before have ended, or later
abbrev pub Ascending : List Item → Type 0
Ascending [] = Unit {0}
Ascending (i ∷ is) = ((k : Item) → Member k is → past_of i ≤ start_of k) × Ascending is

abbrev pub records_in : List Item → List (Act Txn)
records_in [] = []
records_in (Record t ∷ is) = t ∷ records_in is
records_in (Anchor a b v ∷ is) = records_in is

abbrev pub anchors_in : List Item → List (List ℕ)
anchors_in [] = []
anchors_in (Record t ∷ is) = anchors_in is
anchors_in (Anchor a b v ∷ is) = v ∷ anchors_in is

-- a record names no anchor, or one that stands before it in its stream, by its number, and its dep covers that anchor
abbrev pub NamesOne : ℕ → List (List ℕ) → Txn → Type 0
NamesOne anchored before t = (t.anchor ≡ 0) ⊎ ((i : ℕ) × (a : List ℕ) × (t.anchor ≡ anchored + i + 1) × (slice_get before i ≡ Some a) × AtMost a t.place.dep)

-- each record does, where the stream was opened with so many anchors and these stand before the items
abbrev pub NameTheirs : ℕ → List (List ℕ) → List Item → Type 0
NameTheirs anchored before [] = Unit {0}
NameTheirs anchored before (Record t ∷ is) = NamesOne anchored before t.call × NameTheirs anchored before is
NameTheirs anchored before (Anchor a b v ∷ is) = NameTheirs anchored (before ++ v ∷ []) is

abbrev pub placed_of : Phase → Option (Act Txn)
placed_of Running = None
placed_of Quitting = None
placed_of (Placed t) = Some t
placed_of (Freeing t) = None

-- the call in this hand has its place and is not posted
abbrev pub placed_in : Option Hand → Option (Act Txn)
placed_in None = None
placed_in (Some h) = placed_of h.phase

abbrev pub records_of_stream : ℕ → List (Act Txn) → List (Act Txn)
records_of_stream j K = filter (in_stream (λ (t : Act Txn). t.call.place) (λ t. updates t.effect) j) K

module _ (set : Setting) where
  abbrev pub PostedAt : Core → ℕ → Item → Type 0
  PostedAt s j i = ((w : ℕ) × (set.stream_of w ≡ j) × Member i (s.outboxes w).posted) ⊎ Member i (s.streams j).posted

  abbrev pub Flying : Core → ℕ → Item → Type 0
  Flying s j i = (w : ℕ) × (set.stream_of w ≡ j) × ((t : Act Txn) × (i ≡ Record t) × (placed_in (hand_of s w) ≡ Some t))

  -- stream j: what was gathered, and after it what waits, which is posted or in flight
  pub record StreamGood (K : List (Act Txn)) (s : Core) (j : ℕ) : Type 0 where
    pub waiting : List Item
    pub moved : Chain (slice_index set.opening j) (s.streams j).moved (slice_index s.gathered j)
    pub rest : Chain (slice_index s.gathered j) waiting (slice_index s.ends j)
    pub records : records_in ((s.streams j).moved ++ waiting) ≡ records_of_stream j K
    pub anchors : anchors_in ((s.streams j).moved ++ waiting) ≡ (s.streams j).anchors
    pub named : NameTheirs (set.anchored j) [] ((s.streams j).moved ++ waiting)
    pub there : (i : Item) → Member i waiting → PostedAt s j i ⊎ Flying s j i
    pub posted : (i : Item) → PostedAt s j i → Member i waiting
    pub flying : (i : Item) → Flying s j i → Member i waiting

  pub record Pieces (K : List (Act Txn)) (s : Core) : Type 0 where
    pub stream : (j : ℕ) → j < set.width → StreamGood K s j
    pub whose : (w : ℕ) (i : Item) → Member i (s.outboxes w).posted → (t : Act Txn) × (i ≡ Record t) × (t.call.worker ≡ w)
    pub own : (j : ℕ) (i : Item) → Member i (s.streams j).posted → (a : ℕ) × (b : ℕ) × (v : List ℕ) × (i ≡ Anchor a b v)
    pub ascending : (w : ℕ) → Ascending (s.outboxes w).posted
    pub ascending_own : (j : ℕ) → Ascending (s.streams j).posted
    pub last : (w : ℕ) (t : Act Txn) (i : Item) → placed_in (hand_of s w) ≡ Some t → Member i (s.outboxes w).posted → past_of i ≤ t.call.place.start
    pub worker : (w : ℕ) (t : Act Txn) → placed_in (hand_of s w) ≡ Some t → t.call.worker ≡ w
