-- What a run leaves of its streams, apart from the types of its disks.
use Rattle.std.specs.Prelude.{ℕ, ◌<◌, ◌≡◌, ◌⊎◌, Option, Some, None, List, [], ◌++◌, take, slice_index}
use Rattle.std.specs.List.{filter}
use Rattle.tau_base.specs.Modes.{format_of}
use Rattle.tau_base.specs.Vectors.{covers}
use Rattle.tau_block.specs.Image.{HasContent}
use Rattle.tau_machine.specs.State.{Ticket, Core}
use Rattle.tau_core.specs.declared.state.Load.{Load}
use Rattle.tau_core.specs.Pieces.{Spelled}

-- the image has what the stream held first, and after it the bytes of the first of the items that were gathered
pub record HasFront (n j : ℕ) (first : List ℕ) (l : Load) (s : Core) (bytes image : List ℕ) : Type 0 where
  pub count : ℕ
  pub spelled : Spelled l (λ i. (s.streams i).anchors) (take count (s.streams j).moved) bytes
  pub has : HasContent (format_of l.mode) n j (first ++ bytes) image

-- and such a front of some bytes
abbrev pub HasSomeFront : ℕ → ℕ → List ℕ → Load → Core → List ℕ → Type 0
HasSomeFront n j first l s image = (bytes : List ℕ) × HasFront n j first l s bytes image

-- the image has what was there, or such a front
abbrev pub IsLeft : ℕ → ℕ → List ℕ → List ℕ → Load → Core → List ℕ → Type 0
IsLeft n j old first l s image = HasContent (format_of l.mode) n j old image ⊎ HasSomeFront n j first l s image

-- At the end of a run: no call is in hand; what was placed in a stream is persisted, unless its disk failed; what is
-- persisted is acknowledged; and where no disk failed no call is left.
pub record IsOver (n : ℕ) (s : Core) : Type 0 where
  pub rests : (w : ℕ) → (s.workers w).hand ≡ None
  pub persisted : (j : ℕ) → j < n → (s.streams j).stop ≡ None → slice_index s.plv j ≡ slice_index s.ends j
  pub told : (w : ℕ) → filter (λ (k : Ticket). covers s.plv k.lv) (s.outboxes w).pending ≡ []
  pub done : ((j : ℕ) → j < n → (s.streams j).stop ≡ None) → (w : ℕ) → ((s.workers w).waiting ≡ []) × ((s.workers w).left ≡ [])

-- where each stream of the state was stopped
abbrev pub stops_in : Core → ℕ → Option ℕ
stops_in s j = (s.streams j).stop

-- this is the lowest of n streams that was stopped, and none if none was
abbrev pub NamesLowest : ℕ → (ℕ → Option ℕ) → Option ℕ → Type 0
NamesLowest n stops None = (j : ℕ) → j < n → stops j ≡ None
NamesLowest n stops (Some j) = (j < n) × ((at : ℕ) × (stops j ≡ Some at)) × ((i : ℕ) → i < j → stops i ≡ None)
