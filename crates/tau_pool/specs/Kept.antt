-- What holds of the pools between two calls.
use Rattle.std.specs.Prelude.{ℕ, ◌≡◌, ◌≤◌, ◌<◌, Bool, true, List, [], length, take, drop, slice_get, slice_index, slice_index_or, Some}
use Rattle.tau_base.specs.declared.limits.TheConstants.{MAX_STREAMS}
use Rattle.tau_base.specs.Vectors.{AtMost}
use Rattle.tau_model.specs.History.{Member}
use Rattle.tau_pool.specs.Item.{Item}
use Rattle.tau_pool.specs.declared.waits.Wait.{Wait}
use Rattle.tau_pool.specs.Items.{is_waiting}
use Rattle.tau_pool.specs.First.{first_from, reach_one}
use Rattle.tau_pool.specs.Passing.{wait_of, Ordered, Rises}
use Rattle.tau_pool.specs.Pooled.{flying_in, waiting_in}

-- a record is within its stream, and taken
pub record IsWithin (ends : List ℕ) (x : Item) : Type 0 where
  pub stream : x.stream < length ends
  pub start : x.start ≤ slice_index ends x.stream
  pub taken : AtMost x.dep ends

abbrev pub AreWithin : List ℕ → List Item → Type 0
AreWithin ends items = (i : ℕ) (x : Item) → slice_get items i ≡ Some x → IsWithin ends x

abbrev pub waits_in : List (List Wait) → ℕ → List Wait
waits_in waits k = slice_index_or waits k []

abbrev pub AreRising : List (List Wait) → Type 0
AreRising waits = (k : ℕ) → k < length waits → Rises (waits_in waits k)

-- what is passed over is recovered, and each unstarted record that is covered is still to be met in some stream
pub record IsMet (rlv : List ℕ) (items : List Item) (waits : List (List Wait)) (passed : List ℕ) : Type 0 where
  pub upto : (k : ℕ) → k < length rlv → slice_index passed k ≤ length (waits_in waits k)
  pub met : (k : ℕ) (w : Wait) → k < length rlv → Member w (take (slice_index passed k) (waits_in waits k)) → w.at ≤ slice_index rlv k
  pub unmet : (i : ℕ) (x : Item) → slice_get items i ≡ Some x → is_waiting x.stage ≡ true → AtMost x.dep rlv →
      (k : ℕ) × (k < length rlv) × Member (wait_of k i x) (drop (slice_index passed k) (waits_in waits k))

-- for each stream the first record that is left, and how far it is recovered
pub record IsReached (ends rlv : List ℕ) (items : List Item) (nexts : List ℕ) : Type 0 where
  pub firsts : (j : ℕ) → j < length ends → slice_index nexts j ≡ first_from j 0 items
  pub reached : (j : ℕ) → j < length ends → slice_index rlv j ≡ reach_one j (slice_index ends j) (slice_get items (slice_index nexts j))

-- what waits for a stream stands there, in the order of what it waits for
pub record AreListed (ends rlv : List ℕ) (items : List Item) (waits : List (List Wait)) : Type 0 where
  pub rising : AreRising waits
  pub listed : (k i : ℕ) (x : Item) → k < length ends → slice_get items i ≡ Some x → slice_index rlv k < slice_index x.dep k → Member (wait_of k i x) (waits_in waits k)

-- the lists of what waits, and how many of each are passed over
pub record AreQueued (ends rlv : List ℕ) (items : List Item) (waits : List (List Wait)) (passed : List ℕ) : Type 0 where
  pub many : length waits ≡ length ends
  pub counts : length passed ≡ length ends
  pub listed : AreListed ends rlv items waits
  pub met : IsMet rlv items waits passed

pub record IsKept (ends rlv : List ℕ) (items : List Item) (waits : List (List Wait)) (nexts passed : List ℕ) (waiting flying : ℕ) (listed : Bool) : Type 0 where
  pub narrow : length ends ≤ MAX_STREAMS
  pub wide : length rlv ≡ length ends
  pub cursors : length nexts ≡ length ends
  pub ordered : Ordered items
  pub within : AreWithin ends items
  pub reached : IsReached ends rlv items nexts
  pub queued : listed ≡ true → AreQueued ends rlv items waits passed
  pub unstarted : waiting ≡ waiting_in items
  pub started : flying ≡ flying_in items
