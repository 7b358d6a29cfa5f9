-- Where the epochs stand of a log that runs and stops have left.
use Rattle.std.specs.Prelude.{ℕ, ◌≡◌, ◌≤◌, ◌<◌, ◌⊎◌, List, [], ◌∷◌, ◌++◌, length, Some, slice_get, slice_index}
use Rattle.tau_base.specs.Vectors.{AtMost}
use Rattle.tau_model.specs.History.{Member}
use Rattle.tau_record.specs.declared.entry.Entry.TheVariants.{Epoch}
use Rattle.tau_record.specs.declared.entry.Placed.{Placed}
use Rattle.tau_epoch.specs.Epochs.{Mark}
use Rattle.tau_scan.specs.Epochs.{marks_from}

-- where the last of these records ends, or this place if there is none
abbrev pub last_past : ℕ → List Placed → ℕ
last_past at [] = at
last_past at (p ∷ ps) = last_past p.past ps

-- Where this epoch found the end of stream l, that epoch or a later one stands, and found the same there: at once, or
-- after the catalogue if the stream held nothing.
pub record HasEpochThere (m : Mark) (l : ℕ) (ps : List Placed) : Type 0 where
  pub before : List Placed
  pub epoch : Placed
  pub after : List Placed
  pub parts : ps ≡ before ++ epoch ∷ after
  pub number : ℕ
  pub lv : List ℕ
  pub is : epoch.entry ≡ Epoch number lv
  pub later : m.number ≤ number
  pub found : slice_index lv l ≡ slice_index m.lv l
  pub at_once : (epoch.start ≡ slice_index m.lv l) ⊎ ((slice_index m.lv l ≡ 0) × (length before ≡ 1))

-- Of two epochs the later one found no stream shorter. Where an epoch found the end of a stream, the stream still ends, or
-- an epoch stands.
pub record AreMarked (streams : List (List Placed)) : Type 0 where
  pub rise : (a b : Mark) → Member a (marks_from streams) → Member b (marks_from streams) → a.number < b.number → AtMost a.lv b.lv
  pub next : (m : Mark) → Member m (marks_from streams) → (l : ℕ) (ps : List Placed) → slice_get streams l ≡ Some ps →
      (last_past 0 ps ≤ slice_index m.lv l) ⊎ HasEpochThere m l ps
