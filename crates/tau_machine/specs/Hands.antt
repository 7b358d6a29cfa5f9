-- Calls in the hands of workers.
use Rattle.std.specs.Prelude.{ℕ, Bool, true, false, if◌then◌else◌, ◌≡◌, Option, Some, None, List, [], ◌∷◌}
use Rattle.std.specs.Map.{lookup}
use Rattle.std.specs.FinMap.{put}
use Rattle.tau_base.specs.declared.value.Key.{Key}
use Rattle.tau_base.specs.declared.value.Value.{Value}
use Rattle.tau_base.specs.declared.value.Mode.{Mode}
use Rattle.tau_base.specs.Database.{Db, same_key, key_cmp}
use Rattle.tau_proc.specs.declared.proc.Proc.{Proc}
use Rattle.tau_proc.specs.Effect.{Effect}
use Rattle.tau_proc.specs.Meaning.{meaning}
use Rattle.tau_model.specs.declared.committed.Committed.{Committed}
use Rattle.tau_model.specs.declared.committed.Spot.{Spot}
use Rattle.tau_model.specs.History.{Numbered, Act, updates}
use Rattle.tau_model.specs.Logged.{Place, lv}

-- a call that has committed: whose it is, and what the log says of it
pub record Txn : Type 0 where
  pub call : Numbered
  pub worker : ℕ
  pub place : Place
  -- the number of the anchor that its record names, 0 for none
  pub anchor : ℕ

abbrev pub means : List Proc → Txn → Db → Effect
means procs t db = meaning procs t.call.call db

-- the vector of a committed call
abbrev pub lv_of : Act Txn → List ℕ
lv_of t = lv (updates t.effect) t.call.place

-- the place of a call without a record: its dep alone counts
abbrev pub unplaced_at : List ℕ → Place
unplaced_at dep = record { stream = 0; start = 0; past = 0; dep = dep }

-- a read-only call has no record
abbrev pub spot_of : Bool → Txn → Option Spot
spot_of true t = Some (record { stream = t.place.stream; start = t.place.start; past = t.place.past; anchor = t.anchor })
spot_of false t = None

-- what is kept of a committed call
abbrev pub committed_of : Act Txn → Committed
committed_of t = record { number = t.call.call.number; reply = t.effect.reply; dep = t.call.place.dep; lv = lv_of t; spot = spot_of (updates t.effect) t.call }

-- how far a call in hand has come; after its commit it is this act
pub data Phase : Type 0 where
  Running : Phase
  Quitting : Phase
  Placed : Act Txn → Phase
  Freeing : Act Txn → Phase

abbrev pub act_of : Phase → Option (Act Txn)
act_of Running = None
act_of Quitting = None
act_of (Placed t) = Some t
act_of (Freeing t) = Some t

-- a call in hand: how often it has met Busy, whether it is given up, its dep, the keys that it holds, ascending, and the values that it has seen, each key once
pub record Hand : Type 0 where
  pub call : Numbered
  pub tries : ℕ
  pub given_up : Bool
  pub phase : Phase
  pub dep : List ℕ
  pub held : List (Key × Mode)
  pub seen : List (Key × Value)

abbrev pub mode_of : Key → List (Key × Mode) → Option Mode
mode_of x held = lookup (same_key x) held

abbrev pub without : Key → List (Key × Mode) → List (Key × Mode)
without x [] = []
without x (e ∷ es) = if same_key x e.0 then without x es else e ∷ without x es

-- held keys ascend
abbrev pub hold : Key → Mode → List (Key × Mode) → List (Key × Mode)
hold x m held = put key_cmp x m held

-- the mode in which the call in this hand holds the key
abbrev pub held_in : Option Hand → Key → Option Mode
held_in None x = None
held_in (Some h) x = mode_of x h.held

-- the call in this hand is the committed t
abbrev pub act_in : Option Hand → Option (Act Txn)
act_in None = None
act_in (Some h) = act_of h.phase

-- the committed call t is in hand, and holds the key
pub record Holds (hand : ℕ → Option Hand) (t : Act Txn) (x : Key) : Type 0 where
  pub worker : ℕ
  pub mode : Mode
  pub act : act_in (hand worker) ≡ Some t
  pub held : held_in (hand worker) x ≡ Some mode
