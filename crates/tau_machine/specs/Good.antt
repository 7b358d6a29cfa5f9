-- The invariant, on what a state shows of keys, hands and ends.
use Rattle.std.specs.Prelude.{ℕ, ◌≤◌, ◌<◌, true, false, ◌≡◌, ◌⊎◌, Option, Some, List, length, map, slice_index}
use Rattle.tau_base.specs.declared.value.Key.{Key}
use Rattle.tau_base.specs.declared.value.Value.{Value}
use Rattle.tau_base.specs.declared.value.Mode.{Mode}
use Rattle.tau_base.specs.declared.value.Mode.TheVariants.{Read, Write}
use Rattle.tau_proc.specs.declared.proc.Proc.{Proc}
use Rattle.tau_base.specs.Database.{Db, written}
use Rattle.tau_proc.specs.Effect.{Effect, has_key, Agrees}
use Rattle.tau_model.specs.History.{Act, Member, Before, Depends, trace, updates, touches, redo}
use Rattle.tau_base.specs.Vectors.{AtMost}
use Rattle.tau_model.specs.Logged.{IsLogged}
use Rattle.tau_machine.specs.Sight.{Sight}
use Rattle.tau_machine.specs.Stage.{stage, reads_of, writes_of}
use Rattle.tau_machine.specs.Hands.{Txn, means, lv_of, Phase, Running, Quitting, Placed, Freeing, Hand, mode_of, held_in, Holds}

-- t is u or depends on it, and the record of u ends at this position of stream j
pub record Reaches (K : List (Act Txn)) (j position : ℕ) (t : Act Txn) : Type 0 where
  pub last : Act Txn
  pub up : updates last.effect ≡ true
  pub stream : last.call.place.stream ≡ j
  pub past : last.call.place.past ≡ position
  pub how : (t ≡ last) ⊎ Depends K t last

-- the same of a call on which t depends
pub record Behind (K : List (Act Txn)) (j position : ℕ) (t : Act Txn) : Type 0 where
  pub last : Act Txn
  pub up : updates last.effect ≡ true
  pub stream : last.call.place.stream ≡ j
  pub past : last.call.place.past ≡ position
  pub how : Depends K t last

abbrev pub Light : List (Act Txn) → List ℕ → List ℕ → Act Txn → Type 0
Light K plv v t = (j : ℕ) → slice_index plv j < slice_index v j → Behind K j (slice_index v j) t

-- some committed call for which this holds is the cause of component j
pub record Cause (K : List (Act Txn)) (j position : ℕ) (why : Act Txn → Type 0) : Type 0 where
  pub by : Act Txn
  pub there : Member by K
  pub because : why by
  pub reaches : Reaches K j position by

-- a call with this effect stands in the way of one that uses the key in this mode
abbrev pub Meets : Mode → Key → Effect → Type 0
Meets Read x e = has_key x e.writes ≡ true
Meets Write x e = touches x e ≡ true

-- some key that is held, and a committed call that conflicts with this use of it
pub record HandCause (K : List (Act Txn)) (j position : ℕ) (h : Hand) : Type 0 where
  pub key : Key
  pub mode : Mode
  pub held : mode_of key h.held ≡ Some mode
  pub cause : Cause K j position (λ t. Meets mode key t.effect)

module _ (procs : List Proc) (width : ℕ) where
  -- a key is held as the call uses it
  abbrev pub Used : Mode → Key → Hand → Type 0
  Used Read x h = has_key x (reads_of (stage procs h.call.call h.seen)) ≡ true
  Used Write x h = has_key x (writes_of (stage procs h.call.call h.seen)) ≡ true

  -- a call that runs
  pub record Runs (K : List (Act Txn)) (v : Sight) (h : Hand) : Type 0 where
    pub wide : width ≤ length h.dep
    pub below : AtMost h.dep v.ends
    pub agrees : Agrees h.seen v.row
    pub kept : (x : Key) → has_key x h.seen ≡ true → (m : Mode) × (mode_of x h.held ≡ Some m)
    pub write_lv : (x : Key) (m : Mode) → mode_of x h.held ≡ Some m → AtMost (v.write_lv x) h.dep
    pub read_lv : (x : Key) → mode_of x h.held ≡ Some Write → AtMost (v.read_lv x) h.dep
    pub used : (x : Key) (m : Mode) → mode_of x h.held ≡ Some m → Used m x h
    pub light : (j : ℕ) → slice_index v.plv j < slice_index h.dep j → HandCause K j (slice_index h.dep j) h

  -- a call that has committed
  pub record Joined (K : List (Act Txn)) (h : Hand) (w : ℕ) (t : Act Txn) : Type 0 where
    pub there : Member t K
    pub whose : t.call.worker ≡ w
    pub call : t.call.call ≡ h.call
    -- what it writes it holds in write mode
    pub modes : (x : Key) (m : Mode) → has_key x t.effect.writes ≡ true → mode_of x h.held ≡ Some m → m ≡ Write
    -- and holds no key that it does not touch
    pub touched : (x : Key) (m : Mode) → mode_of x h.held ≡ Some m → touches x t.effect ≡ true

  abbrev pub InPhase : List (Act Txn) → Sight → ℕ → Hand → Phase → Type 0
  InPhase K v w h Running = Runs K v h
  InPhase K v w h Quitting = Unit {0}
  InPhase K v w h (Placed t) = Joined K h w t
  InPhase K v w h (Freeing t) = Joined K h w t

-- the commit order: each call did what it means at its place; its places; what conflicts is ordered by vectors, which are light
pub record Order (procs : List Proc) (width : ℕ) (base : Db) (K : List (Act Txn)) (ends plv : List ℕ) : Type 0 where
  pub effects : trace (means procs) (map (λ (t : Act Txn). t.call) K) base ≡ K
  pub logged : IsLogged (λ (t : Txn). t.place) ends K
  pub pasts : (t : Act Txn) → Member t K → updates t.effect ≡ true → t.call.place.past ≤ slice_index ends t.call.place.stream
  pub light : (t : Act Txn) → Member t K → Light K plv t.call.place.dep t
  pub behind : AtMost plv ends
  pub count : length ends ≡ width

-- a key, its row and its vectors
pub record KeyGood (base : Db) (K : List (Act Txn)) (hand : ℕ → Option Hand) (ends plv : List ℕ) (x : Key) (row : Value) (write_lv read_lv : List ℕ) : Type 0 where
  pub below_write_lv : AtMost write_lv ends
  pub below_read_lv : AtMost read_lv ends
  -- who wrote it and does not hold it any more is covered, and who only read it
  pub wrote : (t : Act Txn) → Member t K → has_key x t.effect.writes ≡ true → Holds hand t x ⊎ AtMost (lv_of t) write_lv
  pub read : (t : Act Txn) → Member t K → has_key x t.effect.reads ≡ true → has_key x t.effect.writes ≡ false → Holds hand t x ⊎ AtMost (lv_of t) read_lv
  -- the row is the value of the commit order, unless a committed call holds it that wrote it
  pub freed : ((t : Act Txn) → Holds hand t x → has_key x t.effect.writes ≡ true → ⊥) → redo K base x ≡ row
  pub unfreed : (t : Act Txn) → Holds hand t x → has_key x t.effect.writes ≡ true → redo K base x ≡ written t.effect.writes base x
  -- who holds it and wrote it is the last that did; and the row is that of the last that wrote it and does not hold it any more
  pub last : (t : Act Txn) → Holds hand t x → has_key x t.effect.writes ≡ true → (u : Act Txn) → Before t u K → has_key x u.effect.writes ≡ true → ⊥
  pub row_of : (t : Act Txn) → Member t K → has_key x t.effect.writes ≡ true → (Holds hand t x → ⊥) →
      ((u : Act Txn) → Before t u K → has_key x u.effect.writes ≡ true → Holds hand u x) → row ≡ written t.effect.writes base x
  pub light_write_lv : (j : ℕ) → slice_index plv j < slice_index write_lv j → Cause K j (slice_index write_lv j) (λ t. has_key x t.effect.writes ≡ true)
  pub light_read_lv : (j : ℕ) → slice_index plv j < slice_index read_lv j → Cause K j (slice_index read_lv j) (λ t. touches x t.effect ≡ true)

pub record Good (procs : List Proc) (width : ℕ) (base : Db) (K : List (Act Txn)) (hand : ℕ → Option Hand) (v : Sight) : Type 0 where
  pub order : Order procs width base K v.ends v.plv
  pub hands : (w : ℕ) (h : Hand) → hand w ≡ Some h → InPhase procs width K v w h h.phase
  pub apart : (w u : ℕ) (x : Key) (m : Mode) → held_in (hand w) x ≡ Some Write → held_in (hand u) x ≡ Some m → w ≡ u
  pub keys : (x : Key) → KeyGood base K hand v.ends v.plv x (v.row x) (v.write_lv x) (v.read_lv x)
