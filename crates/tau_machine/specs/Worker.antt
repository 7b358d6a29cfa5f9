-- One worker: what it does next, and what it is after that.
use Rattle.std.specs.Prelude.{ℕ, ◌+◌, ◌==◌, Bool, true, false, ◌||◌, if◌then◌else◌, Option, Some, None, List, [], ◌∷◌, ◌++◌, replicate}
use Rattle.tau_base.specs.declared.value.Key.{Key}
use Rattle.tau_base.specs.declared.value.Value.{Value}
use Rattle.tau_base.specs.declared.value.Mode.{Mode}
use Rattle.tau_base.specs.declared.value.Mode.TheVariants.{Read, Write}
use Rattle.tau_base.specs.declared.limits.TheConstants.{MAX_TRIES}
use Rattle.tau_model.specs.declared.committed.Committed.{Committed}
use Rattle.tau_model.specs.History.{Numbered}
use Rattle.tau_base.specs.Vectors.{join}
use Rattle.tau_machine.specs.Stage.{Stage, Wants, Ends}
use Rattle.tau_machine.specs.Hands.{Phase, Running, Quitting, Hand, mode_of, hold, without}

-- the calls that it has not begun, the call in hand, the calls left over, and those that have committed
pub record Worker : Type 0 where
  pub waiting : List Numbered
  pub hand : Option Hand
  pub left : List Numbered
  pub committed : List Committed

-- a call that begins, with so many Busy counted
abbrev pub fresh : ℕ → Numbered → ℕ → Hand
fresh width c tries = record { call = c; tries = tries; given_up = false; phase = Running; dep = replicate width 0; held = []; seen = [] }

-- a resting worker begins its next call
abbrev pub begun_by : ℕ → Worker → Option Hand → List Numbered → Worker
begun_by width wk (Some h) cs = wk
begun_by width wk None [] = wk
begun_by width wk None (c ∷ cs) = record wk { hand = Some (fresh width c 0); waiting = cs }

abbrev pub begun : ℕ → Worker → Worker
begun width wk = begun_by width wk wk.hand wk.waiting

-- the first written key that is not yet held in write mode
abbrev pub held_writing : Option Mode → Bool
held_writing None = false
held_writing (Some Read) = false
held_writing (Some Write) = true

abbrev pub unlocked : List (Key × Value) → List (Key × Mode) → Option Key
unlocked [] held = None
unlocked (w ∷ ws) held = if held_writing (mode_of w.0 held) then unlocked ws held else Some w.0

abbrev pub write_want : Option Key → Option (Key × Mode)
write_want None = None
write_want (Some x) = Some (x, Write)

-- the next lock of a call that runs
abbrev pub lock_of : Stage → List (Key × Mode) → Option (Key × Mode)
lock_of (Wants rs x) held = Some (x, Read)
lock_of (Ends e) held = write_want (unlocked e.writes held)

-- the hand after a lock of a key with this row and these vectors
abbrev pub hand_locked : Hand → Key → Mode → Value → List ℕ → List ℕ → Hand
hand_locked h x Read row write_lv read_lv = record h { dep = join h.dep write_lv; held = hold x Read h.held; seen = h.seen ++ (x, row) ∷ [] }
hand_locked h x Write row write_lv read_lv = record h { dep = join (join h.dep write_lv) read_lv; held = hold x Write h.held }

-- a call that is to quit: without keys it ends where it is given up, is left over after its last try, and else begins again
abbrev pub settled_by : ℕ → Worker → Hand → List (Key × Mode) → Bool → Bool → Worker
settled_by width wk h (k ∷ ks) up last = record wk { hand = Some h }
settled_by width wk h [] true last = record wk { hand = None }
settled_by width wk h [] false true = record wk { hand = None; left = wk.left ++ h.call ∷ [] }
settled_by width wk h [] false false = record wk { hand = Some (fresh width h.call h.tries) }

abbrev pub settled : ℕ → Worker → Hand → Worker
settled width wk h = settled_by width wk h h.held h.given_up (h.tries == MAX_TRIES)

abbrev pub hand_busy : Hand → Hand
hand_busy h = record h { tries = h.tries + 1; phase = Quitting }

abbrev pub hand_quit : Hand → Key → Bool → Hand
hand_quit h x up = record h { phase = Quitting; given_up = h.given_up || up; held = without x h.held }

-- the hand of a call that has committed
abbrev pub hand_joined : Hand → Phase → List ℕ → Hand
hand_joined h p dep = record h { phase = p; dep = dep }

abbrev pub hand_freed : Hand → Key → Hand
hand_freed h x = record h { held = without x h.held }
