-- The rule of the lock under which workers redo a log, and what each step tells.
use Rattle.std.specs.Prelude.{◌≡◌, ◌≢◌, ◌⊎◌, ℕ, zero, suc, ◌+◌, ◌<◌, List, [], ◌∷◌, ◌++◌, length, slice_get, Option, Some, None, Box}
use Rattle.std.specs.Global.{Global}
use mathlib.Core.Option.{some, none}
use lib.ListN.{get_elem?}
use Rattle.atomic_table.specs.Table.{State, Me, Step}
use Rattle.tau_pool.specs.declared.item.Job.{Job}
use Rattle.tau_scan.specs.declared.log.Log.{Log}
use Rattle.tau_replay.specs.declared.view.Part.{Part}
use Rattle.tau_replay.specs.declared.view.View.{View}
use Rattle.tau_replay.specs.declared.view.TheConstants.{HANDS}
use Rattle.tau_replay.specs.Sound.{AreWorking, no_log}

-- the number of a hand, and what it has in flight
abbrev pub Hand : Type 0
Hand = ℕ × Option Job

abbrev pub Boxed : Type 0
Boxed = Box Part Global

abbrev pub Slot : Type 0
Slot = Option Boxed

-- what each hand has in flight
abbrev pub hands_of : Boxed → List (Option Job)
hands_of b = b.value.replay.hands.items

-- the weights of the hands, added up
abbrev pub weigh : (ℕ → ℕ) → List Hand → ℕ
weigh h [] = 0
weigh h (x ∷ xs) = h x.0 + weigh h xs

-- f of each view, added up
abbrev pub total : (View → ℕ) → List View → ℕ
total f [] = 0
total f (v ∷ vs) = f v + total f vs

-- so many hands from this one on, which have nothing in flight
abbrev pub idle_from : ℕ → ℕ → List Hand
idle_from w zero = []
idle_from w (suc n) = (w, None) ∷ idle_from (suc w) n

-- all hands, which have nothing in flight
unfoldable pub all_idle : List Hand
all_idle = idle_from 0 HANDS

-- what these hands have in flight is what is said here
abbrev pub Names : List (Option Job) → List Hand → Type 0
Names hands [] = Unit {0}
Names hands (x ∷ xs) = (slice_get hands x.0 ≡ Some x.1) × Names hands xs

-- the part is at home, and no view holds it
pub record AtHome (b : Boxed) (s : State Slot View) : Type 0 where
  pub words : s.words ≡ 0 ∷ []
  pub homes : s.homes ≡ some (Some b) ∷ []
  pub free : (j : ℕ) (v : View) → get_elem? s.views j ≡ some v → v.held ≡ None

-- of the seat k the view holds what was in flight, and no other does
abbrev pub Holder : Boxed → ℕ → ℕ → View → Type 0
Holder b k j v = (j ≡ k → v.held ≡ Some (hands_of b)) × (j ≢ k → v.held ≡ None)

-- the part is out with the seat k
pub record IsOut (b : Boxed) (k : ℕ) (s : State Slot View) : Type 0 where
  pub word : ℕ
  pub up : word ≢ 0
  pub words : s.words ≡ word ∷ []
  pub homes : s.homes ≡ none ∷ []
  pub within : k < length s.views
  pub holder : (j : ℕ) (v : View) → get_elem? s.views j ≡ some v → Holder b k j v

-- a view with a hand names the log, and what its hands have in flight; one with none holds nothing
pub record Fits (log : Log) (hands : List (Option Job)) (v : View) : Type 0 where
  pub of_log : 0 < length v.hands → v.log ≡ log
  pub spent : length v.hands ≡ 0 → v.held ≡ None
  pub named : Names hands v.hands

-- What is under the lock, or was as a seat took it, is a recovery of the log: each job in a hand is in flight, none is in
-- two, and some list of turns led to what is finished. Each hand is in one view, which names what it has in flight. So
-- each job that a view names is in flight, and no two views name the same one.
pub record Kept (log : Log) (s : State Slot View) : Type 0 where
  pub now : Boxed
  pub sound : AreWorking log now.value.replay
  pub place : AtHome now s ⊎ ((k : ℕ) × IsOut now k s)
  pub each_once : (h : ℕ → ℕ) → total (λ v. weigh h v.hands) s.views ≡ weigh h all_idle
  pub fits : (j : ℕ) (v : View) → get_elem? s.views j ≡ some v → Fits log (hands_of now) v

abbrev pub view : Log → List Hand → Option (List (Option Job)) → View
view log hands held = record { log = log; hands = hands; held = held }

abbrev pub first_view : Log → View
first_view log = view log all_idle None

abbrev pub rest_of : List Hand → List Hand
rest_of [] = []
rest_of (x ∷ xs) = xs

abbrev pub front_of : List Hand → List Hand
front_of [] = []
front_of (x ∷ xs) = x ∷ []

-- the first hand goes to a seat of its own
abbrev pub without_first : View → View
without_first v = view v.log (rest_of v.hands) v.held

abbrev pub first_alone : View → View
first_alone v = view v.log (front_of v.hands) None

abbrev pub both : View → View → View
both v w = view v.log (v.hands ++ w.hands) v.held

abbrev pub spent : View
spent = view no_log [] None

abbrev pub holding : View → Boxed → View
holding v b = view v.log v.hands (Some (hands_of b))

-- what the hand has in flight, where it is one
abbrev pub in_hand : Option (Option Job) → Option Job
in_hand None = None
in_hand (Some o) = o

-- what each of these hands has in flight now
abbrev pub hands_now : List (Option Job) → List Hand → List Hand
hands_now hands [] = []
hands_now hands (x ∷ xs) = (x.0, in_hand (slice_get hands x.0)) ∷ hands_now hands xs

abbrev pub given : View → Boxed → View
given v b = view v.log (hands_now (hands_of b) v.hands) None

-- the hand is none of these
abbrev pub IsNoneOf : ℕ → List Hand → Type 0
IsNoneOf w [] = Unit {0}
IsNoneOf w (x ∷ xs) = (x.0 ≢ w) × IsNoneOf w xs

-- of each hand but these what is in flight stays
abbrev pub OthersStay : List Hand → List (Option Job) → List (Option Job) → Type 0
OthersStay xs old new = (w : ℕ) → IsNoneOf w xs → slice_get new w ≡ slice_get old w

-- the seat took these hands, and may give this part back
pub record MayGive (v : View) (b : Boxed) : Type 0 where
  pub some : 0 < length v.hands
  pub old : List (Option Job)
  pub held : v.held ≡ Some old
  pub others : OthersStay v.hands old (hands_of b)
  pub sound : AreWorking v.log b.value.replay

abbrev pub Sat : Type 0
Sat = Me Slot View

-- the seat has nothing, and a hand
abbrev pub IsIdle : Sat → Type 0
IsIdle m = (m.1 ≡ []) × (m.0.held ≡ None) × (0 < length m.0.hands)

-- the part that the seat has now is a recovery of the log, and of the seat's hands it has in flight what the view names
pub record Took (m m' : Sat) : Type 0 where
  pub part : Boxed
  pub now : m' ≡ (holding m.0 part, (0, Some part) ∷ [])
  pub sound : AreWorking m.0.log part.value.replay
  pub named : Names (hands_of part) m.0.hands

-- where the word was 0 the seat has the part, and else nothing changed
abbrev pub took : Step Slot → Sat → ℕ → Sat → Type 0
took st m n m' = (n ≡ 0 → Took m m') × (n ≢ 0 → m' ≡ m)

abbrev pub gave : Step Slot → Sat → ℕ → Sat → Type 0
gave st m n m' = (b : Boxed) → m.1 ≡ (0, Some b) ∷ [] → m' ≡ (given m.0 b, [])
