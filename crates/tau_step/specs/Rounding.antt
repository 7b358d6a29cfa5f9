-- Rounds, calls left over, and the end of a run, as what was to do and what is left of it.
use Rattle.std.specs.Prelude.{ℕ, ◌≤◌, ◌≡◌, Bool, true, false, List, [], ◌∷◌, ◌++◌, map, Result, Ok, Err}
use Rattle.std.specs.List.{list_any}
use Rattle.tau_base.specs.declared.value.NoMemory.{NoMemory}
use Rattle.tau_occ.specs.declared.style.Style.{Style}
use Rattle.tau_text.specs.declared.load.Turn.{Turn}
use Rattle.tau_text.specs.declared.load.Turn.TheVariants as turn
use Rattle.tau_core.specs.declared.state.Load.{Load}
use Rattle.tau_core.specs.View.{setting_of}
use Rattle.tau_run.specs.Run.{below}
use Rattle.tau_run.specs.Turns.{Progress, Stays}
use Rattle.tau_step.specs.TurnParts.{Worked, Turned, ManagedPart, has_work}
use Rattle.tau_run.specs.Schedule.{Todo, Word, Rounds, LeftOver, Alone, Drain, peeked, has_turn, any_turn, Leaves, Began, todos_of}
use Rattle.tau_step.specs.Along.{Quiet, Silent}
use Rattle.tau_step.specs.Optimists.{Peeks, turned_in}
use Rattle.tau_step.specs.declared.manager.Managing.{Managing}
use Rattle.tau_step.specs.declared.manager.Managing.TheVariants as did

-- what was to do became this, in this style; f and f' are what the workers have peeked before it and after it
abbrev pub becomes : Style → Peeks → Peeks → List Todo → List Todo → Load → Progress → Progress → Type 0
becomes style f f' todos left l P P' = Leaves (setting_of l) l.workers l.streams style todos left (peeked P f) (peeked P' f')

-- and where it was out of memory, a part of what was to do was done
abbrev pub leaves : Style → Peeks → Peeks → List Todo → List Todo → Bool → Load → Progress → Progress → Type 0
leaves style f f' todos left true l P P' = becomes style f f' todos left l P P'
leaves style f f' todos left false l P P' = Began (setting_of l) l.workers l.streams style todos (peeked P f) (peeked P' f')

-- all of it was done
abbrev pub ran : Style → Peeks → Peeks → List Todo → Bool → Load → Progress → Progress → Type 0
ran style f f' todos whole l P P' = leaves style f f' todos [] whole l P P'

-- in either style, whatever is peeked, which stays
abbrev pub keeps : List Todo → List Todo → Bool → Load → Progress → Progress → Type 0
keeps todos left whole l P P' = (style : Style) (f : Peeks) → leaves style f f todos left whole l P P'

abbrev pub kept : List Todo → Bool → Load → Progress → Progress → Type 0
kept todos whole l P P' = keeps todos [] whole l P P'

abbrev pub none_peeked : Peeks
none_peeked = λ w. []

-- in either style, where nothing is peeked
abbrev pub rests : List Todo → List Todo → Bool → Load → Progress → Progress → Type 0
rests todos left whole l P P' = (style : Style) → leaves style none_peeked none_peeked todos left whole l P P'

-- the turns of these workers, and of these managers
abbrev pub of_workers : List ℕ → List Todo
of_workers ws = map (λ w. Word (turn.Worker w)) ws

abbrev pub of_managers : List ℕ → List Todo
of_managers js = map (λ j. Word (turn.Manager j)) js

-- who has something to do
abbrev pub turns_now : Load → Progress → Peeks → ℕ → Bool
turns_now l P f w = has_turn (setting_of l) l.workers l.streams (peeked P f) w

abbrev pub any_now : Load → Progress → Peeks → Bool
any_now l P f = any_turn (setting_of l) l.workers l.streams (peeked P f)

-- the first i workers have acted, and whether any of them had anything to do
pub record Rounded (style : Style) (f f' : Peeks) (i : ℕ) (any : Bool) (l : Load) (P P' : Progress) : Type 0 where
  pub turns : ran style f f' (of_workers (below i)) true l P P'
  pub any_is : any ≡ list_any (turns_now l P f) (below i)
  pub still : any ≡ false → peeked P' f' ≡ peeked P f
  pub later : (w : ℕ) → i ≤ w → turns_now l P' f' w ≡ turns_now l P f w
  pub quiet : Quiet P.state P'.state
  pub silent : Silent P P'

-- a part of that; where none of all had anything to do nothing happened
pub record RoundCut (style : Style) (f f' : Peeks) (l : Load) (P P' : Progress) : Type 0 where
  pub turns : ran style f f' (of_workers (below l.workers)) false l P P'
  pub still : any_now l P f ≡ false → peeked P' f' ≡ peeked P f
  pub quiet : Quiet P.state P'.state

-- the worker has acted alone, where nothing is peeked; the others are as they were
pub record ActedAlone (w : ℕ) (left : List Todo) (whole : Bool) (l : Load) (P P' : Progress) : Type 0 where
  pub turns : rests (Alone w ∷ []) left whole l P P'
  pub rests : left ≡ [] → whole ≡ true → has_work (setting_of l) l.workers l.streams P'.state w ≡ false
  pub others : (u : ℕ) → (u ≡ w → ⊥) → has_work (setting_of l) l.workers l.streams P'.state u ≡ has_work (setting_of l) l.workers l.streams P.state u
  pub apart : (u : ℕ) → (u ≡ w → ⊥) → P'.state.workers u ≡ P.state.workers u
  pub quiet : Quiet P.state P'.state
  pub silent : Silent P P'

pub record RanLeftOver (left : List Todo) (whole : Bool) (l : Load) (P P' : Progress) : Type 0 where
  pub turns : rests (LeftOver ∷ []) left whole l P P'
  pub quiet : Quiet P.state P'.state
  pub silent : Silent P P'

-- what one turn did, all of it or a part
abbrev pub turned : Turn → Bool → Load → Progress → Progress → Type 0
turned t whole l P P' = Turned (setting_of l) l.workers l.streams whole t P P'

abbrev pub managed : ℕ → Bool → Load → Progress → Progress → Type 0
managed j whole l P P' = ManagedPart (setting_of l) l.workers l.streams whole j P P'

-- the turn words
abbrev pub turned_all : Style → Peeks → Peeks → List Turn → Bool → Load → Progress → Progress → Type 0
turned_all style f f' ts whole l P P' = ran style f f' (map Word ts) whole l P P'

-- a round of the first managers, and of all
abbrev pub managed_below : ℕ → Bool → Load → Progress → Progress → Type 0
managed_below i whole l P P' = kept (of_managers (below i)) whole l P P'

abbrev pub all_managed : Bool → Load → Progress → Progress → Type 0
all_managed whole l P P' = managed_below l.streams whole l P P'

-- the managers and the clerk
abbrev pub rest_of_round : Bool → Load → Progress → Progress → Type 0
rest_of_round whole l P P' = kept (of_managers (below l.streams) ++ Word turn.Clerk ∷ []) whole l P P'

abbrev pub in_rounds : Style → Peeks → Peeks → Bool → Load → Progress → Progress → Type 0
in_rounds style f f' whole l P P' = ran style f f' (Rounds ∷ []) whole l P P'

abbrev pub acted_alone : ℕ → Bool → Load → Progress → Progress → Type 0
acted_alone w whole l P P' = ActedAlone w [] whole l P P'

abbrev pub ran_left_over : Bool → Load → Progress → Progress → Type 0
ran_left_over whole l P P' = RanLeftOver [] whole l P P'

abbrev pub idled : ℕ → Bool → Load → Progress → Progress → Type 0
idled j whole l P P' = kept (Drain j ∷ []) whole l P P'

abbrev pub idled_below : ℕ → Bool → Load → Progress → Progress → Type 0
idled_below i whole l P P' = kept (map Drain (below i)) whole l P P'

abbrev pub all_idled : Bool → Load → Progress → Progress → Type 0
all_idled whole l P P' = idled_below l.streams whole l P P'

-- the managers until they are idle, and the clerk
abbrev pub last_todos : Load → List Todo
last_todos l = map Drain (below l.streams) ++ Word turn.Clerk ∷ []

abbrev pub drained : Bool → Load → Progress → Progress → Type 0
drained whole l P P' = kept (last_todos l) whole l P P'

-- after the rounds: the calls left over, the managers and the clerk
abbrev pub ran_last : Bool → Load → Progress → Progress → Type 0
ran_last whole l P P' = rests (LeftOver ∷ last_todos l) [] whole l P P'

-- after the turn words: rounds, and the rest
abbrev pub ran_behind : Style → Peeks → Peeks → Bool → Load → Progress → Progress → Type 0
ran_behind style f f' whole l P P' = ran style f f' (Rounds ∷ LeftOver ∷ last_todos l) whole l P P'

-- all of it
abbrev pub ran_all : Style → Peeks → Peeks → List Turn → Bool → Load → Progress → Progress → Type 0
ran_all style f f' ts whole l P P' = ran style f f' (todos_of (setting_of l) l.workers l.streams ts) whole l P P'

-- by the results of those that do one step of a loop

-- the turn of a worker
abbrev pub worked_by : Style → Peeks → Peeks → ℕ → Result Bool NoMemory → Bool → Load → Progress → Progress → Type 0
worked_by style f f' w (Ok acted) whole l P P' = (acted ≡ turns_now l P f w) × turned_in style w f f' l P P'
worked_by style f f' w (Err e) whole l P P' = peeked P' f' ≡ peeked P f

-- the turn word of a worker
abbrev pub worker_turned : Style → Peeks → Peeks → ℕ → Bool → Load → Progress → Progress → Type 0
worker_turned style f f' w true l P P' = turned_in style w f f' l P P'
worker_turned style f f' w false l P P' = peeked P' f' ≡ peeked P f

-- the turn of one that acts alone
abbrev pub alone_by : ℕ → Result Bool NoMemory → Bool → Load → Progress → Progress → Type 0
alone_by w (Ok acted) whole l P P' = (acted ≡ has_work (setting_of l) l.workers l.streams P.state w) × Worked (setting_of l) l.workers l.streams w P P'
alone_by w (Err e) whole l P P' = Stays P P'

-- a round of workers
abbrev pub rounded_by : Style → Peeks → Peeks → Result Bool NoMemory → Bool → Load → Progress → Progress → Type 0
rounded_by style f f' (Ok any) whole l P P' = Rounded style f f' l.workers any l P P'
rounded_by style f f' (Err e) whole l P P' = RoundCut style f f' l P P'

-- a round
abbrev pub round_by : Style → Peeks → Peeks → Result Bool NoMemory → Bool → Load → Progress → Progress → Type 0
round_by style f f' (Ok true) whole l P P' = becomes style f f' (Rounds ∷ []) (Rounds ∷ []) l P P'
round_by style f f' (Ok false) whole l P P' = in_rounds style f f' true l P P'
round_by style f f' (Err e) whole l P P' = in_rounds style f f' false l P P'

-- a call that was left over
abbrev pub resumed_by : Result Bool NoMemory → Bool → Load → Progress → Progress → Type 0
resumed_by (Ok true) whole l P P' = RanLeftOver (LeftOver ∷ []) true l P P'
resumed_by (Ok false) whole l P P' = ran_left_over true l P P'
resumed_by (Err e) whole l P P' = ran_left_over false l P P'

-- the turn of a manager, which is idle after it if it flushed nothing
abbrev pub managed_by : ℕ → Result Managing NoMemory → Bool → Load → Progress → Progress → Type 0
managed_by j (Ok did.Flushed) whole l P P' = managed j true l P P' × keeps (Drain j ∷ []) (Drain j ∷ []) true l P P'
managed_by j (Ok other) whole l P P' = managed j true l P P' × idled j true l P P'
managed_by j (Err e) whole l P P' = managed j false l P P'

-- and whether it flushed anything
abbrev pub flushed_by : ℕ → Result Bool NoMemory → Bool → Load → Progress → Progress → Type 0
flushed_by j (Ok true) whole l P P' = keeps (Drain j ∷ []) (Drain j ∷ []) true l P P'
flushed_by j (Ok false) whole l P P' = idled j true l P P'
flushed_by j (Err e) whole l P P' = idled j false l P P'
