-- How much is left of a worker: a number that falls with each event of its own.
use Rattle.std.specs.Prelude.{ℕ, zero, suc, ◌+◌, ◌-◌, ◌*◌, Bool, true, false, if◌then◌else◌, Option, Some, None, List, [], ◌∷◌, length}
use Rattle.std.specs.Map.{lookup}
use Rattle.tau_base.specs.declared.limits.TheConstants.{MAX_TRIES}
use Rattle.tau_base.specs.declared.value.Call.{Call}
use Rattle.tau_base.specs.declared.value.Key.{Key}
use Rattle.tau_base.specs.declared.value.Mode.{Mode}
use Rattle.tau_base.specs.declared.value.Value.{Value}
use Rattle.tau_base.specs.Database.{same_key}
use Rattle.tau_proc.specs.declared.proc.Proc.{Proc}
use Rattle.tau_proc.specs.declared.step.Step.{Step}
use Rattle.tau_proc.specs.Meaning.{Running, Action, Go, Ask, Refuse, action, set_register, begun, Built, Puts, Adds, Gets, Wrong, built_in, proc_of}
use Rattle.tau_model.specs.History.{Numbered}
use Rattle.tau_machine.specs.Stage.{Stage, Wants, Ends, stage}
use Rattle.tau_machine.specs.Hands as hands
use Rattle.tau_machine.specs.Hands.{Phase, Quitting, Placed, Freeing, Hand, mode_of}
use Rattle.tau_machine.specs.Worker.{Worker, held_writing}

-- the steps after the next row that is wanted, and it, of a call that has seen these values

abbrev pub looked_left : Option Value → Running → ℕ → ℕ → (Running → ℕ) → ℕ
looked_left None r into count rest = suc count
looked_left (Some v) r into count rest = rest (set_register r into v)

abbrev pub action_left : Action → Running → List (Key × Value) → ℕ → (Running → ℕ) → ℕ
action_left (Go next) r seen count rest = rest next
action_left (Ask key into) r seen count rest = looked_left (lookup (same_key key) seen) r into count rest
action_left Refuse r seen count rest = 0

unfoldable pub steps_left : List Value → List Step → Running → List (Key × Value) → ℕ
steps_left args [] r seen = 0
steps_left args (s ∷ ss) r seen = action_left (action args r s) r seen (length ss) (λ next. steps_left args ss next seen)

abbrev pub steps_in : Option Proc → Call → List (Key × Value) → ℕ
steps_in None c seen = 0
steps_in (Some p) c seen = steps_left c.args.items p.steps begun seen

abbrev pub seen_left : Option Value → ℕ
seen_left None = 1
seen_left (Some v) = 0

abbrev pub built_left : Built → List (Key × Value) → ℕ
built_left (Puts key v) seen = 0
built_left (Adds key n) seen = seen_left (lookup (same_key key) seen)
built_left (Gets key) seen = seen_left (lookup (same_key key) seen)
built_left Wrong seen = 0

abbrev pub reads_by : Option Built → Option Proc → Call → List (Key × Value) → ℕ
reads_by (Some b) p c seen = built_left b seen
reads_by None p c seen = steps_in p c seen

-- how many steps a call has, at most
abbrev pub size_by : Option Built → Option Proc → ℕ
size_by (Some b) p = 1
size_by None None = 0
size_by None (Some p) = length p.steps

-- the writes that are not held in write mode
abbrev pub not_held : List (Key × Value) → List (Key × Mode) → ℕ
not_held [] held = 0
not_held (w ∷ ws) held = (if held_writing (mode_of w.0 held) then 0 else 1) + not_held ws held

abbrev pub writes_left : ℕ → Stage → List (Key × Mode) → ℕ
writes_left size (Wants rs k) held = size
writes_left size (Ends e) held = not_held e.writes held

-- so many times
abbrev pub times : ℕ → ℕ → ℕ
times zero cost = 0
times (suc k) cost = cost + times k cost

abbrev pub sum_below : (ℕ → ℕ) → ℕ → ℕ
sum_below f zero = 0
sum_below f (suc n) = sum_below f n + f n

module _ (procs : List Proc) where
  abbrev pub reads_left : Call → List (Key × Value) → ℕ
  reads_left c seen = reads_by (built_in c) (proc_of procs c) c seen

  abbrev pub size_of : Call → ℕ
  size_of c = size_by (built_in c) (proc_of procs c)

  -- the locks that a call may still take
  abbrev pub locks_left : Call → List (Key × Value) → List (Key × Mode) → ℕ
  locks_left c seen held = reads_left c seen + writes_left (size_of c) (stage procs c seen) held

  -- all of a call that begins, in one try
  abbrev pub try_left : Call → ℕ
  try_left c = 4 * size_of c + 3

  abbrev pub up_left : Call → Bool → ℕ
  up_left c true = try_left c
  up_left c false = 0

  abbrev pub phase_left : Call → List (Key × Value) → List (Key × Mode) → Bool → Phase → ℕ
  phase_left c seen held up hands.Running = 2 * locks_left c seen held + length held + 3 + up_left c up
  phase_left c seen held up Quitting = length held + 1 + try_left c
  phase_left c seen held up (Placed t) = length held + 2
  phase_left c seen held up (Freeing t) = length held + 1

  abbrev pub hand_left : Hand → ℕ
  hand_left h = times (MAX_TRIES - h.tries) (try_left h.call.call + 5) + phase_left h.call.call h.seen h.held h.given_up h.phase

  abbrev pub hand_in_left : Option Hand → ℕ
  hand_in_left None = 0
  hand_in_left (Some h) = hand_left h

  abbrev pub calls_left : List Numbered → ℕ
  calls_left [] = 0
  calls_left (c ∷ cs) = (try_left c.call + 5) + times MAX_TRIES (try_left c.call + 5) + calls_left cs

  abbrev pub worker_left : Worker → ℕ
  worker_left wk = calls_left wk.waiting + hand_in_left wk.hand
