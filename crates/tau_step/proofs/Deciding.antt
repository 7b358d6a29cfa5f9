-- When a worker has something to do.
use Rattle.std.proofs.Common.{ℕ, ◌<◌, ◌≡◌, Bool, true, false, List, [], ◌∷◌, refl, sym, ap, subst, ◌∙◌, Option, lt-ltb}
use Rattle.std.specs.Prelude.{Some, None, is_some, ◌&&◌, ◌||◌, not, nat_lt}
use Rattle.tau_base.specs.declared.value.Key.{Key}
use Rattle.tau_base.specs.declared.value.Mode.{Mode}
use Rattle.tau_proc.specs.declared.proc.Proc.{Proc}
use Rattle.tau_model.specs.History.{Numbered, updating}
use Rattle.tau_machine.specs.Hands as machine
use Rattle.tau_machine.specs.Hands.{Hand}
use Rattle.tau_machine.specs.Stage.{Stage, Wants, Ends, stage}
use Rattle.tau_machine.specs.Worker.{Worker, lock_of, begun, begun_by}
use Rattle.tau_machine.specs.State.{Setting, Core}
use Rattle.tau_core.specs.declared.event.Phase.{Phase}
use Rattle.tau_core.specs.declared.event.Phase.TheVariants.{Resting, Locking, Quitting, Ready, Placed, Freeing, Ended, Short, Stopped}
use Rattle.tau_core.specs.Phases.{hand_phase, phase_by, running_phase, finished_phase, freeing_phase}
use Rattle.tau_core.proofs.PhaseLaws.{fresh_phase}
use Rattle.tau_run.specs.Turns.{IfSo, is_raised, is_empty}
use Rattle.tau_step.specs.TurnParts.{has_work}

-- the one or the other
pub if_so : (b : Bool) (A B : Type 0) → b ≡ true → A → IfSo b A B
if_so b A B e a = subst (λ (x : Bool). IfSo x A B) (sym e) a

pub if_not : (b : Bool) (A B : Type 0) → b ≡ false → B → IfSo b A B
if_not b A B e a = subst (λ (x : Bool). IfSo x A B) (sym e) a

freeing_acts : (held : List (Key × Mode)) → freeing_phase held ≡ Resting → ⊥
freeing_acts [] e = cc
freeing_acts (k ∷ ks) e = cc

finished_acts : (b : Bool) (held : List (Key × Mode)) → finished_phase b held ≡ Resting → ⊥
finished_acts true held e = cc
finished_acts false held e = freeing_acts held e

running_acts : (o : Option (Key × Mode)) (s : Stage) (held : List (Key × Mode)) → running_phase o s held ≡ Resting → ⊥
running_acts (Some l) s held e = cc
running_acts None (Wants rs k) held e = cc
running_acts None (Ends f) held e = finished_acts (updating f.writes) held e

hand_acts : (procs : List Proc) (h : Hand) (m : machine.Phase) → phase_by procs h m ≡ Resting → ⊥
hand_acts procs h machine.Running e = running_acts (lock_of (stage procs h.call.call h.seen) h.held) (stage procs h.call.call h.seen) h.held e
hand_acts procs h machine.Quitting e = cc
hand_acts procs h (machine.Placed t) e = cc
hand_acts procs h (machine.Freeing t) e = freeing_acts h.held e

-- a phase in which a worker can be
abbrev of_worker : Phase → Bool
of_worker Resting = true
of_worker Locking = true
of_worker Quitting = true
of_worker Ready = true
of_worker Placed = true
of_worker Freeing = true
of_worker Ended = true
of_worker (Short at) = false
of_worker (Stopped at) = false

freeing_of : (held : List (Key × Mode)) → of_worker (freeing_phase held) ≡ true
freeing_of [] = refl
freeing_of (k ∷ ks) = refl

finished_of : (b : Bool) (held : List (Key × Mode)) → of_worker (finished_phase b held) ≡ true
finished_of true held = refl
finished_of false held = freeing_of held

running_of : (o : Option (Key × Mode)) (s : Stage) (held : List (Key × Mode)) → of_worker (running_phase o s held) ≡ true
running_of (Some l) s held = refl
running_of None (Wants rs k) held = refl
running_of None (Ends f) held = finished_of (updating f.writes) held

hand_of : (procs : List Proc) (h : Hand) (m : machine.Phase) → of_worker (phase_by procs h m) ≡ true
hand_of procs h machine.Running = running_of (lock_of (stage procs h.call.call h.seen) h.held) (stage procs h.call.call h.seen) h.held
hand_of procs h machine.Quitting = refl
hand_of procs h (machine.Placed t) = refl
hand_of procs h (machine.Freeing t) = freeing_of h.held

is_of : (procs : List Proc) (o : Option Hand) → of_worker (hand_phase procs o) ≡ true
is_of procs None = refl
is_of procs (Some h) = hand_of procs h h.phase

pub never_short : (procs : List Proc) (o : Option Hand) (at : ℕ) → hand_phase procs o ≡ Short at → ⊥
never_short procs o at e = let bad : true ≡ false = sym (is_of procs o) ∙ ap of_worker e in cc

pub never_stopped : (procs : List Proc) (o : Option Hand) (at : ℕ) → hand_phase procs o ≡ Stopped at → ⊥
never_stopped procs o at e = let bad : true ≡ false = sym (is_of procs o) ∙ ap of_worker e in cc

-- a worker that rests has no call in hand
pub rests_empty : (procs : List Proc) (o : Option Hand) → hand_phase procs o ≡ Resting → o ≡ None
rests_empty procs None e = refl
rests_empty procs (Some h) e = absurd (hand_acts procs h h.phase e)

-- and one that does not has one
pub acts_held : (procs : List Proc) (o : Option Hand) (phase : Phase) → hand_phase procs o ≡ phase → (Resting ≡ phase → ⊥) → is_some o ≡ true
acts_held procs None phase e acts = absurd (acts e)
acts_held procs (Some h) phase e acts = refl

-- a worker with a call in hand is ready as it is
ready_held : (width : ℕ) (wk : Worker) (o : Option Hand) (cs : List Numbered) → is_some o ≡ true → begun_by width wk o cs ≡ wk
ready_held width wk None cs e = absurd (let bad : false ≡ true = e in cc)
ready_held width wk (Some h) cs e = refl

-- so its phase is not elsewhere
pub not_elsewhere : (procs : List Proc) (width : ℕ) (wk : Worker) (phase : Phase) → hand_phase procs wk.hand ≡ phase → (Resting ≡ phase → ⊥) → (hand_phase procs (begun width wk).hand ≡ phase → ⊥) → ⊥
not_elsewhere procs width wk phase e acts elsewhere =
    elsewhere (ap (λ (k : Worker). hand_phase procs k.hand) (ready_held width wk wk.hand wk.waiting (acts_held procs wk.hand phase e acts)) ∙ e)

pub none_some : {A : Type 0} (x : A) → None ≡ Some x → ⊥
none_some x e = cc

waits_by : (width : ℕ) (wk : Worker) (o : Option Hand) (cs : List Numbered) (hand : Hand) → o ≡ None → wk.hand ≡ None → (begun_by width wk o cs).hand ≡ Some hand → is_empty cs ≡ false
waits_by width wk (Some h) cs hand e none b = absurd (none_some h (sym e))
waits_by width wk None [] hand e none b = absurd (none_some hand (sym none ∙ b))
waits_by width wk None (c ∷ cs) hand e none b = refl

-- a worker without a call in hand that can begin one has one that waits
pub waits : (width : ℕ) (wk : Worker) (hand : Hand) → wk.hand ≡ None → (begun width wk).hand ≡ Some hand → is_empty wk.waiting ≡ false
waits width wk hand none b = waits_by width wk wk.hand wk.waiting hand none none b

idle_by : (procs : List Proc) (width : ℕ) (wk : Worker) (o : Option Hand) (cs : List Numbered) → o ≡ None → (hand_phase procs (begun_by width wk o cs).hand ≡ Locking → ⊥) → (hand_phase procs (begun_by width wk o cs).hand ≡ Ended → ⊥) → is_empty cs ≡ true
idle_by procs width wk (Some h) cs e locking ended = absurd (none_some h (sym e))
idle_by procs width wk None [] e locking ended = refl
idle_by procs width wk None (c ∷ cs) e locking ended =
    absurd (fresh_phase procs width c (hand_phase procs (begun_by width wk None (c ∷ cs)).hand) (λ q. locking (sym q)) (λ q. ended (sym q)) refl)

-- and one that can begin with no lock and not with its end has none
pub idle : (procs : List Proc) (width : ℕ) (wk : Worker) → wk.hand ≡ None → (hand_phase procs (begun width wk).hand ≡ Locking → ⊥) → (hand_phase procs (begun width wk).hand ≡ Ended → ⊥) → is_empty wk.waiting ≡ true
idle procs width wk none locking ended = idle_by procs width wk wk.hand wk.waiting none locking ended

held_works : (a b c : Bool) → a ≡ true → b ≡ true → (a && (b || c)) ≡ true
held_works false b c e f = e
held_works true false c e f = absurd (let bad : false ≡ true = f in cc)
held_works true true c e f = refl

waiting_works : (a b r k : Bool) → a ≡ true → r ≡ false → k ≡ false → (a && (b || (not r && not k))) ≡ true
waiting_works false b r k e f g = e
waiting_works true true r k e f g = refl
waiting_works true false true k e f g = absurd (let bad : true ≡ false = f in cc)
waiting_works true false false true e f g = absurd (let bad : true ≡ false = g in cc)
waiting_works true false false false e f g = refl

raised_rests : (a b r k : Bool) → b ≡ false → r ≡ true → (a && (b || (not r && not k))) ≡ false
raised_rests false b r k e f = refl
raised_rests true true r k e f = e
raised_rests true false false k e f = absurd (let bad : false ≡ true = f in cc)
raised_rests true false true k e f = refl

empty_rests : (a b r k : Bool) → b ≡ false → k ≡ true → (a && (b || (not r && not k))) ≡ false
empty_rests false b r k e f = refl
empty_rests true true r k e f = e
empty_rests true false true k e f = refl
empty_rests true false false false e f = absurd (let bad : false ≡ true = f in cc)
empty_rests true false false true e f = refl

module _ (set : Setting) (m n : ℕ) (s : Core) (w : ℕ) where
  pub works_held : w < m → is_some (s.workers w).hand ≡ true → has_work set m n s w ≡ true
  works_held lt held = held_works (nat_lt w m) (is_some (s.workers w).hand) (not (is_raised set m n s) && not (is_empty (s.workers w).waiting)) (lt-ltb w m lt) held

  pub works_waiting : w < m → is_raised set m n s ≡ false → is_empty (s.workers w).waiting ≡ false → has_work set m n s w ≡ true
  works_waiting lt going some = waiting_works (nat_lt w m) (is_some (s.workers w).hand) (is_raised set m n s) (is_empty (s.workers w).waiting) (lt-ltb w m lt) going some

  pub rests_raised : (s.workers w).hand ≡ None → is_raised set m n s ≡ true → has_work set m n s w ≡ false
  rests_raised none up = raised_rests (nat_lt w m) (is_some (s.workers w).hand) (is_raised set m n s) (is_empty (s.workers w).waiting) (ap is_some none) up

  pub rests_idle : (s.workers w).hand ≡ None → is_empty (s.workers w).waiting ≡ true → has_work set m n s w ≡ false
  rests_idle none all = empty_rests (nat_lt w m) (is_some (s.workers w).hand) (is_raised set m n s) (is_empty (s.workers w).waiting) (ap is_some none) all
