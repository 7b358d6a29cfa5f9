-- The functions of a run that do one thing.
use Rattle.std.proofs.Common.{ℕ, ◌+◌, ◌<◌, ◌≤◌, ◌≡◌, Bool, true, false, inl, inr, List, [], refl, sym, subst, arith}
use Rattle.std.specs.Prelude.{is_ok, is_none, is_some, ◌&&◌, ◌||◌, not, nat_lt, length, ◌-◌, ◌^◌, OnOk, OnErr, Result, Ok, Err}
use Rattle.std.proofs.lemmas.Bool.{cases_Bool}
use Rattle.std.proofs.lemmas.Bool.Decides.{nat_tests}
use Rattle.tau_base.specs.declared.value.NoMemory.{NoMemory}
use Rattle.tau_model.specs.History.{Act}
use Rattle.tau_machine.specs.Hands.{Txn}
use Rattle.tau_occ.specs.declared.style.Style.{Style}
use Rattle.tau_machine.specs.Events as machine
use Rattle.tau_text.specs.declared.load.Turn.TheVariants as turn
use Rattle.tau_core.specs.declared.state.Load.{Load}
use Rattle.tau_core.specs.State.{Plain}
use Rattle.tau_core.specs.View.{Hidden, core_of, setting_of, worker_at}
use Rattle.tau_core.specs.Stands.{Stands, Stood}
use Rattle.tau_run.specs.Turns.{Progress, is_going, is_raised, is_empty}
use Rattle.tau_step.specs.Optimists.{Peeks}
use Rattle.tau_step.specs.TurnParts.{Managed}
use Rattle.tau_step.specs.declared.run.Run.{Run}
use Rattle.tau_step.specs.Acting.{WorkerTurned}
use Rattle.tau_step.specs.Along.{Quiet}
use Rattle.tau_step.specs.RunEffects.{Works, total_left}
use Rattle.tau_step.specs.Progressed.{Comes, stays, anchors, drops}
use Rattle.tau_step.specs.Remains.{sum_below, worker_left}
use Rattle.tau_step.specs.Rounding.{turned, alone_by, turns_now, worked_by, worker_turned}
use Rattle.tau_step.proofs.Deciding.{if_not}
use Rattle.tau_step.proofs.Fitting.{stands_tries}
use Rattle.tau_step.proofs.EffectsInTurn.{works_as, works_none}
use Rattle.tau_step.proofs.Totals.{worked_total}
use Rattle.tau_step.proofs.Turning.{anchored_grows, anchored_same, removed_grows, removed_same}
use Rattle.tau_base.proofs.Logic.{first_not}

not_below : (a b : ℕ) → b ≤ a → nat_lt a b ≡ false
not_below a b le = elim (cases_Bool (nat_lt a b)) [
  | inl above ↦ absurd (grind (arith, nat_tests, above, le))
  | inr e ↦ e
]

module _ (old new : Run) (clerk : new.clerk ≡ old.clerk) (failed : new.failed ≡ old.failed) (workers : new.workers ≡ old.workers) (streams : new.streams ≡ old.streams) (flushes : new.flushes ≡ old.flushes) (stood : Stood old.core) where
  -- from what always comes
  pub works_of : (R : Bool → Load → Progress → Progress → Type 0) (whole : Bool) → ((K : List (Act Txn)) (h : Hidden) (es : List machine.Event) (told : List (ℕ × List ℕ)) → Stands old.core K h → Comes (R whole) old.core new.core told told K h es) → Works R whole old new
  works_of R whole comes =
      let (K, h, g) = stood in
      let c = comes K h [] [] g in
      record { comes = comes; stood = (c.order, c.hidden, c.stands); load = c.load; clerk = clerk; failed = failed; workers = workers; streams = streams; flushes = flushes }

  -- the turn of a worker
  pub work_works : (w : ℕ) (r : Result Bool NoMemory) → ((K : List (Act Txn)) (h : Hidden) (es : List machine.Event) (told : List (ℕ × List ℕ)) → Stands old.core K h → WorkerTurned w old.core new.core K h es told r) → Works (alone_by w r) (is_ok r) old new
  work_works w (Ok did) t = works_of (alone_by w (Ok did)) true (λ K h es told g. (let q = t K h es told g in let c = q.1 in
      record { hidden = c.hidden; order = c.order; events = c.events; stands = c.stands; load = c.load; taken = c.taken; moved = (q.0, c.moved) }))
  work_works w (Err e) t = works_of (alone_by w (Err e)) false (λ K h es told g. t K h es told g)

  -- an anchor
  pub anchor_works : {A : Type 0} (j : ℕ) (r : Result A NoMemory) → OnOk r ((K : List (Act Txn)) (h : Hidden) (es : List machine.Event) (told : List (ℕ × List ℕ)) → Stands old.core K h → Comes (anchors true j) old.core new.core told told K h es) →
      OnErr r ((K : List (Act Txn)) (h : Hidden) (es : List machine.Event) (told : List (ℕ × List ℕ)) → Stands old.core K h → Comes stays old.core new.core told told K h es) → Works (turned (turn.Anchor j)) (is_ok r) old new
  anchor_works j (Ok a) ok short = works_of (turned (turn.Anchor j)) true (λ K h es told g. ok K h es told g)
  anchor_works j (Err e) ok short = works_of (turned (turn.Anchor j)) false (λ K h es told g. short K h es told g)

  pub removal_works : ((K : List (Act Txn)) (h : Hidden) (es : List machine.Event) (told : List (ℕ × List ℕ)) → Stands old.core K h → Comes (drops true) old.core new.core told told K h es) → Works (turned turn.Drop) true old new
  removal_works all = works_of (turned turn.Drop) true (λ K h es told g. all K h es told g)

-- as the turn word of the worker
pub word_works : (style : Style) (f f' : Peeks) (w : ℕ) (old new : Run) (r : Result Bool NoMemory) → Works (worked_by style f f' w r) (is_ok r) old new → Works (worker_turned style f f' w) (is_ok r) old new
word_works style f f' w old new (Ok did) x = works_as (worked_by style f f' w (Ok did)) (worker_turned style f f' w) true true old new (λ l P P' q. q.1) x
word_works style f f' w old new (Err e) x = works_as (worked_by style f f' w (Err e)) (worker_turned style f f' w) false false old new (λ l P P' q. q) x

-- turn words of nobody

pub no_worker : (style : Style) (f : Peeks) (w : ℕ) (run : Run) → Stood run.core → run.core.load.workers ≤ w → Works (worker_turned style f f w) true run run
no_worker style f w run stood le = works_none (worker_turned style f f w) run stood (λ P. if_not (turns_now run.core.load P f w) _ _
    (first_not (nat_lt w run.core.load.workers) (is_some (P.state.workers w).hand || (not (is_empty (f w)) || (not (is_raised (setting_of run.core.load) run.core.load.workers run.core.load.streams P.state) && not (is_empty (P.state.workers w).waiting))))
    (not_below w run.core.load.workers le)) refl)

pub absent_manager : (l : Load) (j : ℕ) → l.streams ≤ j → (P : Progress) → Managed (setting_of l) l.workers l.streams j P P
absent_manager l j le P = if_not (is_going (setting_of l) l.workers l.streams P.state j) _ _ (first_not (nat_lt j l.streams) (is_none (P.state.streams j).stop) (not_below j l.streams le)) refl

pub no_anchor : (j : ℕ) (run : Run) → Stood run.core → run.core.load.streams ≤ j → Works (turned (turn.Anchor j)) true run run
no_anchor j run stood le =
    works_none (turned (turn.Anchor j)) run stood
    (λ P. if_not (is_going (setting_of run.core.load) run.core.load.workers run.core.load.streams P.state j && nat_lt ((setting_of run.core.load).anchored j + length (P.state.streams j).anchors) (2 ^ 32 - 1)) _ _
    (first_not (is_going (setting_of run.core.load) run.core.load.workers run.core.load.streams P.state j) (nat_lt ((setting_of run.core.load).anchored j + length (P.state.streams j).anchors) (2 ^ 32 - 1))
    (first_not (nat_lt j run.core.load.streams) (is_none (P.state.streams j).stop) (not_below j run.core.load.streams le))) refl)

-- what is left falls where a worker did anything

pub total_less : (p p' : Plain) (K : List (Act Txn)) (h h' : Hidden) → p'.load ≡ p.load →
    sum_below (λ w. worker_left p.load.procs ((core_of p' h').workers w)) p.load.workers < sum_below (λ w. worker_left p.load.procs ((core_of p h).workers w)) p.load.workers → total_left p' < total_left p
total_less p p' K h h' load less = subst (λ (l : Load). sum_below (λ w. worker_left l.procs (worker_at p' w)) l.workers < total_left p) (sym load) less

pub work_fewer : (w : ℕ) (p p' : Plain) (r : Result Bool NoMemory) → w < p.load.workers → Stood p → ((K : List (Act Txn)) (h : Hidden) (es : List machine.Event) (told : List (ℕ × List ℕ)) → Stands p K h → WorkerTurned w p p' K h es told r) → r ≡ Ok true → total_left p' < total_left p
work_fewer w p p' r lt stood t e =
    let (K, h, g) = stood in
    let q : WorkerTurned w p p' K h [] [] (Ok true) = subst (λ (x : Result Bool NoMemory). WorkerTurned w p p' K h [] [] x) e (t K h [] [] g) in
    let c = q.1 in
    total_less p p' K h c.hidden c.load
    (worked_total (setting_of p.load) p.load.workers p.load.streams w lt (record { state = core_of p h; events = []; joined = K; told = [] }) (record { state = core_of p' c.hidden; events = c.events; joined = c.order; told = [] }) (sym q.0) (stands_tries p K h g w) c.moved)

-- no stream is touched by these

pub anchor_quiet : (j : ℕ) (whole : Bool) (l : Load) (P P' : Progress) → turned (turn.Anchor j) whole l P P' → Quiet P.state P'.state
anchor_quiet j whole l P P' h = record { grown = anchored_grows (setting_of l) l.workers l.streams P P' j whole h; same = λ i. anchored_same (setting_of l) l.workers l.streams P P' i j whole h }

pub removal_quiet : (whole : Bool) (l : Load) (P P' : Progress) → turned turn.Drop whole l P P' → Quiet P.state P'.state
removal_quiet whole l P P' h = record { grown = removed_grows (setting_of l) l.workers l.streams P P' whole h; same = λ i. removed_same (setting_of l) l.workers l.streams P P' i whole h }
