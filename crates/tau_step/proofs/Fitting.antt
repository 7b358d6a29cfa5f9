-- What a core that stands says of its workers and streams.
use Rattle.std.proofs.Common.{ℕ, ◌<◌, ◌≡◌, List, refl, sym, ap, subst, ◌∙◌, Option}
use Rattle.std.specs.Prelude.{Some, None, is_some, slice_get}
use Rattle.std.specs.List.{list_any}
use Rattle.tau_base.specs.declared.limits.TheConstants.{MAX_TRIES}
use Rattle.tau_proc.specs.declared.proc.Proc.{Proc}
use Rattle.tau_model.specs.History.{Act}
use Rattle.tau_model.specs.declared.committed.Committed.{Committed}
use Rattle.tau_machine.specs.Hands as theory
use Rattle.tau_machine.specs.Hands.{Txn, Hand}
use Rattle.tau_machine.specs.State.{Core}
use Rattle.tau_txn.specs.declared.standing.Standing.{Standing}
use Rattle.tau_txn.specs.declared.standing.Standing.TheVariants.{Running, Quitting, Placed, Freeing, LeftOver}
use Rattle.tau_txn.specs.Hand.{PlainHand}
use Rattle.tau_txn.specs.Progress.{TriesLeft}
use Rattle.tau_txn.specs.Read.{hand_of}
use Rattle.tau_txn.specs.Txn.{shown, shown_of, runs_in}
use Rattle.tau_txn.specs.Read.{act_in, phase_in}
use Rattle.tau_core.specs.declared.state.Load.{Load}
use Rattle.tau_core.specs.Plain.{PlainSeat}
use Rattle.tau_core.specs.State.{Plain}
use Rattle.tau_core.specs.View.{Hidden, core_of, worker_in, committed_by}
use Rattle.tau_core.specs.Stands.{Stands, SoundSeat}
use Rattle.tau_run.specs.Run.{below}
use Rattle.tau_run.proofs.Lists.{any_true}
use Rattle.tau_run.specs.StopsLeave.{NamesLowest, stops_in}
use Rattle.tau_step.specs.Acting.{raised}
use Rattle.tau_step.proofs.Falling.{HasTries}
use Rattle.tau_step.proofs.RunEnds.{member_below}
use Rattle.tau_step.proofs.Resting.{any_none}
use Rattle.tau_base.proofs.Logic.{some_is}
use Rattle.tau_step.proofs.Deciding.{none_some}

-- a call in hand that runs has tries left

shown_tries : (procs : List Proc) (w : ℕ) (st : Standing) (h : PlainHand) → h.standing ≡ st → TriesLeft h.tries st → (x : Hand) → shown procs w st h ≡ Some x → x.phase ≡ theory.Running → x.tries < MAX_TRIES
shown_tries procs w Running h e few x is runs = subst (λ (y : Hand). y.tries < MAX_TRIES) (some_is (hand_of procs w h) x is) few
shown_tries procs w Quitting h e few x is runs = absurd (let bad : theory.Quitting ≡ theory.Running = sym (ap (λ (s : Standing). phase_in procs w s h) e) ∙ ap (λ (y : Hand). y.phase) (some_is (hand_of procs w h) x is) ∙ runs in cc)
shown_tries procs w Placed h e few x is runs = absurd (let bad : theory.Placed (act_in procs w h) ≡ theory.Running = sym (ap (λ (s : Standing). phase_in procs w s h) e) ∙ ap (λ (y : Hand). y.phase) (some_is (hand_of procs w h) x is) ∙ runs in cc)
shown_tries procs w Freeing h e few x is runs = absurd (let bad : theory.Freeing (act_in procs w h) ≡ theory.Running = sym (ap (λ (s : Standing). phase_in procs w s h) e) ∙ ap (λ (y : Hand). y.phase) (some_is (hand_of procs w h) x is) ∙ runs in cc)
shown_tries procs w LeftOver h e few x is runs = absurd (none_some x is)

shown_of_tries : (procs : List Proc) (w : ℕ) (o : Option PlainHand) → runs_in procs o → (x : Hand) → shown_of procs w o ≡ Some x → x.phase ≡ theory.Running → x.tries < MAX_TRIES
shown_of_tries procs w None q x is runs = absurd (none_some x is)
shown_of_tries procs w (Some h) q x is runs = shown_tries procs w h.standing h refl q.tries x is runs

worker_tries : (l : Load) (w : ℕ) (o : Option PlainSeat) (committed : List Committed) → ((s : PlainSeat) → o ≡ Some s → SoundSeat l w s) → HasTries (worker_in l o committed)
worker_tries l w None committed sound = λ x is runs. absurd (none_some x is)
worker_tries l w (Some s) committed sound = λ x is runs. shown_of_tries l.procs s.txn.worker s.txn.hand (sound s refl).txn.runs x is runs

pub stands_tries : (p : Plain) (K : List (Act Txn)) (h : Hidden) → Stands p K h → (w : ℕ) → HasTries ((core_of p h).workers w)
stands_tries p K h g w = worker_tries p.load w (slice_get p.seats w) (committed_by p.load.workers w p.committed) (λ s e. g.sound.seat w s e)

-- a stream is stopped where there is a lowest one

any_stopped : (n : ℕ) (s : Core) (failed : Option ℕ) → NamesLowest n (stops_in s) failed → is_some failed ≡ list_any (λ j. is_some (s.streams j).stop) (below n)
any_stopped n s None q = sym (any_none (λ j. is_some (s.streams j).stop) n (λ j lt. ap is_some (q j lt)))
any_stopped n s (Some j) q = sym (any_true (λ i. is_some (s.streams i).stop) j (below n) (member_below j n q.0) (ap is_some q.1.1))

pub lowest_raised : (p : Plain) (h h' : Hidden) (failed : Option ℕ) → NamesLowest p.load.streams (stops_in (core_of p h)) failed → is_some failed ≡ raised p h'
lowest_raised p h h' failed q = any_stopped p.load.streams (core_of p h') failed (same failed q)
  where
    same : (f : Option ℕ) → NamesLowest p.load.streams (stops_in (core_of p h)) f → NamesLowest p.load.streams (stops_in (core_of p h')) f
    same None r = r
    same (Some j) r = r
