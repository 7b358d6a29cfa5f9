-- What a run on streams that were just made has done, in the words of runs: by turns or in threads.
use Rattle.std.proofs.Common.{ℕ, ◌<◌, ◌≤◌, ◌≡◌, Bool, List, ◌++◌, map, length, sym, subst, Option}
use Rattle.std.specs.Prelude.{Some, None}
use Rattle.tau_base.specs.declared.value.LogMode.{LogMode}
use Rattle.tau_base.specs.Modes.{format_of}
use Rattle.tau_disk.specs.declared.disk.Disk.{Ghosts}
use Rattle.tau_disk.specs.Used.{EachIn, RoseAt}
use Rattle.tau_stream.specs.declared.writer.Writer.{Writer}
use Rattle.tau_stream.specs.Writer.{disk_of}
use Rattle.tau_open.specs.Opening.{AreOpened}
use Rattle.tau_model.specs.History.{Act}
use Rattle.tau_machine.specs.Hands.{Txn}
use Rattle.tau_machine.specs.State.{Core}
use Rattle.tau_text.specs.declared.load.Workload.{Workload}
use Rattle.tau_core.specs.declared.state.Load.{Load}
use Rattle.tau_run.specs.Run.{Run, AllAcked}
use Rattle.tau_run.specs.RecoveredFacts.{IsEnded}
use Rattle.tau_run.specs.Start.{IsStart, fresh_start, catalogue_of, opened_at}
use Rattle.tau_run.proofs.Fresh.{fresh_begins, fresh_is_sound, fresh_opened}
use Rattle.tau_scan.specs.Sound.{IsSound}
use Rattle.tau_run.specs.CoreRun.{IsCourse, IsLoadOn, IsRunOf, IsSoundLoad}
use Rattle.tau_run.specs.StopsLeave.{IsOver}
use Rattle.tau_occ.specs.declared.style.Style.TheVariants.{Locking}
use Rattle.tau_run.specs.RunFacts.{chosen_by, IsCoreRun}
use Rattle.tau_run.specs.Turns.{Progress}
use Rattle.tau_run.specs.Gives.{CameTo, came_far}
use Rattle.tau_run.specs.Writers.{EachOf, Left}
use Rattle.tau_run.proofs.Came as of
use Rattle.tau_run.proofs.Came.{BeginsOn}
use Rattle.tau_run.proofs.Imaged.{Leaves}
use Rattle.tau_engine.specs.DiskFacts.{Now}
use Rattle.tau_engine.proofs.Streams.{OnlyNow, Way, fresh_way, Joined, joined, leaves}

module _ {D : Type 0} {G : Ghosts D} (only_now : OnlyNow G) (n m : ℕ) (mode : LogMode) (load : Workload) (sound : IsSoundLoad load) (l : Load) (load_is : IsLoadOn n m mode load (fresh_start n) l) (ws ws' : List (Writer D G)) (acks : List (ℕ × List ℕ))
    (t : CameTo (chosen_by load.turns Locking n m load) (opened_at load (fresh_start n)) l ws ws' acks) where
  abbrev by : Bool → Load → Core → Progress → Type 0
  by = chosen_by load.turns Locking n m load

  abbrev begins : IsStart (format_of mode) n load (fresh_start n)
  begins = fresh_begins (format_of mode) n load

  abbrev K : List (Act Txn)
  K = t.joined

  abbrev s : Core
  s = t.state

  abbrev pub begun_on : BeginsOn n m mode load (fresh_start n) l
  begun_on = record { begins = begins; sound = sound; load_is = load_is }

  abbrev pub run : Run
  run = of.run_of begun_on t

  abbrev pub course : IsCourse n m mode load (fresh_start n) l K s
  course = of.course begun_on t

  abbrev pub is : IsRunOf n l K s load run
  is = of.is_run begun_on t

  pub writers : EachOf (λ j w w'. Left l s j (catalogue_of load) w w') ws ws'
  writers = subst (λ (b : ℕ → List ℕ). EachOf (λ j w w'. Left l s j (b j) w w') ws ws') (fresh_opened n load) t.writers

  pub sound_start : IsSound (format_of mode) run.start.old run.start.log run.start.base
  sound_start = fresh_is_sound (format_of mode) n

  abbrev way : Way D
  way = fresh_way G n (catalogue_of load)

  abbrev stops : ℕ → Option ℕ
  stops j = (s.streams j).stop

  streams_are : l.streams ≡ n
  streams_are = load_is.streams

  stop_low : (j at : ℕ) → stops j ≡ Some at → j < n
  stop_low j at e = subst (λ (k : ℕ). j < k) load_is.streams (t.stop_low j at e)

  pub core_run : (whole : Bool) → by whole l t.opening (came_far t) → IsCoreRun (by whole) n m mode load stops run
  core_run whole h = of.core_run begun_on t whole h

  module _ (old mid new : List D) (many : n ≤ length old) (streams : AreOpened G n (catalogue_of load) old mid ws) (back : new ≡ map disk_of ws' ++ mid) where
    pub all : EachIn (λ j. j < n) (Joined G n way l s) old new
    all = joined G n (catalogue_of load) l s old mid new ws ws' streams back writers

    pub at_leaves : Leaves n (opened_at load (fresh_start n)) l s (Now G.tells G.may_leave old new) (RoseAt G.faults old new)
    at_leaves =
        subst (λ (b : ℕ → List ℕ). Leaves n b l s (Now G.tells G.may_leave old new) (RoseAt G.faults old new)) (sym (fresh_opened n load)) (leaves G n way l s streams_are old new many all stop_low)

    pub has_ended : IsOver n s → (((j : ℕ) → j < n → stops j ≡ None) → AllAcked load run) → IsEnded n mode load (Now G.tells G.may_leave old new) (RoseAt G.faults old new) run
    has_ended over complete = of.ended_of begun_on t (Now G.tells G.may_leave old new) (RoseAt G.faults old new) at_leaves over complete
