-- The flushes of a whole run in which no stream stops.
use Rattle.std.proofs.Common.{ℕ, ◌<◌, ◌≤◌, ◌≡◌, true, List, [], length, refl, sym, subst, ◌∙◌, arith, Option}
use Rattle.std.specs.Prelude.{None, IfOk, Result, Ok, Err}
use Rattle.std.proofs.lemmas.List.{length-replicate}
use Rattle.tau_base.specs.declared.format.Format.{Format}
use Rattle.tau_base.specs.declared.format.Format.TheVariants.{One, Two}
use Rattle.tau_base.specs.declared.value.LogMode.{LogMode}
use Rattle.tau_base.specs.declared.value.NoMemory.{NoMemory}
use Rattle.tau_base.specs.Modes.{format_of, most_streams}
use Rattle.tau_disk.specs.declared.disk.Disk.{Ghosts}
use Rattle.tau_stream.specs.declared.writer.Writer.{Writer}
use Rattle.tau_stream.specs.Writer.{IsReady}
use Rattle.tau_open.specs.Opening.{AreOpened}
use Rattle.tau_machine.specs.State.{Core}
use Rattle.tau_machine.specs.Runs as machine
use Rattle.tau_text.specs.declared.load.Workload.{Workload}
use Rattle.tau_text.specs.Canonical.{declarations_text}
use Rattle.tau_core.specs.declared.state.Load.{Load}
use Rattle.tau_core.specs.View.{core_of, setting_of}
use Rattle.tau_core.specs.Opens.{Opened, OpenedFresh, catalogue_size, nothing}
use Rattle.tau_run.specs.Start.{Start, fresh_start, catalogue_of}
use Rattle.tau_run.specs.CoreRun.{IsLoadOn, IsFirstState, AreAcks, IsRunOf}
use Rattle.tau_run.specs.Laws.{KeepCalls}
use Rattle.tau_run.specs.Run as told
use Rattle.tau_run.specs.RunFacts.{turns_of}
use Rattle.tau_occ.specs.declared.style.Style.TheVariants.{Locking}
use Rattle.tau_run.specs.Schedule.{IsWhole, peeked}
use Rattle.tau_run.specs.Turns.{Progress, begun}
use Rattle.tau_run.proofs.StepsLed.{turns_law}
use Rattle.tau_run.proofs.Results.{run_law}
use Rattle.tau_run.proofs.Start.{started}
use Rattle.tau_run.specs.StopsLeave.{NamesLowest, stops_in}
use Rattle.tau_run.specs.Writers.{AreNew}
use Rattle.tau_run.proofs.Begun.{fresh_begun, fresh_opened, loaded}
use Rattle.tau_step.specs.declared.run.Run.{Run}
use Rattle.tau_step.specs.Along.{IsAlong, Went}
use Rattle.tau_step.specs.Device.{IsFlushOrder, IsOfRun, noting}
use Rattle.tau_step.specs.RunEffects.{IsOn, Moves}
use Rattle.tau_step.specs.Progressed.{progress}
use Rattle.tau_step.specs.Optimists.{Peeks}
use Rattle.tau_step.specs.Rounding.{none_peeked, ran_all}
use Rattle.tau_step.proofs.Ending.{all_whole, begun_along, begun_kept}
use Rattle.tau_step.proofs.EffectsInTurn.{lowest_same}

-- what follows of a result follows if it is Ok
pub of_ok : {P Q : List ℕ → Type 0} (r : Result (List ℕ) NoMemory) → ((flushes : List ℕ) → P flushes → Q flushes) → IfOk r P → IfOk r Q
of_ok (Ok flushes) f h = f flushes h
of_ok (Err e) f h = h

-- every format has room for the streams of the first
pub low_streams : (f : Format) (n : ℕ) → n ≤ most_streams One → n ≤ most_streams f
low_streams One n few = few
low_streams Two n few = omega (arith, few)

-- The writers of streams that were just opened. Disks that tell nothing are of any format.
pub are_new : {D : Type 0} {G : Ghosts D} (n : ℕ) (load : Workload) (old mid : List D) (ws : List (Writer D G)) → AreOpened G n (catalogue_of load) old mid ws → (f : Format) → (G.tells → One ≡ f) → AreNew f (λ j. catalogue_of load) ws
are_new {D} {G} n load old mid ws streams f is j w e =
    let b = streams.begun j w e in
    record {
      works = b.works;
      durable = b.durable;
      left = b.left;
      ready = λ t. subst (λ (g : Format). IsReady g (length ws) j w (catalogue_of load)) (is t) (subst (λ (k : ℕ). IsReady One k j w (catalogue_of load)) (sym streams.count) (b.ready t));
    }

-- a run that was not begun
module _ {D : Type 0} {G : Ghosts D} (m : ℕ) (mode : LogMode) (load : Workload) (run : Run) (ws : List (Writer D G)) (fresh : OpenedFresh load.declarations.procs load.calls mode m (length ws) (catalogue_size (declarations_text load.declarations)) run.core)
    (are : AreNew (format_of mode) (λ j. catalogue_of load) ws) (workers : run.workers ≡ m) (streams : run.streams ≡ length ws) (none : run.failed ≡ None) where
  pub begun_on : IsOn ws run
  begun_on =
      let opened = fresh_opened m mode load ws ws ⊥ [] [] ⊥ run.core fresh in
      let stands = loaded m mode load ws ws ⊥ [] [] ⊥ run.core fresh in
      record {
        along = subst (λ (f : Option ℕ). IsAlong ws run.core f) (sym none) (begun_along (λ j. catalogue_of load) ws run.core opened (fresh_begun m mode load ws ws ⊥ [] [] ⊥ run.core fresh are));
        workers = workers ∙ sym stands.workers;
        streams = streams ∙ sym stands.streams;
      }

module _ {D : Type 0} {G : Ghosts D} (m : ℕ) (mode : LogMode) (load : Workload) (old new : Run) (ws ws' : List (Writer D G)) (hears : Type 0) (held held' : List ℕ) (faults faults' : ℕ)
    (fresh : OpenedFresh load.declarations.procs load.calls mode m (length ws) (catalogue_size (declarations_text load.declarations)) old.core) (are : AreNew (format_of mode) (λ j. catalogue_of load) ws) (acks : old.clerk.acks ≡ [])
    (none : old.flushes.streams ≡ []) (f g : Peeks) (first : f ≡ none_peeked) (x : Moves (ran_all Locking f g (turns_of load)) true old new ws ws' hears held held' faults faults') where
  abbrev n : ℕ
  n = length ws

  abbrev bases : ℕ → List ℕ
  bases j = catalogue_of load

  opened : Opened old.core.load old.core
  opened = fresh_opened m mode load ws ws hears held held hears old.core fresh

  first_load : IsLoadOn n m mode load (fresh_start n) old.core.load
  first_load = loaded m mode load ws ws hears held held hears old.core fresh

  went : Went bases (noting old.flushes new.flushes (ran_all Locking f g (turns_of load))) true old.core new.core ws ws' old.clerk.acks new.clerk.acks [] nothing []
  went = x.went bases [] nothing [] opened.stands (begun_kept bases ws old.core opened (fresh_begun m mode load ws ws hears held held hears old.core fresh are))

  abbrev l : Load
  l = new.core.load

  abbrev s : Core
  s = core_of new.core went.hidden

  abbrev P : Progress
  P = progress new.core went.hidden went.events went.order new.clerk.acks

  is_load : IsLoadOn n m mode load (fresh_start n) l
  is_load = subst (λ (d : Load). IsLoadOn n m mode load (fresh_start n) d) (sym went.load) first_load

  from_begun : ran_all Locking none_peeked g (turns_of load) true old.core.load (begun (core_of old.core nothing)) P
  from_begun = subst (λ (k : Peeks). ran_all Locking k g (turns_of load) true old.core.load (begun (core_of old.core nothing)) P) first
      (subst (λ (a : List (ℕ × List ℕ)). ran_all Locking f g (turns_of load) true old.core.load (record { state = core_of old.core nothing; events = []; joined = []; told = a }) P) acks went.moved.0)

  whole : IsWhole (setting_of l) m n Locking (turns_of load) (core_of old.core nothing) (peeked P g)
  whole =
      subst (λ (d : Load). IsWhole (setting_of d) m n Locking (turns_of load) (core_of old.core nothing) (peeked P g)) (sym went.load)
      (subst (λ (k : ℕ). IsWhole (setting_of old.core.load) m k Locking (turns_of load) (core_of old.core nothing) (peeked P g)) first_load.streams
      (subst (λ (k : ℕ). IsWhole (setting_of old.core.load) k old.core.load.streams Locking (turns_of load) (core_of old.core nothing) (peeked P g)) first_load.workers
      (all_whole old.core.load Locking g (turns_of load) (core_of old.core nothing) P from_begun)))

  opening_is : machine.IsOpening (setting_of l) (core_of old.core nothing)
  opening_is = subst (λ (d : Load). machine.IsOpening (setting_of d) (core_of old.core nothing)) (sym went.load) opened.opening

  led : machine.Run (setting_of l) (core_of old.core nothing) went.events went.order s × KeepCalls went.events × AreAcks l s new.clerk.acks
  led = turns_law (setting_of l) m n Locking (turns_of load) (core_of old.core nothing) (peeked P g) opening_is ([], whole)

  there : (run : told.Run) × IsRunOf n l went.order s load run × (run.acks ≡ new.clerk.acks) × (run.start ≡ fresh_start n)
  there = run_law n m mode load new.core went.order went.hidden went.stands (fresh_start n) is_load (length-replicate n []) new.clerk.acks led.2

  module _ (flushes : List ℕ) (of_run : IsOfRun new.failed new.flushes flushes) where
    unstopped : (j : ℕ) → j < n → (s.streams j).stop ≡ None
    unstopped j lt =
        let a = (x.on refl).along in
        let lowest = lowest_same new.core.load.streams (core_of new.core a.hidden) s (λ i. refl) new.failed a.lowest in
        let all : NamesLowest new.core.load.streams (stops_in s) None = subst (λ (f : Option ℕ). NamesLowest new.core.load.streams (stops_in s) f) of_run.0 lowest in
        all j (subst (λ (k : ℕ). j < k) (sym is_load.streams) lt)

    pub flush_order : IsFlushOrder n m mode load flushes
    flush_order = record {
      run = there.0;
      begins = there.3;
      core = record {
        stands_on = l;
        load_is = subst (λ (b : Start). IsLoadOn n m mode load b l) (sym there.3) is_load;
        opening = core_of old.core nothing;
        first = subst (λ (d : Load). IsFirstState d (core_of old.core nothing)) (sym went.load) (started old.core.load old.core opened);
        progress = P;
        led = led.0;
        chosen = (g, whole);
        is = there.1;
        told = there.2;
        stopped = unstopped;
      };
      flushes_are = of_run.2 ∙ went.moved.1 refl (λ e. none) of_run.1;
    }
