-- What functions of a run do, one after another.
use Rattle.std.proofs.Common.{ℕ, ◌≤◌, ◌≡◌, inl, inr, Bool, true, false, List, [], length, take, refl, sym, ap, subst, ◌∙◌, Option, arith}
use Rattle.std.specs.Prelude.{Some, None, is_ok, OnOk, ◌⊎◌, Result, Ok, Err}
use Rattle.std.proofs.Math.Seq.{take-length}
use Rattle.tau_base.specs.declared.value.NoMemory.{NoMemory}
use Rattle.tau_disk.specs.Disk.{Rose}
use Rattle.tau_disk.specs.declared.disk.Disk.{Ghosts}
use Rattle.tau_stream.specs.declared.writer.Writer.{Writer}
use Rattle.tau_model.specs.History.{Act}
use Rattle.tau_machine.specs.Hands.{Txn}
use Rattle.tau_machine.specs.State.{Core}
use Rattle.tau_machine.specs.Events as machine
use Rattle.tau_core.specs.declared.state.Load.{Load}
use Rattle.tau_core.specs.State.{Plain}
use Rattle.tau_core.specs.View.{Hidden, core_of, setting_of}
use Rattle.tau_core.specs.Opens.{nothing}
use Rattle.tau_core.specs.Stands.{Stands, Stood}
use Rattle.tau_run.specs.Turns.{Progress}
use Rattle.tau_run.specs.StopsLeave.{NamesLowest, stops_in}
use Rattle.tau_run.specs.Heard.{Heard}
use Rattle.tau_step.specs.declared.clerk.Clerk.{Clerk}
use Rattle.tau_step.specs.declared.flushes.Flushes.{Flushes}
use Rattle.tau_step.specs.declared.run.Run.{Run}
use Rattle.tau_step.specs.Along.{Quiet, AreKept, IsAlong, Went, Silent}
use Rattle.tau_step.specs.Device.{IsNoted, noting}
use Rattle.tau_step.specs.RunEffects.{IsOn, Works, Manages, Moves, WentBy}
use Rattle.tau_step.specs.Progressed.{progress, clerks}
use Rattle.tau_step.specs.Telling.{Passed}
use Rattle.tau_step.proofs.RunSteps.{kept_after, went_quiet, went_on, went_as, since_none, rose_on}
use Rattle.tau_step.proofs.Counted.{counts_none}
use Rattle.tau_step.proofs.Growing.{grows_none}
use Rattle.tau_base.proofs.Logic.{some_is}
use Rattle.tau_step.proofs.Joined.{comes_as, comes_on}
use Rattle.tau_step.proofs.Silent.{clerked_silent}
use Rattle.tau_step.proofs.Turning.{clerked_grows, clerked_same}

pub rose_more : (a b c : ℕ) → b ≤ c → Rose a b → Rose a c
rose_more a b c le r = omega (arith, le, r)

-- ---- what is noted of flushes

pub noted_same : (f f' : Flushes) (P P' : Progress) → f' ≡ f → Silent P P' → IsNoted f P.events → IsNoted f' P'.events
noted_same f f' P P' e silent was = λ noted. ap (λ (x : Flushes). x.streams) e ∙ was (sym (ap (λ (x : Flushes). x.noted) e) ∙ noted) ∙ sym silent

-- one after the other
pub noting_on : (R S T : Bool → Load → Progress → Progress → Type 0) (whole : Bool) (f f' f'' : Flushes) → ((l : Load) (P Q P' : Progress) → R true l P Q → S whole l Q P' → T whole l P P') →
    (l : Load) (P Q P' : Progress) → noting f f' R true l P Q → noting f' f'' S whole l Q P' → noting f f'' T whole l P P'
noting_on R S T whole f f' f'' on l P Q P' p q = (on l P Q P' p.0 q.0, λ e was. q.1 e (p.1 refl was))

pub noting_as : (R S : Bool → Load → Progress → Progress → Type 0) (whole : Bool) (f f' : Flushes) → ((l : Load) (P P' : Progress) → R whole l P P' → S whole l P P') →
    (l : Load) (P P' : Progress) → noting f f' R whole l P P' → noting f f' S whole l P P'
noting_as R S whole f f' turn l P P' p = (turn l P P' p.0, p.1)

-- ---- workers alone

pub works_on : (R S T : Bool → Load → Progress → Progress → Type 0) (whole : Bool) (old mid new : Run) → ((l : Load) (P Q P' : Progress) → R true l P Q → S whole l Q P' → T whole l P P') →
    Works R true old mid → Works S whole mid new → Works T whole old new
works_on R S T whole old mid new f x y = record {
  comes = λ K h es told g. (let c = x.comes K h es told g in
      comes_on (R true) (S whole) (T whole) f old.core mid.core new.core told told told K h es c (y.comes c.order c.hidden c.events told c.stands));
  stood = y.stood;
  load = y.load ∙ x.load;
  clerk = y.clerk ∙ x.clerk;
  failed = y.failed ∙ x.failed;
  workers = y.workers ∙ x.workers;
  streams = y.streams ∙ x.streams;
  flushes = y.flushes ∙ x.flushes;
}

pub works_as : (R S : Bool → Load → Progress → Progress → Type 0) (whole whole' : Bool) (old new : Run) → ((l : Load) (P P' : Progress) → R whole l P P' → S whole' l P P') → Works R whole old new → Works S whole' old new
works_as R S whole whole' old new f x = record {
  comes = λ K h es told g. comes_as (R whole) (S whole') f old.core new.core told told K h es (x.comes K h es told g);
  stood = x.stood;
  load = x.load;
  clerk = x.clerk;
  failed = x.failed;
  workers = x.workers;
  streams = x.streams;
  flushes = x.flushes;
}

pub works_none : (R : Bool → Load → Progress → Progress → Type 0) (run : Run) → Stood run.core → ((P : Progress) → R true run.core.load P P) → Works R true run run
works_none R run stood r = record {
  comes = λ K h es told g. record { hidden = h; order = K; events = es; stands = g; load = refl; taken = refl; moved = r (progress run.core h es K told) };
  stood = stood;
  load = refl;
  clerk = refl;
  failed = refl;
  workers = refl;
  streams = refl;
  flushes = refl;
}

-- the lowest stream that is stopped is the same where the streams are
pub lowest_same : (n : ℕ) (s s' : Core) → ((j : ℕ) → (s'.streams j).stop ≡ (s.streams j).stop) → (failed : Option ℕ) → NamesLowest n (stops_in s) failed → NamesLowest n (stops_in s') failed
lowest_same n s s' same None q = λ j lt. same j ∙ q j lt
lowest_same n s s' same (Some j) q = (q.0, (q.1.0, same j ∙ q.1.1), λ i lt. same i ∙ q.2 i lt)

pub lowest_nothing : (p : Plain) (h : Hidden) (failed : Option ℕ) → NamesLowest p.load.streams (stops_in (core_of p h)) failed → NamesLowest p.load.streams (stops_in (core_of p nothing)) failed
lowest_nothing p h failed q = lowest_same p.load.streams (core_of p h) (core_of p nothing) (λ j. refl) failed q

-- so it is after what workers do
pub works_lowest : (R : Bool → Load → Progress → Progress → Type 0) (whole : Bool) (old new : Run) → Stood old.core → ((l : Load) (P P' : Progress) → R whole l P P' → Quiet P.state P'.state) → Works R whole old new →
    NamesLowest old.core.load.streams (stops_in (core_of old.core nothing)) old.failed → NamesLowest new.core.load.streams (stops_in (core_of new.core nothing)) new.failed
works_lowest R whole old new stood quiet x q =
    let (K, h, g) = stood in
    let c = x.comes K h [] [] g in
    let same = quiet old.core.load (progress old.core h [] K []) (progress new.core c.hidden c.events c.order []) c.moved in
    subst (λ (f : Option ℕ). NamesLowest new.core.load.streams (stops_in (core_of new.core nothing)) f) (sym x.failed)
    (subst (λ (l : Load). NamesLowest l.streams (stops_in (core_of new.core nothing)) old.failed) (sym x.load)
    (lowest_same old.core.load.streams (core_of old.core nothing) (core_of new.core nothing) (λ j. (same.same j).stop) old.failed q))

module _ {D : Type 0} {G : Ghosts D} (seen_now : (d : D) → G.tells → G.may_leave d (G.seen d)) where
  whole_went : (bases : ℕ → List ℕ) (R : Bool → Load → Progress → Progress → Type 0) (whole : Bool) (p p' : Plain) (ws ws' : List (Writer D G)) (told told' : List (ℕ × List ℕ)) (K : List (Act Txn)) (h : Hidden) (es : List machine.Event) →
      whole ≡ true → Went bases R whole p p' ws ws' told told' K h es → Went bases R true p p' ws ws' told told' K h es
  whole_went bases R whole p p' ws ws' told told' K h es e x = subst (λ (b : Bool). Went bases R b p p' ws ws' told told' K h es) e x

  -- ---- with writers

  module _ (R : Bool → Load → Progress → Progress → Type 0) (whole : Bool) (old new : Run) (ws : List (Writer D G)) (on : IsOn ws old) (quiet : (l : Load) (P P' : Progress) → R whole l P P' → Quiet P.state P'.state) (silent : (l : Load) (P P' : Progress) → whole ≡ true → R whole l P P' → Silent P P') (x : Works R whole old new) where
    abbrev N : Bool → Load → Progress → Progress → Type 0
    N = noting old.flushes new.flushes R

    works_went : (bases : ℕ → List ℕ) (K : List (Act Txn)) (h : Hidden) (es : List machine.Event) (told : List (ℕ × List ℕ)) → Stands old.core K h → AreKept bases ws old.core h → Went bases N whole old.core new.core ws ws told told K h es
    works_went bases K h es told g k =
        let c = x.comes K h es told g in
        let P = progress old.core h es K told in
        let P' = progress new.core c.hidden c.events c.order told in
        went_quiet seen_now bases N whole old.core new.core ws told told K h es k (record {
          hidden = c.hidden;
          order = c.order;
          events = c.events;
          stands = c.stands;
          load = c.load;
          taken = c.taken;
          moved = (c.moved, λ e was. noted_same old.flushes new.flushes P P' x.flushes (silent old.core.load P P' e c.moved) was);
        }) (quiet old.core.load P P' c.moved) (λ e. silent old.core.load P P' e c.moved)

    works_along : whole ≡ true → IsAlong ws new.core new.failed
    works_along e =
        let a = on.along in
        let c = x.comes a.order a.hidden [] [] a.stands in
        let q = quiet old.core.load (progress old.core a.hidden [] a.order []) (progress new.core c.hidden c.events c.order []) c.moved in
        let w = whole_went a.bases N whole old.core new.core ws ws [] [] a.order a.hidden [] e (works_went a.bases a.order a.hidden [] [] a.stands a.kept) in
        record {
          bases = a.bases;
          order = w.order;
          hidden = w.hidden;
          stands = w.stands;
          kept = kept_after seen_now a.bases N old.core new.core ws ws [] [] a.order a.hidden [] a.kept w;
          lowest = subst (λ (f : Option ℕ). NamesLowest new.core.load.streams (stops_in (core_of new.core w.hidden)) f) (sym x.failed)
              (subst (λ (l : Load). NamesLowest l.streams (stops_in (core_of new.core w.hidden)) old.failed) (sym x.load)
              (lowest_same old.core.load.streams (core_of old.core a.hidden) (core_of new.core w.hidden) (λ j. (q.same j).stop) old.failed a.lowest));
        }

    pub works_manages : Manages R whole old new ws ws
    works_manages = record {
      went = works_went;
      clerk = x.clerk;
      streams = x.streams;
      on = λ e. record {
        along = works_along e;
        workers = x.workers ∙ on.workers ∙ sym (ap (λ (l : Load). l.workers) x.load);
        streams = x.streams ∙ on.streams ∙ sym (ap (λ (l : Load). l.streams) x.load);
      };
    }

  pub manages_on : (R S T : Bool → Load → Progress → Progress → Type 0) (whole : Bool) (old mid new : Run) (ws ms ws' : List (Writer D G)) → ((l : Load) (P Q P' : Progress) → R true l P Q → S whole l Q P' → T whole l P P') →
      Manages R true old mid ws ms → Manages S whole mid new ms ws' → Manages T whole old new ws ws'
  manages_on R S T whole old mid new ws ms ws' f x y = record {
    went = λ bases K h es told g k. (let a = x.went bases K h es told g k in
        went_on seen_now bases (noting old.flushes mid.flushes R) (noting mid.flushes new.flushes S) (noting old.flushes new.flushes T) whole old.core mid.core new.core ws ms ws' told told told K h es (noting_on R S T whole old.flushes mid.flushes new.flushes f) a (y.went bases a.order a.hidden a.events told a.stands (kept_after seen_now bases (noting old.flushes mid.flushes R) old.core mid.core ws ms told told K h es k a)));
    clerk = y.clerk ∙ x.clerk;
    streams = y.streams ∙ x.streams;
    on = y.on;
  }

  pub manages_as : (R S : Bool → Load → Progress → Progress → Type 0) (whole : Bool) (old new : Run) (ws ws' : List (Writer D G)) → ((l : Load) (P P' : Progress) → R whole l P P' → S whole l P P') → Manages R whole old new ws ws' → Manages S whole old new ws ws'
  manages_as R S whole old new ws ws' f x = record {
    went = λ bases K h es told g k. went_as seen_now bases (noting old.flushes new.flushes R) (noting old.flushes new.flushes S) whole old.core new.core ws ws' told told K h es (noting_as R S whole old.flushes new.flushes f) (x.went bases K h es told g k);
    clerk = x.clerk;
    streams = x.streams;
    on = x.on;
  }

  none_went : (bases : ℕ → List ℕ) (R : Bool → Load → Progress → Progress → Type 0) (p : Plain) (ws : List (Writer D G)) (told : List (ℕ × List ℕ)) (K : List (Act Txn)) (h : Hidden) (es : List machine.Event) →
      ((P : Progress) → R true p.load P P) → Stands p K h → AreKept bases ws p h → Went bases R true p p ws ws told told K h es
  none_went bases R p ws told K h es r g k = record {
    hidden = h;
    order = K;
    events = es;
    stands = g;
    load = refl;
    moved = r (progress p h es K told);
    grown = grows_none (core_of p h);
    count = refl;
    kept = k.each;
    since = λ j w e. (w, e, since_none j (bases j) p.load (core_of p h) w);
    calls = λ all j w w' e e'. counts_none p.load j es es w w' refl (some_is w w' (sym e ∙ e'));
  }

  pub manages_none : (R : Bool → Load → Progress → Progress → Type 0) (run : Run) (ws : List (Writer D G)) → IsOn ws run → ((P : Progress) → R true run.core.load P P) → Manages R true run run ws ws
  manages_none R run ws on r = record {
    went = λ bases K h es told g k. none_went bases (noting run.flushes run.flushes R) run.core ws told K h es (λ P. (r P, λ e was. was)) g k;
    clerk = refl;
    streams = refl;
    on = λ e. on;
  }

  -- ---- with a sink

  module _ (hears : Type 0) where
    pub manages_moves : (R : Bool → Load → Progress → Progress → Type 0) (whole : Bool) (old new : Run) (ws ws' : List (Writer D G)) (held : List ℕ) (faults : ℕ) → Manages R whole old new ws ws' → Moves R whole old new ws ws' hears held held faults faults
    manages_moves R whole old new ws ws' held faults x = record {
      went = λ bases K h es g k. by bases K h es whole (x.went bases K h es old.clerk.acks g k);
      heard = λ e q from f. subst (λ (c : Clerk). Heard from c.acks c.sink_failed held) (sym x.clerk) f;
      rose = λ e. inl (sym (ap (λ (c : Clerk). c.sink_failed) x.clerk) ∙ e);
      later = omega arith;
      on = x.on;
    }
      where
        by : (bases : ℕ → List ℕ) (K : List (Act Txn)) (h : Hidden) (es : List machine.Event) (b : Bool) → Went bases (noting old.flushes new.flushes R) b old.core new.core ws ws' old.clerk.acks old.clerk.acks K h es → WentBy bases R b old new ws ws' hears held held K h es
        by bases K h es true w = subst (λ (c : Clerk). Went bases (noting old.flushes new.flushes R) true old.core new.core ws ws' old.clerk.acks c.acks K h es) (sym x.clerk) w
        by bases K h es false w = record {
          told_now = old.clerk.acks;
          went = went_as seen_now bases (noting old.flushes new.flushes R) R false old.core new.core ws ws' old.clerk.acks old.clerk.acks K h es (λ l P P' q. q.0) w;
          count = length old.clerk.acks;
          heard = λ q from f. subst (λ (b : Bool). Heard from (take (length old.clerk.acks) old.clerk.acks) b held) (sym (ap (λ (c : Clerk). c.sink_failed) x.clerk))
              (subst (λ (acks : List (ℕ × List ℕ)). Heard from acks old.clerk.sink_failed held) (sym (take-length old.clerk.acks)) f);
        }

    pub moves_on : (R S T : Bool → Load → Progress → Progress → Type 0) (whole : Bool) (old mid new : Run) (ws ms ws' : List (Writer D G)) (held held' held'' : List ℕ) (faults faults' faults'' : ℕ) →
        ((l : Load) (P Q P' : Progress) → R true l P Q → S whole l Q P' → T whole l P P') →
        Moves R true old mid ws ms hears held held' faults faults' → Moves S whole mid new ms ws' hears held' held'' faults' faults'' → Moves T whole old new ws ws' hears held held'' faults faults''
    moves_on R S T whole old mid new ws ms ws' held held' held'' faults faults' faults'' f x y = record {
      went = λ bases K h es g k. (let a = x.went bases K h es g k in
          by bases K h es a whole f (y.went bases a.order a.hidden a.events a.stands (kept_after seen_now bases (noting old.flushes mid.flushes R) old.core mid.core ws ms old.clerk.acks mid.clerk.acks K h es k a)));
      heard = λ e q from first. y.heard e q from (x.heard refl q from first);
      rose = λ e. elim (y.rose e) [
        | inl was ↦ elim (x.rose was) [ inl earlier ↦ inl earlier | inr r ↦ inr (rose_more faults faults' faults'' y.later r) ]
        | inr r ↦ inr (rose_on faults faults' faults'' x.later r)
      ];
      later = omega (arith, x.later, y.later);
      on = y.on;
    }
      where
        by : (bases : ℕ → List ℕ) (K : List (Act Txn)) (h : Hidden) (es : List machine.Event) (a : Went bases (noting old.flushes mid.flushes R) true old.core mid.core ws ms old.clerk.acks mid.clerk.acks K h es) (b : Bool) →
            ((l : Load) (P Q P' : Progress) → R true l P Q → S b l Q P' → T b l P P') → WentBy bases S b mid new ms ws' hears held' held'' a.order a.hidden a.events → WentBy bases T b old new ws ws' hears held held'' K h es
        by bases K h es a true f w = went_on seen_now bases (noting old.flushes mid.flushes R) (noting mid.flushes new.flushes S) (noting old.flushes new.flushes T) true old.core mid.core new.core ws ms ws' old.clerk.acks mid.clerk.acks new.clerk.acks K h es (noting_on R S T true old.flushes mid.flushes new.flushes f) a w
        by bases K h es a false f w = record {
          told_now = w.told_now;
          went = went_on seen_now bases (noting old.flushes mid.flushes R) S T false old.core mid.core new.core ws ms ws' old.clerk.acks mid.clerk.acks w.told_now K h es (λ l P Q P' p q. f l P Q P' p.0 q) a w.went;
          count = w.count;
          heard = λ q from first. w.heard q from (x.heard refl q from first);
        }

    pub moves_as : (R S : Bool → Load → Progress → Progress → Type 0) (whole : Bool) (old new : Run) (ws ws' : List (Writer D G)) (held held' : List ℕ) (faults faults' : ℕ) →
        ((l : Load) (P P' : Progress) → R whole l P P' → S whole l P P') → Moves R whole old new ws ws' hears held held' faults faults' → Moves S whole old new ws ws' hears held held' faults faults'
    moves_as R S whole old new ws ws' held held' faults faults' f x = record {
      went = λ bases K h es g k. by bases K h es whole f (x.went bases K h es g k);
      heard = x.heard;
      rose = x.rose;
      later = x.later;
      on = x.on;
    }
      where
        by : (bases : ℕ → List ℕ) (K : List (Act Txn)) (h : Hidden) (es : List machine.Event) (b : Bool) → ((l : Load) (P P' : Progress) → R b l P P' → S b l P P') → WentBy bases R b old new ws ws' hears held held' K h es → WentBy bases S b old new ws ws' hears held held' K h es
        by bases K h es true f w = went_as seen_now bases (noting old.flushes new.flushes R) (noting old.flushes new.flushes S) true old.core new.core ws ws' old.clerk.acks new.clerk.acks K h es (noting_as R S true old.flushes new.flushes f) w
        by bases K h es false f w = record {
          told_now = w.told_now;
          went = went_as seen_now bases R S false old.core new.core ws ws' old.clerk.acks w.told_now K h es f w.went;
          count = w.count;
          heard = w.heard;
        }

    pub moves_none : (R : Bool → Load → Progress → Progress → Type 0) (run : Run) (ws : List (Writer D G)) (held : List ℕ) (faults : ℕ) → IsOn ws run → ((P : Progress) → R true run.core.load P P) → Moves R true run run ws ws hears held held faults faults
    moves_none R run ws held faults on r = manages_moves R true run run ws ws held faults (manages_none R run ws on r)

    -- the clerk's turn
    module _ (old new : Run) (ws : List (Writer D G)) (held held' : List ℕ) (faults faults' : ℕ) (on : IsOn ws old) (later : faults ≤ faults') (rose : new.clerk.sink_failed ≡ true → (old.clerk.sink_failed ≡ true) ⊎ Rose faults faults')
        (load : new.core.load ≡ old.core.load) (failed : new.failed ≡ old.failed) (workers : new.workers ≡ old.workers) (streams : new.streams ≡ old.streams) (flushes : new.flushes ≡ old.flushes) where
      abbrev Clears : {A : Type 0} → Result A NoMemory → Type 0
      Clears r = (K : List (Act Txn)) (h : Hidden) (es : List machine.Event) → Stands old.core K h → Passed clerks old.core new.core old.clerk.acks new.clerk.acks old.clerk.sink_failed new.clerk.sink_failed hears held held' K h es r

      quiet : (whole : Bool) (l : Load) (P P' : Progress) → clerks whole l P P' → Quiet P.state P'.state
      quiet whole l P P' q = record { grown = clerked_grows (setting_of l) l.workers l.streams P P' whole q; same = λ i. clerked_same (setting_of l) l.workers l.streams P P' i whole q }

      pub clerk_moves : (A : Type 0) (r : Result A NoMemory) → Clears r → OnOk r (hears → (from : List ℕ) → Heard from old.clerk.acks old.clerk.sink_failed held → Heard from new.clerk.acks new.clerk.sink_failed held') →
          Moves clerks (is_ok r) old new ws ws hears held held' faults faults'
      clerk_moves A (Ok a) passed heard = record {
        went = went;
        heard = λ e. heard;
        rose = rose;
        later = later;
        on = λ e. (let a = on.along in
            let c = passed a.order a.hidden [] a.stands in
            let q = quiet true old.core.load (progress old.core a.hidden [] a.order old.clerk.acks) (progress new.core c.hidden c.events c.order new.clerk.acks) c.moved in
            let w = went a.bases a.order a.hidden [] a.stands a.kept in
            record {
              along = record {
                bases = a.bases;
                order = w.order;
                hidden = w.hidden;
                stands = w.stands;
                kept = kept_after seen_now a.bases (noting old.flushes new.flushes clerks) old.core new.core ws ws old.clerk.acks new.clerk.acks a.order a.hidden [] a.kept w;
                lowest = subst (λ (f : Option ℕ). NamesLowest new.core.load.streams (stops_in (core_of new.core w.hidden)) f) (sym failed)
                    (subst (λ (l : Load). NamesLowest l.streams (stops_in (core_of new.core w.hidden)) old.failed) (sym load)
                    (lowest_same old.core.load.streams (core_of old.core a.hidden) (core_of new.core w.hidden) (λ j. (q.same j).stop) old.failed a.lowest));
              };
              workers = workers ∙ on.workers ∙ sym (ap (λ (l : Load). l.workers) load);
              streams = streams ∙ on.streams ∙ sym (ap (λ (l : Load). l.streams) load);
            });
      }
        where
          went : (bases : ℕ → List ℕ) (K : List (Act Txn)) (h : Hidden) (es : List machine.Event) → Stands old.core K h → AreKept bases ws old.core h → Went bases (noting old.flushes new.flushes clerks) true old.core new.core ws ws old.clerk.acks new.clerk.acks K h es
          went bases K h es g k =
              let c = passed K h es g in
              let P = progress old.core h es K old.clerk.acks in
              let P' = progress new.core c.hidden c.events c.order new.clerk.acks in
              went_quiet seen_now bases (noting old.flushes new.flushes clerks) true old.core new.core ws old.clerk.acks new.clerk.acks K h es k (record {
                hidden = c.hidden;
                order = c.order;
                events = c.events;
                stands = c.stands;
                load = c.load;
                taken = c.taken;
                moved = (c.moved, λ e was. noted_same old.flushes new.flushes P P' flushes (clerked_silent true old.core.load P P' e c.moved) was);
              }) (quiet true old.core.load P P' c.moved) (λ e. clerked_silent true old.core.load P P' e c.moved)
      clerk_moves A (Err e) passed heard = record {
        went = λ bases K h es g k. (let t = passed K h es g in let c = t.comes in
            record {
              told_now = t.told;
              went = went_quiet seen_now bases clerks false old.core new.core ws old.clerk.acks t.told K h es k c (quiet false old.core.load (progress old.core h es K old.clerk.acks) (progress new.core c.hidden c.events c.order t.told) c.moved) (λ e. absurd (let bad : false ≡ true = e in cc));
              count = t.count;
              heard = t.heard;
            });
        heard = λ e. absurd (let bad : false ≡ true = e in cc);
        rose = rose;
        later = later;
        on = λ e. absurd (let bad : false ≡ true = e in cc);
      }
