-- Managers until they are idle, and the last pass of the clerk.
use Rattle.std.proofs.Common.{ℕ, ◌+◌, ◌<◌, ◌≡◌, Bool, true, false, List, [], ◌∷◌, map, subst, ◌∙◌}
use Rattle.std.specs.Prelude.{Ok, Err}
use Rattle.tau_base.specs.declared.value.NoMemory.{NoMemory}
use Rattle.tau_disk.specs.declared.disk.Disk.{Ghosts}
use Rattle.tau_stream.specs.declared.writer.Writer.{Writer}
use Rattle.tau_core.specs.declared.state.Load.{Load}
use Rattle.tau_core.specs.View.{setting_of}
use Rattle.tau_run.specs.Run.{below}
use Rattle.tau_text.specs.declared.load.Turn.TheVariants as turn
use Rattle.tau_run.specs.Turns.{Progress}
use Rattle.tau_run.specs.Schedule.{Drain, Word}
use Rattle.tau_step.proofs.ToSteps.{drain_cut}
use Rattle.tau_step.specs.declared.manager.Managing.TheVariants as did
use Rattle.tau_step.specs.declared.run.Run.{Run}
use Rattle.tau_step.specs.RunEffects.{IsOn, Manages, Moves}
use Rattle.tau_step.specs.Progressed.{progress, clerks}
use Rattle.tau_step.specs.Rounding.{keeps, managed_by, flushed_by, idled, idled_below, all_idled, drained}
use Rattle.tau_step.proofs.RunSteps.{kept_after, went_on}
use Rattle.tau_step.specs.Device.{noting}
use Rattle.tau_step.proofs.Silent.{false_not}
use Rattle.tau_step.proofs.EffectsInTurn.{manages_on, manages_as, manages_none, manages_moves, moves_on, moves_as}
use Rattle.tau_step.proofs.Scheduled.{kept_all, kept_on, kept_both, kept_short, kept_next, kept_cut}
use Rattle.tau_step.proofs.Words.{word_kept}

abbrev pub idles_so : ℕ → Bool → Load → Progress → Progress → Type 0
idles_so j whole l P P' = keeps (Drain j ∷ []) (Drain j ∷ []) true l P P'

module _ {D : Type 0} {G : Ghosts D} (seen_now : (d : D) → G.tells → G.may_leave d (G.seen d)) where
  -- one turn
  pub flushed_as : (j : ℕ) (old new : Run) (ws ws' : List (Writer D G)) → Manages (managed_by j (Ok did.Flushed)) true old new ws ws' → Manages (flushed_by j (Ok true)) true old new ws ws'
  flushed_as j old new ws ws' x = manages_as seen_now (managed_by j (Ok did.Flushed)) (flushed_by j (Ok true)) true old new ws ws' (λ l P P' q. q.1) x

  pub idle_as : (j : ℕ) (old new : Run) (ws ws' : List (Writer D G)) → Manages (managed_by j (Ok did.Idle)) true old new ws ws' → Manages (flushed_by j (Ok false)) true old new ws ws'
  idle_as j old new ws ws' x = manages_as seen_now (managed_by j (Ok did.Idle)) (flushed_by j (Ok false)) true old new ws ws' (λ l P P' q. q.1) x

  pub failed_as : (j : ℕ) (old new : Run) (ws ws' : List (Writer D G)) → Manages (managed_by j (Ok did.Failed)) true old new ws ws' → Manages (flushed_by j (Ok false)) true old new ws ws'
  failed_as j old new ws ws' x = manages_as seen_now (managed_by j (Ok did.Failed)) (flushed_by j (Ok false)) true old new ws ws' (λ l P P' q. q.1) x

  pub short_as : (j : ℕ) (e : NoMemory) (old new : Run) (ws ws' : List (Writer D G)) → Manages (managed_by j (Err e)) false old new ws ws' → Manages (flushed_by j (Err e)) false old new ws ws'
  short_as j e old new ws ws' x = manages_as seen_now (managed_by j (Err e)) (flushed_by j (Err e)) false old new ws ws' (λ l P P' q. (λ style f. drain_cut (setting_of l) l.workers l.streams style f j P P' q)) x

  -- turns of one manager
  pub idles_none : (j : ℕ) (run : Run) (ws : List (Writer D G)) → IsOn ws run → Manages (idles_so j) true run run ws ws
  idles_none j run ws on = manages_none seen_now (idles_so j) run ws on (λ P. kept_all (Drain j ∷ []) run.core.load P)

  module _ (j : ℕ) (old mid new : Run) (ws ms ws' : List (Writer D G)) (x : Manages (idles_so j) true old mid ws ms) where
    pub idles_more : Manages (flushed_by j (Ok true)) true mid new ms ws' → Manages (idles_so j) true old new ws ws'
    idles_more y = manages_on seen_now (idles_so j) (flushed_by j (Ok true)) (idles_so j) true old mid new ws ms ws' (kept_on (Drain j ∷ []) (Drain j ∷ []) (Drain j ∷ []) true) x y

    pub idles_end : Manages (flushed_by j (Ok false)) true mid new ms ws' → Manages (idled j) true old new ws ws'
    idles_end y = manages_on seen_now (idles_so j) (flushed_by j (Ok false)) (idled j) true old mid new ws ms ws' (kept_on (Drain j ∷ []) (Drain j ∷ []) [] true) x y

    pub idles_cut : (e : NoMemory) → Manages (flushed_by j (Err e)) false mid new ms ws' → Manages (idled j) false old new ws ws'
    idles_cut e y = manages_on seen_now (idles_so j) (flushed_by j (Err e)) (idled j) false old mid new ws ms ws' (kept_on (Drain j ∷ []) (Drain j ∷ []) [] false) x y

  -- one manager after another
  pub drains_none : (run : Run) (ws : List (Writer D G)) → IsOn ws run → Manages (idled_below 0) true run run ws ws
  drains_none run ws on = manages_none seen_now (idled_below 0) run ws on (λ P. kept_all [] run.core.load P)

  pub drains_more : (i : ℕ) (old mid new : Run) (ws ms ws' : List (Writer D G)) → Manages (idled_below i) true old mid ws ms → Manages (idled i) true mid new ms ws' → Manages (idled_below (i + 1)) true old new ws ws'
  drains_more i old mid new ws ms ws' x y = manages_on seen_now (idled_below i) (idled i) (idled_below (i + 1)) true old mid new ws ms ws'
      (kept_next Drain i) x y

  pub drains_cut : (i : ℕ) (old mid new : Run) (ws ms ws' : List (Writer D G)) → i < old.core.load.streams → Manages (idled_below i) true old mid ws ms → Manages (idled i) false mid new ms ws' → Manages all_idled false old new ws ws'
  drains_cut i old mid new ws ms ws' lt x y = record {
    went = λ bases K h es told g k. (let a = x.went bases K h es told g k in
        let b = y.went bases a.order a.hidden a.events told a.stands (kept_after seen_now bases (noting old.flushes mid.flushes (idled_below i)) old.core mid.core ws ms told told K h es k a) in
        let whole = went_on seen_now bases (noting old.flushes mid.flushes (idled_below i)) (noting mid.flushes new.flushes (idled i)) cut_at false old.core mid.core new.core ws ms ws' told told told K h es (λ l P Q P' p q. (Q, p.0, q.0)) a b in
        record {
          hidden = whole.hidden;
          order = whole.order;
          events = whole.events;
          stands = whole.stands;
          load = whole.load;
          moved = (join old.core.load lt (progress old.core h es K told) (progress new.core whole.hidden whole.events whole.order told) whole.moved, λ e. false_not e);
          grown = whole.grown;
          count = whole.count;
          kept = whole.kept;
          since = whole.since;
          calls = λ all. false_not all;
        });
    clerk = y.clerk ∙ x.clerk;
    streams = y.streams ∙ x.streams;
    on = λ e. absurd (let bad : false ≡ true = e in cc);
  }
    where
      cut_at : Bool → Load → Progress → Progress → Type 0
      cut_at whole l P P' = (Q : Progress) × idled_below i true l P Q × idled i false l Q P'

      join : (l : Load) → i < l.streams → (P P' : Progress) → cut_at false l P P' → all_idled false l P P'
      join l low P P' (Q, p, q) = kept_cut Drain i l.streams low l P Q P' p q

  pub drains_all : (i : ℕ) (old new : Run) (ws ws' : List (Writer D G)) → i ≡ old.core.load.streams → Manages (idled_below i) true old new ws ws' → Manages all_idled true old new ws ws'
  drains_all i old new ws ws' e x = record {
    went = λ bases K h es told g k. (let a = x.went bases K h es told g k in
        record {
          hidden = a.hidden;
          order = a.order;
          events = a.events;
          stands = a.stands;
          load = a.load;
          grown = a.grown;
          count = a.count;
          kept = a.kept;
          since = a.since;
          calls = a.calls;
          moved = (subst (λ (k : ℕ). idled_below k true old.core.load (progress old.core h es K told) (progress new.core a.hidden a.events a.order told)) e a.moved.0, a.moved.1);
        });
    clerk = x.clerk;
    streams = x.streams;
    on = x.on;
  }

  module _ (hears : Type 0) where
    pub drain_whole : (whole : Bool) (old mid new : Run) (ws ms : List (Writer D G)) (held held' : List ℕ) (faults faults' : ℕ) → Manages all_idled true old mid ws ms → Moves clerks whole mid new ms ms hears held held' faults faults' → Moves drained whole old new ws ms hears held held' faults faults'
    drain_whole whole old mid new ws ms held held' faults faults' x y =
        moves_on seen_now hears all_idled clerks drained whole old mid new ws ms ms held held held' faults faults faults'
        (λ l P Q P' p q. kept_both (map Drain (below l.streams)) (Word turn.Clerk ∷ []) whole l P Q P' p (word_kept turn.Clerk tt whole l Q P' q)) (manages_moves seen_now hears all_idled true old mid ws ms held faults x) y

    pub drain_managers : (old new : Run) (ws ws' : List (Writer D G)) (held : List ℕ) (faults : ℕ) → Manages all_idled false old new ws ws' → Moves drained false old new ws ws' hears held held faults faults
    drain_managers old new ws ws' held faults x = moves_as seen_now hears all_idled drained false old new ws ws' held held faults faults (λ l P P' p. kept_short (map Drain (below l.streams)) (Word turn.Clerk ∷ []) l P P' p) (manages_moves seen_now hears all_idled false old new ws ws' held faults x)
