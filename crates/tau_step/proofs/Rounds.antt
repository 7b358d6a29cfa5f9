-- Rounds of a run.
use Rattle.std.proofs.Common.{ℕ, ◌+◌, ◌<◌, ◌≤◌, ◌≡◌, Bool, true, false, inl, inr, List, [], ◌∷◌, refl, sym, ap, subst, ◌∙◌, arith}
use Rattle.std.specs.Prelude.{◌||◌, is_ok, OnOk, Result, Ok, Err}
use Rattle.std.proofs.lemmas.Bool.{cases_Bool}
use Rattle.tau_base.specs.declared.value.NoMemory.{NoMemory}
use Rattle.tau_disk.specs.declared.disk.Disk.{Ghosts}
use Rattle.tau_stream.specs.declared.writer.Writer.{Writer}
use Rattle.tau_text.specs.declared.load.Turn.TheVariants as turn
use Rattle.tau_core.specs.declared.state.Load.{Load}
use Rattle.tau_core.specs.View.{core_of, setting_of}
use Rattle.tau_core.specs.Opens.{nothing}
use Rattle.tau_core.specs.State.{Plain}
use Rattle.tau_core.specs.Stands.{Stood}
use Rattle.tau_run.specs.Run.{below}
use Rattle.tau_occ.specs.Peeker.{PlainPeeker}
use Rattle.tau_occ.specs.declared.style.Style.{Style}
use Rattle.tau_text.specs.declared.load.Workload.{Workload}
use Rattle.tau_run.specs.Turns.{Progress}
use Rattle.tau_step.specs.TurnParts.{is_busy}
use Rattle.tau_run.specs.Schedule.{Word, Rounds, RunState, Began, any_turn, peeked}
use Rattle.tau_run.proofs.LateSteps as late
use Rattle.tau_run.proofs.Steps.{began_none}
use Rattle.tau_step.proofs.ToSteps as to_steps
use Rattle.tau_step.specs.declared.manager.Managing.{Managing}
use Rattle.tau_step.specs.declared.run.Run.{Run}
use Rattle.tau_step.specs.Along.{Quiet, Silent}
use Rattle.tau_step.specs.Optimists.{AreFit, Peeks, all_turns_left, peeks_of}
use Rattle.tau_step.specs.RunEffects.{IsOn, SameWorkers, Works, Manages, Moves, rests_in}
use Rattle.tau_step.specs.Progressed.{progress, clerks}
use Rattle.tau_step.specs.Rounding.{managed, Rounded, any_now, becomes, none_peeked, of_managers, worked_by, rounded_by, round_by, in_rounds, managed_by, managed_below, all_managed, rest_of_round}
use Rattle.tau_step.proofs.RunSteps.{kept_after, went_on}
use Rattle.tau_step.specs.Device.{noting}
use Rattle.tau_step.proofs.Silent.{false_not}
use Rattle.tau_step.proofs.EffectsInTurn.{works_on, works_none, works_manages, manages_on, manages_as, manages_none, manages_moves, moves_on, moves_as, moves_none}
use Rattle.tau_step.proofs.ManagerRuns.{moved_by}
use Rattle.tau_step.proofs.Scheduled.{left_all, left_on, kept_all, kept_both, kept_short, kept_next, kept_cut}
use Rattle.tau_step.proofs.StyleFits.{fit_beyond}
use Rattle.tau_step.proofs.StyleRuns.{turns_same}
use Rattle.tau_step.proofs.Words.{word_kept}
use Rattle.tau_step.proofs.RoundSteps.{rounded_none, rounded_more, rounded_cut, rounds_over, round_rest_of, round_cut_short}

-- ---- workers

-- the first i workers of the run have acted
abbrev pub rounded_below : Style → Peeks → Peeks → ℕ → Bool → Bool → Load → Progress → Progress → Type 0
rounded_below style f g i any whole l P P' = Rounded style f g i any l P P'

pub below_quiet : (style : Style) (f g : Peeks) (i : ℕ) (any whole : Bool) (l : Load) (P P' : Progress) → rounded_below style f g i any whole l P P' → Quiet P.state P'.state
below_quiet style f g i any whole l P P' q = q.quiet

module _ (style : Style) where
  pub workers_none : (f : Peeks) (run : Run) → Stood run.core → Works (rounded_below style f f 0 false) true run run
  workers_none f run stood = works_none (rounded_below style f f 0 false) run stood (λ P. rounded_none style f run.core.load P)

  pub workers_more : (f g k : Peeks) (i : ℕ) (any acted any' : Bool) (old mid new : Run) → any' ≡ (any || acted) → Works (rounded_below style f g i any) true old mid → Works (worked_by style g k i (Ok acted)) true mid new → Works (rounded_below style f k (i + 1) any') true old new
  workers_more f g k i any acted any' old mid new e x y = works_on (rounded_below style f g i any) (worked_by style g k i (Ok acted)) (rounded_below style f k (i + 1) any') true old mid new
      (λ l P Q P' r t. rounded_more style f g k i any acted any' l P Q P' r t.0 t.1 e) x y

  pub workers_cut : (f g k : Peeks) (i : ℕ) (any : Bool) (error : NoMemory) (old mid new : Run) → i < old.core.load.workers → Works (rounded_below style f g i any) true old mid → Works (worked_by style g k i (Err error)) false mid new → Works (rounded_by style f k (Err error)) false old new
  workers_cut f g k i any error old mid new lt x y = record {
    comes = λ K h es told stands. (let c = x.comes K h es told stands in let d = y.comes c.order c.hidden c.events told c.stands in
        record {
          hidden = d.hidden;
          order = d.order;
          events = d.events;
          stands = d.stands;
          load = d.load ∙ c.load;
          taken = d.taken ∙ c.taken;
          moved = rounded_cut style f g k i any old.core.load (progress old.core h es K told) (progress mid.core c.hidden c.events c.order told) (progress new.core d.hidden d.events d.order told) lt c.moved d.moved;
        });
    stood = y.stood;
    load = y.load ∙ x.load;
    clerk = y.clerk ∙ x.clerk;
    failed = y.failed ∙ x.failed;
    workers = y.workers ∙ x.workers;
    streams = y.streams ∙ x.streams;
    flushes = y.flushes ∙ x.flushes;
  }

  pub workers_all : (f g : Peeks) (i : ℕ) (any : Bool) (old new : Run) → i ≡ old.core.load.workers → Works (rounded_below style f g i any) true old new → Works (rounded_by style f g (Ok any)) true old new
  workers_all f g i any old new e x = record {
    comes = λ K h es told stands. (let c = x.comes K h es told stands in
        record {
          hidden = c.hidden;
          order = c.order;
          events = c.events;
          stands = c.stands;
          load = c.load;
          taken = c.taken;
          moved = subst (λ (k : ℕ). Rounded style f g k any old.core.load (progress old.core h es K told) (progress new.core c.hidden c.events c.order told)) e c.moved;
        });
    stood = x.stood;
    load = x.load;
    clerk = x.clerk;
    failed = x.failed;
    workers = x.workers;
    streams = x.streams;
    flushes = x.flushes;
  }

  pub rounded_quiet : (f g : Peeks) (r : Result Bool NoMemory) (whole : Bool) (l : Load) (P P' : Progress) → rounded_by style f g r whole l P P' → Quiet P.state P'.state
  rounded_quiet f g (Ok any) whole l P P' q = q.quiet
  rounded_quiet f g (Err e) whole l P P' q = q.quiet

  busy_of : (f g : Peeks) (l : Load) (P P' : Progress) → rounded_by style f g (Ok true) true l P P' → any_now l P f ≡ true
  busy_of f g l P P' r = sym r.any_is

  pub rounded_silent : (f g : Peeks) (any whole : Bool) (l : Load) (P P' : Progress) → whole ≡ true → rounded_by style f g (Ok any) whole l P P' → Silent P P'
  rounded_silent f g any whole l P P' e q = q.silent

pub totals_more : (any acted any' : Bool) (t s s' : ℕ) → any' ≡ (any || acted) → s ≤ t → (any ≡ true → s < t) → (acted ≡ true → s' < s) → (acted ≡ false → s' ≡ s) → (s' ≤ t) × (any' ≡ true → s' < t)
totals_more any true any' t s s' e le less falls stays = let f = falls refl in (omega (arith, le, f), λ q. omega (arith, le, f))
totals_more any false any' t s s' e le less falls stays = let f = stays refl in (omega (arith, le, f), λ q. (let was : any ≡ true = sym (or_none any) ∙ sym e ∙ q in let l = less was in omega (arith, l, f)))
  where
    or_none : (b : Bool) → (b || false) ≡ b
    or_none true = refl
    or_none false = refl

-- ---- managers

module _ {D : Type 0} {G : Ghosts D} (seen_now : (d : D) → G.tells → G.may_leave d (G.seen d)) where
  pub managers_none : (run : Run) (ws : List (Writer D G)) → IsOn ws run → Manages (managed_below 0) true run run ws ws
  managers_none run ws on = manages_none seen_now (managed_below 0) run ws on (λ P. kept_all [] run.core.load P)

  pub managers_more : (i : ℕ) (a : Managing) (old mid new : Run) (ws ms ws' : List (Writer D G)) → Manages (managed_below i) true old mid ws ms → Manages (managed_by i (Ok a)) true mid new ms ws' → Manages (managed_below (i + 1)) true old new ws ws'
  managers_more i a old mid new ws ms ws' x y = manages_on seen_now (managed_below i) (managed_by i (Ok a)) (managed_below (i + 1)) true old mid new ws ms ws'
      (λ l P Q P' p q. kept_next (λ j. Word (turn.Manager j)) i l P Q P' p (λ style f. to_steps.managed (setting_of l) l.workers l.streams style f i Q P' (moved_by i a l Q P' q))) x y

  pub managers_cut : (i : ℕ) (error : NoMemory) (old mid new : Run) (ws ms ws' : List (Writer D G)) → i < old.core.load.streams → Manages (managed_below i) true old mid ws ms → Manages (managed_by i (Err error)) false mid new ms ws' → Manages all_managed false old new ws ws'
  managers_cut i error old mid new ws ms ws' lt x y = record {
    went = λ bases K h es told g k. (let a = x.went bases K h es told g k in
        let b = y.went bases a.order a.hidden a.events told a.stands (kept_after seen_now bases (noting old.flushes mid.flushes (managed_below i)) old.core mid.core ws ms told told K h es k a) in
        let whole = went_on seen_now bases (noting old.flushes mid.flushes (managed_below i)) (noting mid.flushes new.flushes (managed_by i (Err error))) (cut_at i) false old.core mid.core new.core ws ms ws' told told told K h es (λ l P Q P' p q. (Q, p.0, q.0)) a b in
        record {
          hidden = whole.hidden;
          order = whole.order;
          events = whole.events;
          stands = whole.stands;
          load = whole.load;
          moved = (join old.core.load lt (progress old.core h es K told) (progress new.core whole.hidden whole.events whole.order told) whole.moved, λ e. false_not e);
          grown = whole.grown;
          count = whole.count;
          kept = whole.kept;
          since = whole.since;
          calls = λ all. false_not all;
        });
    clerk = y.clerk ∙ x.clerk;
    streams = y.streams ∙ x.streams;
    on = λ e. absurd (let bad : false ≡ true = e in cc);
  }
    where
      cut_at : ℕ → Bool → Load → Progress → Progress → Type 0
      cut_at k whole l P P' = (Q : Progress) × managed_below k true l P Q × managed k false l Q P'

      join : (l : Load) → i < l.streams → (P P' : Progress) → cut_at i false l P P' → all_managed false l P P'
      join l lt P P' (Q, p, q) = kept_cut (λ j. Word (turn.Manager j)) i l.streams lt l P Q P' p (λ style f. to_steps.managed_part (setting_of l) l.workers l.streams style f i Q P' q)

  pub managers_all : (i : ℕ) (old new : Run) (ws ws' : List (Writer D G)) → i ≡ old.core.load.streams → Manages (managed_below i) true old new ws ws' → Manages all_managed true old new ws ws'
  managers_all i old new ws ws' e x = record {
    went = λ bases K h es told g k. (let a = x.went bases K h es told g k in
        record {
          hidden = a.hidden;
          order = a.order;
          events = a.events;
          stands = a.stands;
          load = a.load;
          grown = a.grown;
          count = a.count;
          kept = a.kept;
          since = a.since;
          calls = a.calls;
          moved = (subst (λ (k : ℕ). managed_below k true old.core.load (progress old.core h es K told) (progress new.core a.hidden a.events a.order told)) e a.moved.0, a.moved.1);
        });
    clerk = x.clerk;
    streams = x.streams;
    on = x.on;
  }

  -- ---- a round

  module _ (hears : Type 0) where
    -- the managers, and the clerk
    pub rest_clerk : (whole : Bool) (old mid new : Run) (ws ms : List (Writer D G)) (held held' : List ℕ) (faults faults' : ℕ) → Manages all_managed true old mid ws ms → Moves clerks whole mid new ms ms hears held held' faults faults' → Moves rest_of_round whole old new ws ms hears held held' faults faults'
    rest_clerk whole old mid new ws ms held held' faults faults' x y =
        moves_on seen_now hears all_managed clerks rest_of_round whole old mid new ws ms ms held held held' faults faults faults'
        (λ l P Q P' p q. kept_both (of_managers (below l.streams)) (Word turn.Clerk ∷ []) whole l P Q P' p (word_kept turn.Clerk tt whole l Q P' q)) (manages_moves seen_now hears all_managed true old mid ws ms held faults x) y

    pub rest_managers : (old new : Run) (ws ws' : List (Writer D G)) (held : List ℕ) (faults : ℕ) → Manages all_managed false old new ws ws' → Moves rest_of_round false old new ws ws' hears held held faults faults
    rest_managers old new ws ws' held faults x = moves_as seen_now hears all_managed rest_of_round false old new ws ws' held held faults faults
        (λ l P P' p. kept_short (of_managers (below l.streams)) (Word turn.Clerk ∷ []) l P P' p) (manages_moves seen_now hears all_managed false old new ws ws' held faults x)

    -- with its workers
    module _ (style : Style) (f g : Peeks) where
      workers_manage : (old mid : Run) (ws : List (Writer D G)) → IsOn ws old → Works (rounded_by style f g (Ok true)) true old mid → Manages (rounded_by style f g (Ok true)) true old mid ws ws
      workers_manage old mid ws on x = works_manages seen_now (rounded_by style f g (Ok true)) true old mid ws on (rounded_quiet style f g (Ok true) true) (rounded_silent style f g true true) x

      pub round_on : (old mid new : Run) (ws ws' : List (Writer D G)) (held held' : List ℕ) (faults faults' : ℕ) → Works (rounded_by style f g (Ok true)) true old mid → IsOn ws old → Moves rest_of_round true mid new ws ws' hears held held' faults faults' → Moves (round_by style f g (Ok true)) true old new ws ws' hears held held' faults faults'
      round_on old mid new ws ws' held held' faults faults' x on y =
          moves_on seen_now hears (rounded_by style f g (Ok true)) rest_of_round (round_by style f g (Ok true)) true old mid new ws ws ws' held held held' faults faults faults'
          (λ l P A P' r rest. round_rest_of style f g true l P A P' (busy_of style f g l P A r) r.turns rest)
          (manages_moves seen_now hears (rounded_by style f g (Ok true)) true old mid ws ws held faults (workers_manage old mid ws on x)) y

      pub round_cut : (error : NoMemory) (old mid new : Run) (ws ws' : List (Writer D G)) (held held' : List ℕ) (faults faults' : ℕ) → Works (rounded_by style f g (Ok true)) true old mid → IsOn ws old → Moves rest_of_round false mid new ws ws' hears held held' faults faults' → Moves (round_by style f g (Err error)) false old new ws ws' hears held held' faults faults'
      round_cut error old mid new ws ws' held held' faults faults' x on y =
          moves_on seen_now hears (rounded_by style f g (Ok true)) rest_of_round (round_by style f g (Err error)) false old mid new ws ws ws' held held held' faults faults faults'
          (λ l P A P' r rest. round_rest_of style f g false l P A P' (busy_of style f g l P A r) r.turns rest)
          (manages_moves seen_now hears (rounded_by style f g (Ok true)) true old mid ws ws held faults (workers_manage old mid ws on x)) y

      -- no worker had anything to do
      pub round_over : (old new : Run) (ws : List (Writer D G)) (held : List ℕ) (faults : ℕ) → Works (rounded_by style f g (Ok false)) true old new → IsOn ws old → Moves (round_by style f g (Ok false)) true old new ws ws hears held held faults faults
      round_over old new ws held faults x on =
          manages_moves seen_now hears (round_by style f g (Ok false)) true old new ws ws held faults (manages_as seen_now (rounded_by style f g (Ok false)) (round_by style f g (Ok false)) true old new ws ws
          (λ l P P' r. rounds_over style f g l P P' (sym r.any_is) (r.still refl))
          (works_manages seen_now (rounded_by style f g (Ok false)) true old new ws on (rounded_quiet style f g (Ok false) true) (rounded_silent style f g false true) x))

      pub round_short : (error : NoMemory) (old new : Run) (ws : List (Writer D G)) (held : List ℕ) (faults : ℕ) → Works (rounded_by style f g (Err error)) false old new → IsOn ws old → Moves (round_by style f g (Err error)) false old new ws ws hears held held faults faults
      round_short error old new ws held faults x on =
          manages_moves seen_now hears (round_by style f g (Err error)) false old new ws ws held faults (manages_as seen_now (rounded_by style f g (Err error)) (round_by style f g (Err error)) false old new ws ws
          (λ l P P' r. elim (cases_Bool (any_now l P f)) [
            | inl busy ↦ round_cut_short style f g l P P' busy r.turns
            | inr none ↦ subst (λ (x : RunState). Began (setting_of l) l.workers l.streams style (Rounds ∷ []) (peeked P f) x) (sym (r.still none)) (began_none (setting_of l) l.workers l.streams style (Rounds ∷ []) (peeked P f))
          ])
          (works_manages seen_now (rounded_by style f g (Err error)) false old new ws on (rounded_quiet style f g (Err error) false) (λ l P P' e q. false_not e) x))

-- by the answer of the rest of the round
pub round_rest : {D : Type 0} {G : Ghosts D} (seen_now : (d : D) → G.tells → G.may_leave d (G.seen d)) (hears : Type 0) (style : Style) (f g : Peeks) (r : Result Bool NoMemory) → (r ≡ Ok false → ⊥) → (old mid new : Run) (ws ws' : List (Writer D G)) (held held' : List ℕ) (faults faults' : ℕ) →
    Works (rounded_by style f g (Ok true)) true old mid → IsOn ws old → Moves rest_of_round (is_ok r) mid new ws ws' hears held held' faults faults' → Moves (round_by style f g r) (is_ok r) old new ws ws' hears held held' faults faults'
round_rest seen_now hears style f g (Ok true) some old mid new ws ws' held held' faults faults' x on y = round_on seen_now hears style f g old mid new ws ws' held held' faults faults' x on y
round_rest seen_now hears style f g (Ok false) some old mid new ws ws' held held' faults faults' x on y = absurd (some refl)
round_rest seen_now hears style f g (Err e) some old mid new ws ws' held held' faults faults' x on y = round_cut seen_now hears style f g e old mid new ws ws' held held' faults faults' x on y

pub round_less : (r : Result Bool NoMemory) (t : ℕ) (p p' : Plain) (f : Peeks) → all_turns_left p f < t → OnOk r (SameWorkers p p') → r ≡ Ok true → all_turns_left p' f < t
round_less (Ok b) t p p' f less same e = let l = less in let s = turns_same p p' f f same refl in omega (arith, l, s)
round_less (Err x) t p p' f less same e = absurd (let bad : Err x ≡ Ok true = e in cc)

-- after a round in which no worker had anything to do, none has, and nothing is peeked
pub round_rests : (style : Style) (f : Peeks) (load : Workload) (qs : List PlainPeeker) (old new : Run) → Stood old.core → AreFit style load new.core qs → Works (rounded_by style f (peeks_of qs) (Ok false)) true old new → rests_in new.core × (peeks_of qs ≡ none_peeked)
round_rests style f load qs old new stood fit x =
    let (K, h, g) = stood in
    let c = x.comes K h [] [] g in
    let d : Load = old.core.load in
    let P' : Progress = progress new.core c.hidden c.events c.order [] in
    let none : any_turn (setting_of d) d.workers d.streams (peeked P' (peeks_of qs)) ≡ false = ap (λ (z : RunState). any_turn (setting_of d) d.workers d.streams z) (c.moved.still refl) ∙ sym c.moved.any_is in
    let beyond : (w : ℕ) → d.workers ≤ w → peeks_of qs w ≡ [] = λ w le. fit_beyond style load new.core qs fit w (subst (λ (b : Load). b.workers ≤ w) (sym x.load) le) in
    let empty : peeks_of qs ≡ none_peeked = ap (λ (z : RunState). z.peeks) (late.none_peeked (setting_of d) d.workers d.streams (peeked P' (peeks_of qs)) none beyond) in
    let rests : is_busy (setting_of d) d.workers d.streams P'.state ≡ false = ap (λ (k : Peeks). any_turn (setting_of d) d.workers d.streams (peeked P' k)) (sym empty) ∙ none in
    (subst (λ (b : Load). is_busy (setting_of b) b.workers b.streams (core_of new.core nothing) ≡ false) (sym x.load) rests, empty)

-- ---- rounds, one after another

abbrev pub rounds_so : Style → Peeks → Peeks → Bool → Load → Progress → Progress → Type 0
rounds_so style f g whole l P P' = becomes style f g (Rounds ∷ []) (Rounds ∷ []) l P P'

module _ {D : Type 0} {G : Ghosts D} (seen_now : (d : D) → G.tells → G.may_leave d (G.seen d)) (hears : Type 0) (style : Style) where
  pub rounds_none : (f : Peeks) (run : Run) (ws : List (Writer D G)) (held : List ℕ) (faults : ℕ) → IsOn ws run → Moves (rounds_so style f f) true run run ws ws hears held held faults faults
  rounds_none f run ws held faults on = moves_none seen_now hears (rounds_so style f f) run ws held faults on (λ P. left_all style f (Rounds ∷ []) run.core.load P)

  module _ (f g k : Peeks) (old mid new : Run) (ws ms ws' : List (Writer D G)) (held held' held'' : List ℕ) (faults faults' faults'' : ℕ) (x : Moves (rounds_so style f g) true old mid ws ms hears held held' faults faults') where
    pub rounds_more : Moves (round_by style g k (Ok true)) true mid new ms ws' hears held' held'' faults' faults'' → Moves (rounds_so style f k) true old new ws ws' hears held held'' faults faults''
    rounds_more y = moves_on seen_now hears (rounds_so style f g) (round_by style g k (Ok true)) (rounds_so style f k) true old mid new ws ms ws' held held' held'' faults faults' faults'' (left_on style f g k (Rounds ∷ []) (Rounds ∷ []) (Rounds ∷ []) true) x y

    pub rounds_end : Moves (round_by style g k (Ok false)) true mid new ms ws' hears held' held'' faults' faults'' → Moves (in_rounds style f k) true old new ws ws' hears held held'' faults faults''
    rounds_end y = moves_on seen_now hears (rounds_so style f g) (round_by style g k (Ok false)) (in_rounds style f k) true old mid new ws ms ws' held held' held'' faults faults' faults'' (left_on style f g k (Rounds ∷ []) (Rounds ∷ []) [] true) x y

    pub rounds_cut : (e : NoMemory) → Moves (round_by style g k (Err e)) false mid new ms ws' hears held' held'' faults' faults'' → Moves (in_rounds style f k) false old new ws ws' hears held held'' faults faults''
    rounds_cut e y = moves_on seen_now hears (rounds_so style f g) (round_by style g k (Err e)) (in_rounds style f k) false old mid new ws ms ws' held held' held'' faults faults' faults''
        (left_on style f g k (Rounds ∷ []) (Rounds ∷ []) [] false) x y
