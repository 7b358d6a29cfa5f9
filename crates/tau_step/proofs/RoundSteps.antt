-- Rounds in a style, step by step.
use Rattle.std.proofs.Common.{ℕ, suc, ◌<◌, ◌≡◌, Bool, true, false, List, [], ◌∷◌, ◌++◌, map, refl, sym, ap, subst, ◌∙◌, append_assoc, arith, ◌+◌}
use Rattle.std.specs.Prelude.{◌||◌}
use Rattle.std.specs.List.{list_any}
use Rattle.std.proofs.lemmas.List.{map-append}
use Rattle.tau_base.proofs.Lists.{map_map}
use Rattle.tau_base.proofs.Logic.{or_first}
use Rattle.tau_occ.specs.declared.style.Style.{Style}
use Rattle.tau_text.specs.declared.load.Turn.TheVariants as turn
use Rattle.tau_core.specs.declared.state.Load.{Load}
use Rattle.tau_core.specs.View.{setting_of}
use Rattle.tau_run.specs.Run.{below}
use Rattle.tau_run.specs.Turns.{Progress, round}
use Rattle.tau_run.specs.Schedule.{Todo, Word, Rounds, RunState, Began, Steps, on, peeked}
use Rattle.tau_run.proofs.Steps.{began_none, if_yes}
use Rattle.tau_step.specs.Along.{Quiet, Silent}
use Rattle.tau_step.specs.Counts.{flushed_in}
use Rattle.tau_step.specs.Optimists.{Peeks, turned_in}
use Rattle.tau_step.specs.Rounding.{becomes, leaves, ran, of_workers, of_managers, Rounded, RoundCut, rest_of_round, in_rounds, turns_now, any_now, worker_turned}
use Rattle.tau_step.proofs.Rounding.{any_below, any_more, quiet_none, quiet_on, quiet_same}
use Rattle.tau_step.proofs.Scheduled.{left_all, left_after, ran_both, ran_short, ran_next, ran_cut}
use Rattle.tau_step.proofs.StyleTurns.{turn_quiet, turn_silent, turn_later}
use Rattle.tau_step.proofs.ToSteps as to_steps
use Rattle.tau_step.proofs.Idling.{if_else}

same_run : (P P' : Progress) (f f' : Peeks) → peeked P' f' ≡ peeked P f → P' ≡ P
same_run P P' f f' e = ap (λ (x : RunState). x.progress) e

module _ (style : Style) where
  -- ---- the turn of a worker

  pub worker_quiet : (f f' : Peeks) (w : ℕ) (whole : Bool) (l : Load) (P P' : Progress) → worker_turned style f f' w whole l P P' → Quiet P.state P'.state
  worker_quiet f f' w true l P P' h = turn_quiet (setting_of l) l.workers l.streams style w f f' P P' h
  worker_quiet f f' w false l P P' h = quiet_same P P' (same_run P P' f f' h)

  pub worker_silent : (f f' : Peeks) (w : ℕ) (whole : Bool) (l : Load) (P P' : Progress) → worker_turned style f f' w whole l P P' → Silent P P'
  worker_silent f f' w true l P P' h = turn_silent (setting_of l) l.workers l.streams style w f f' P P' h
  worker_silent f f' w false l P P' h = ap (λ (X : Progress). flushed_in X.events) (same_run P P' f f' h)

  -- a worker that has nothing to do
  pub worked_still : (f f' : Peeks) (w : ℕ) (l : Load) (P P' : Progress) → turns_now l P f w ≡ false → turned_in style w f f' l P P' → peeked P' f' ≡ peeked P f
  worked_still f f' w l P P' none h = if_else (turns_now l P f w) _ _ none h

  -- ---- a round of workers

  pub rounded_none : (f : Peeks) (l : Load) (P : Progress) → Rounded style f f 0 false l P P
  rounded_none f l P = record { turns = left_all style f [] l P; any_is = refl; still = λ e. refl; later = λ w le. refl; quiet = quiet_none P.state; silent = refl }

  pub rounded_more : (f g h : Peeks) (i : ℕ) (any did any' : Bool) (l : Load) (P Q P' : Progress) → Rounded style f g i any l P Q → did ≡ turns_now l Q g i → turned_in style i g h l Q P' → any' ≡ (any || did) → Rounded style f h (i + 1) any' l P P'
  rounded_more f g h i any did any' l P Q P' r is took e =
      let found : did ≡ turns_now l P f i = is ∙ r.later i (omega arith) in
      let next : suc i ≡ i + 1 = omega arith in
      record {
        turns = ran_next style (λ w. Word (turn.Worker w)) f g h i l P Q P' r.turns (to_steps.worked (setting_of l) l.workers l.streams style g i h Q P' took);
        any_is = e ∙ ap (λ (b : Bool). b || did) r.any_is ∙ ap (λ (b : Bool). list_any (turns_now l P f) (below i) || b) found ∙ sym (any_more (turns_now l P f) i) ∙ ap (λ (k : ℕ). list_any (turns_now l P f) (below k)) next;
        still = λ none.
            (let both : (any || did) ≡ false = sym e ∙ none in
            let first = or_first any did both in
            let second : did ≡ false = sym (ap (λ (b : Bool). b || did) first) ∙ both in
            worked_still g h i l Q P' (sym is ∙ second) took ∙ r.still first);
        later = λ w le. turn_later (setting_of l) l.workers l.streams style i g h Q P' took w (λ same. absurd (omega (arith, same, le))) ∙ r.later w (omega (arith, le));
        quiet = quiet_on P.state Q.state P'.state r.quiet (turn_quiet (setting_of l) l.workers l.streams style i g h Q P' took);
        silent = turn_silent (setting_of l) l.workers l.streams style i g h Q P' took ∙ r.silent;
      }

  pub rounded_cut : (f g h : Peeks) (i : ℕ) (any : Bool) (l : Load) (P Q P' : Progress) → i < l.workers → Rounded style f g i any l P Q → peeked P' h ≡ peeked Q g → RoundCut style f h l P P'
  rounded_cut f g h i any l P Q P' lt r e = record {
    turns = ran_cut style (λ w. Word (turn.Worker w)) f g h i l.workers lt l P Q P' r.turns
        (subst (λ (x : RunState). Began (setting_of l) l.workers l.streams style (Word (turn.Worker i) ∷ []) (peeked Q g) x) (sym e) (began_none (setting_of l) l.workers l.streams style (Word (turn.Worker i) ∷ []) (peeked Q g)));
    still = λ none. e ∙ r.still (r.any_is ∙ any_below (turns_now l P f) i l.workers lt none);
    quiet = quiet_on P.state Q.state P'.state r.quiet (quiet_same Q P' (same_run Q P' g h e));
  }

  -- ---- rounds

  -- a round begins
  pub round_begins : (f : Peeks) (l : Load) (P : Progress) → any_now l P f ≡ true → becomes style f f (Rounds ∷ []) (of_workers (below l.workers) ++ (of_managers (below l.streams) ++ Word turn.Clerk ∷ []) ++ Rounds ∷ []) l P P
  round_begins f l P busy = λ later rest z s. on (map Word (round (setting_of l) l.workers l.streams) ++ Rounds ∷ []) (if_yes (any_now l P f) _ _ busy (refl, refl))
      (subst (λ (ts : List Todo). Steps (setting_of l) l.workers l.streams style ((ts ++ Rounds ∷ []) ++ later) (peeked P f) rest z) words s)
    where
      words : of_workers (below l.workers) ++ (of_managers (below l.streams) ++ Word turn.Clerk ∷ []) ≡ map Word (round (setting_of l) l.workers l.streams)
      words =
          ap (λ (ts : List Todo). ts ++ (of_managers (below l.streams) ++ Word turn.Clerk ∷ [])) (sym (map_map Word turn.Worker (below l.workers)))
          ∙ ap (λ (ts : List Todo). map Word (map turn.Worker (below l.workers)) ++ (ts ++ Word turn.Clerk ∷ [])) (sym (map_map Word turn.Manager (below l.streams)))
          ∙ sym (append_assoc (map Word (map turn.Worker (below l.workers))) (map Word (map turn.Manager (below l.streams))) (Word turn.Clerk ∷ []))
          ∙ ap (λ (ts : List Todo). ts ++ Word turn.Clerk ∷ []) (sym (map-append Word (map turn.Worker (below l.workers)) (map turn.Manager (below l.streams))))
          ∙ sym (map-append Word (map turn.Worker (below l.workers) ++ map turn.Manager (below l.streams)) (turn.Clerk ∷ []))

  -- and none begins
  pub rounds_over : (f f' : Peeks) (l : Load) (P P' : Progress) → any_now l P f ≡ false → peeked P' f' ≡ peeked P f → in_rounds style f f' true l P P'
  rounds_over f f' l P P' none same = λ later rest z s.
      subst (λ (x : RunState). Steps (setting_of l) l.workers l.streams style later x rest z → Steps (setting_of l) l.workers l.streams style (Rounds ∷ later) (peeked P f) rest z) (sym same)
      (to_steps.rounds_over (setting_of l) l.workers l.streams style f P none later rest z) s

  round_done : (f g : Peeks) (whole : Bool) (l : Load) (P P' : Progress) → ran style f g (of_workers (below l.workers) ++ (of_managers (below l.streams) ++ Word turn.Clerk ∷ [])) whole l P P' → any_now l P f ≡ true → leaves style f g (Rounds ∷ []) (Rounds ∷ []) whole l P P'
  round_done f g whole l P P' r busy = left_after style f f g (Rounds ∷ []) (of_workers (below l.workers) ++ (of_managers (below l.streams) ++ Word turn.Clerk ∷ [])) (Rounds ∷ []) whole l P P P' (round_begins f l P busy) r

  -- the workers' part of a round, and the rest of it, or a part
  pub round_rest_of : (f g : Peeks) (whole : Bool) (l : Load) (P A P' : Progress) → any_now l P f ≡ true → ran style f g (of_workers (below l.workers)) true l P A → rest_of_round whole l A P' → leaves style f g (Rounds ∷ []) (Rounds ∷ []) whole l P P'
  round_rest_of f g whole l P A P' busy workers rest =
      round_done f g whole l P P' (ran_both style f g g (of_workers (below l.workers)) (of_managers (below l.streams) ++ Word turn.Clerk ∷ []) whole l P A P' workers (rest style g)) busy

  pub round_cut_short : (f g : Peeks) (l : Load) (P P' : Progress) → any_now l P f ≡ true → ran style f g (of_workers (below l.workers)) false l P P' → in_rounds style f g false l P P'
  round_cut_short f g l P P' busy workers = round_done f g false l P P' (ran_short style f g (of_workers (below l.workers)) (of_managers (below l.streams) ++ Word turn.Clerk ∷ []) l P P' workers) busy
