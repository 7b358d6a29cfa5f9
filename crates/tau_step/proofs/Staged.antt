-- The parts of a run, one after another.
use Rattle.std.proofs.Common.{ℕ, ◌≡◌, Bool, true, false, List, ◌∷◌, map, refl, sym, subst}
use Rattle.std.specs.Prelude.{[]}
use Rattle.tau_disk.specs.declared.disk.Disk.{Ghosts}
use Rattle.tau_stream.specs.declared.writer.Writer.{Writer}
use Rattle.tau_text.specs.declared.load.Turn.{Turn}
use Rattle.tau_occ.specs.declared.style.Style.{Style}
use Rattle.tau_core.specs.declared.state.Load.{Load}
use Rattle.tau_run.specs.Turns.{Progress}
use Rattle.tau_step.specs.declared.run.Run.{Run}
use Rattle.tau_step.specs.Along.{Quiet}
use Rattle.tau_step.specs.RunEffects.{IsOn, Works, Moves}
use Rattle.tau_run.specs.Schedule.{Word, Rounds, LeftOver}
use Rattle.tau_step.specs.Optimists.{Peeks}
use Rattle.tau_step.specs.Rounding.{last_todos, none_peeked, ran, turned_all, in_rounds, ran_left_over, drained, ran_last, ran_behind, ran_all}
use Rattle.tau_step.proofs.Scheduled.{left_all, ran_both, ran_short}
use Rattle.tau_step.proofs.EffectsInTurn.{works_manages, manages_moves, moves_on, moves_as, moves_none}

left_quiet : (whole : Bool) (l : Load) (P P' : Progress) → ran_left_over whole l P P' → Quiet P.state P'.state
left_quiet whole l P P' q = q.quiet

module _ {D : Type 0} {G : Ghosts D} (seen_now : (d : D) → G.tells → G.may_leave d (G.seen d)) (hears : Type 0) where
  left_moves : (whole : Bool) (old new : Run) (ws : List (Writer D G)) (held : List ℕ) (faults : ℕ) → IsOn ws old → Works ran_left_over whole old new → Moves ran_left_over whole old new ws ws hears held held faults faults
  left_moves whole old new ws held faults on x = manages_moves seen_now hears ran_left_over whole old new ws ws held faults (works_manages seen_now ran_left_over whole old new ws on (left_quiet whole) (λ l P P' e q. q.silent) x)

  pub left_on : (old new : Run) (ws : List (Writer D G)) (held : List ℕ) (faults : ℕ) → IsOn ws old → Works ran_left_over true old new → IsOn ws new
  left_on old new ws held faults on x = (left_moves true old new ws held faults on x).on refl

  pub last_drained : (whole : Bool) (old mid new : Run) (ws ws' : List (Writer D G)) (held held' : List ℕ) (faults faults' : ℕ) → IsOn ws old → Works ran_left_over true old mid → Moves drained whole mid new ws ws' hears held held' faults faults' → Moves ran_last whole old new ws ws' hears held held' faults faults'
  last_drained whole old mid new ws ws' held held' faults faults' on x y =
      moves_on seen_now hears ran_left_over drained ran_last whole old mid new ws ws ws' held held held' faults faults faults'
      (λ l P Q P' p q. (λ style. ran_both style none_peeked none_peeked none_peeked (LeftOver ∷ []) (last_todos l) whole l P Q P' (p.turns style) (q style none_peeked))) (left_moves true old mid ws held faults on x) y

  pub last_short : (old new : Run) (ws : List (Writer D G)) (held : List ℕ) (faults : ℕ) → IsOn ws old → Works ran_left_over false old new → Moves ran_last false old new ws ws hears held held faults faults
  last_short old new ws held faults on x = moves_as seen_now hears ran_left_over ran_last false old new ws ws held held faults faults (λ l P P' p. (λ style. ran_short style none_peeked none_peeked (LeftOver ∷ []) (last_todos l) l P P' (p.turns style))) (left_moves false old new ws held faults on x)

  module _ (style : Style) where
    pub behind_last : (f g : Peeks) → g ≡ none_peeked → (whole : Bool) (old mid new : Run) (ws ms ws' : List (Writer D G)) (held held' held'' : List ℕ) (faults faults' faults'' : ℕ) → Moves (in_rounds style f g) true old mid ws ms hears held held' faults faults' → Moves ran_last whole mid new ms ws' hears held' held'' faults' faults'' → Moves (ran_behind style f g) whole old new ws ws' hears held held'' faults faults''
    behind_last f g none whole old mid new ws ms ws' held held' held'' faults faults' faults'' x y = moves_on seen_now hears (in_rounds style f g) ran_last (ran_behind style f g) whole old mid new ws ms ws' held held' held'' faults faults' faults''
        (λ l P Q P' p q. ran_both style f g g (Rounds ∷ []) (LeftOver ∷ last_todos l) whole l P Q P' p (subst (λ (k : Peeks). ran style k k (LeftOver ∷ last_todos l) whole l Q P') (sym none) (q style))) x y

    pub behind_short : (f g : Peeks) (old new : Run) (ws ws' : List (Writer D G)) (held held' : List ℕ) (faults faults' : ℕ) → Moves (in_rounds style f g) false old new ws ws' hears held held' faults faults' → Moves (ran_behind style f g) false old new ws ws' hears held held' faults faults'
    behind_short f g old new ws ws' held held' faults faults' x = moves_as seen_now hears (in_rounds style f g) (ran_behind style f g) false old new ws ws' held held' faults faults' (λ l P P' p. ran_short style f g (Rounds ∷ []) (LeftOver ∷ last_todos l) l P P' p) x

    module _ (ts : List Turn) where
      pub all_behind : (f g k : Peeks) (whole : Bool) (old mid new : Run) (ws ms ws' : List (Writer D G)) (held held' held'' : List ℕ) (faults faults' faults'' : ℕ) → Moves (turned_all style f g ts) true old mid ws ms hears held held' faults faults' → Moves (ran_behind style g k) whole mid new ms ws' hears held' held'' faults' faults'' → Moves (ran_all style f k ts) whole old new ws ws' hears held held'' faults faults''
      all_behind f g k whole old mid new ws ms ws' held held' held'' faults faults' faults'' x y = moves_on seen_now hears (turned_all style f g ts) (ran_behind style g k) (ran_all style f k ts) whole old mid new ws ms ws' held held' held'' faults faults' faults''
          (λ l P Q P' p q. ran_both style f g k (map Word ts) (Rounds ∷ LeftOver ∷ last_todos l) whole l P Q P' p q) x y

      pub named_none : (f : Peeks) (run : Run) (ws : List (Writer D G)) (held : List ℕ) (faults : ℕ) → ts ≡ [] → IsOn ws run → Moves (turned_all style f f ts) true run run ws ws hears held held faults faults
      named_none f run ws held faults e on = subst (λ (us : List Turn). Moves (turned_all style f f us) true run run ws ws hears held held faults faults) (sym e)
          (moves_none seen_now hears (turned_all style f f []) run ws held faults on (λ P. left_all style f [] run.core.load P))

      pub all_short : (f g : Peeks) (old new : Run) (ws ws' : List (Writer D G)) (held held' : List ℕ) (faults faults' : ℕ) → Moves (turned_all style f g ts) false old new ws ws' hears held held' faults faults' → Moves (ran_all style f g ts) false old new ws ws' hears held held' faults faults'
      all_short f g old new ws ws' held held' faults faults' x = moves_as seen_now hears (turned_all style f g ts) (ran_all style f g ts) false old new ws ws' held held' faults faults' (λ l P P' p. ran_short style f g (map Word ts) (Rounds ∷ LeftOver ∷ last_todos l) l P P' p) x
