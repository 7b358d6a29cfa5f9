-- Turn words.
use Rattle.std.proofs.Common.{ℕ, suc, ◌+◌, ◌<◌, ◌≤◌, ◌≡◌, Bool, true, false, List, [], ◌∷◌, length, map, drop, sym, ap, subst, ◌∙◌, get_or, drop-cons, arith}
use Rattle.std.proofs.lemmas.List.{drop_all}
use Rattle.tau_disk.specs.declared.disk.Disk.{Ghosts}
use Rattle.tau_stream.specs.declared.writer.Writer.{Writer}
use Rattle.tau_occ.specs.declared.style.Style.{Style}
use Rattle.tau_text.specs.declared.load.Turn.{Turn}
use Rattle.tau_text.specs.declared.load.Turn.TheVariants as turn
use Rattle.tau_core.specs.declared.state.Load.{Load}
use Rattle.tau_core.specs.View.{setting_of}
use Rattle.tau_run.specs.Turns.{Progress}
use Rattle.tau_run.specs.Schedule.{Word, RunState, Began, peeked}
use Rattle.tau_run.proofs.Steps.{began_none}
use Rattle.tau_step.specs.Optimists.{Peeks}
use Rattle.tau_step.proofs.ToSteps as to_steps
use Rattle.tau_step.proofs.ToSteps.{IsOther}
use Rattle.tau_step.specs.declared.run.Run.{Run}
use Rattle.tau_step.specs.Along.{Quiet, Silent}
use Rattle.tau_step.specs.RunEffects.{IsOn, Works, Manages, Moves}
use Rattle.tau_step.specs.Rounding.{becomes, leaves, ran, kept, worker_turned, turned, turned_all}
use Rattle.tau_step.specs.Progressed.{clerks}
use Rattle.tau_step.proofs.EffectsInTurn.{works_manages, manages_moves, moves_on, moves_as}
use Rattle.tau_step.proofs.RoundSteps.{worker_quiet, worker_silent}
use Rattle.tau_step.proofs.Scheduled.{left_after}

next_left : {A : Type 0} (xs : List A) (i : ℕ) (x d : A) → i < length xs → x ≡ get_or xs i d → drop i xs ≡ x ∷ drop (i + 1) xs
next_left {A} xs i x d lt is = let next : suc i ≡ i + 1 = omega arith in drop-cons xs i d lt ∙ ap (λ (y : A). y ∷ drop (suc i) xs) (sym is) ∙ ap (λ (k : ℕ). x ∷ drop k xs) next

-- what a turn of anyone but a worker did is the turn word
pub word_kept : (t : Turn) → IsOther t → (whole : Bool) (l : Load) (P P' : Progress) → turned t whole l P P' → kept (Word t ∷ []) whole l P P'
word_kept t other true l P P' h = λ style f. to_steps.turned (setting_of l) l.workers l.streams style f t other P P' h
word_kept t other false l P P' h = λ style f. to_steps.turned_part (setting_of l) l.workers l.streams style f t P P' h

-- and of a worker
worker_ran : (style : Style) (f f' : Peeks) (w : ℕ) (whole : Bool) (l : Load) (P P' : Progress) → worker_turned style f f' w whole l P P' → ran style f f' (Word (turn.Worker w) ∷ []) whole l P P'
worker_ran style f f' w true l P P' h = to_steps.worked (setting_of l) l.workers l.streams style f w f' P P' h
worker_ran style f f' w false l P P' h = subst (λ (x : RunState). Began (setting_of l) l.workers l.streams style (Word (turn.Worker w) ∷ []) (peeked P f) x) (sym h) (began_none (setting_of l) l.workers l.streams style (Word (turn.Worker w) ∷ []) (peeked P f))

-- the words from number i on are left
abbrev pub words_left : Style → Peeks → Peeks → List Turn → ℕ → Bool → Load → Progress → Progress → Type 0
words_left style f f' turns i whole l P P' = leaves style f f' (map Word turns) (map Word (drop i turns)) whole l P P'

module _ {D : Type 0} {G : Ghosts D} (seen_now : (d : D) → G.tells → G.may_leave d (G.seen d)) (hears : Type 0) (style : Style) (f : Peeks) where
  -- a turn word of a manager
  pub manager_moves : (t t' : Turn) → IsOther t' → (whole : Bool) (old new : Run) (ws ws' : List (Writer D G)) (held : List ℕ) (faults : ℕ) → t ≡ t' → Manages (turned t') whole old new ws ws' → Moves (ran style f f (Word t ∷ [])) whole old new ws ws' hears held held faults faults
  manager_moves t t' other whole old new ws ws' held faults e x = subst (λ (u : Turn). Moves (ran style f f (Word u ∷ [])) whole old new ws ws' hears held held faults faults) (sym e)
      (moves_as seen_now hears (turned t') (ran style f f (Word t' ∷ [])) whole old new ws ws' held held faults faults (λ l P P' q. word_kept t' other whole l P P' q style f) (manages_moves seen_now hears (turned t') whole old new ws ws' held faults x))

  -- of anchors and removals
  pub word_moves : (t t' : Turn) → IsOther t' → (whole : Bool) (old new : Run) (ws : List (Writer D G)) (held : List ℕ) (faults : ℕ) → t ≡ t' → IsOn ws old → ((l : Load) (P P' : Progress) → turned t' whole l P P' → Quiet P.state P'.state) → ((l : Load) (P P' : Progress) → whole ≡ true → turned t' whole l P P' → Silent P P') →
      Works (turned t') whole old new → Moves (ran style f f (Word t ∷ [])) whole old new ws ws hears held held faults faults
  word_moves t t' other whole old new ws held faults e on quiet silent x = manager_moves t t' other whole old new ws ws held faults e (works_manages seen_now (turned t') whole old new ws on quiet silent x)

  pub clerk_word : (t : Turn) (whole : Bool) (old new : Run) (ws : List (Writer D G)) (held held' : List ℕ) (faults faults' : ℕ) → t ≡ turn.Clerk → Moves clerks whole old new ws ws hears held held' faults faults' → Moves (ran style f f (Word t ∷ [])) whole old new ws ws hears held held' faults faults'
  clerk_word t whole old new ws held held' faults faults' e x = subst (λ (u : Turn). Moves (ran style f f (Word u ∷ [])) whole old new ws ws hears held held' faults faults') (sym e)
      (moves_as seen_now hears clerks (ran style f f (Word turn.Clerk ∷ [])) whole old new ws ws held held' faults faults' (λ l P P' q. word_kept turn.Clerk tt whole l P P' q style f) x)

module _ {D : Type 0} {G : Ghosts D} (seen_now : (d : D) → G.tells → G.may_leave d (G.seen d)) (hears : Type 0) (style : Style) where
  -- a turn word of a worker
  pub worker_moves : (f f' : Peeks) (t : Turn) (w : ℕ) (whole : Bool) (old new : Run) (ws : List (Writer D G)) (held : List ℕ) (faults : ℕ) → t ≡ turn.Worker w → IsOn ws old → Works (worker_turned style f f' w) whole old new → Moves (ran style f f' (Word t ∷ [])) whole old new ws ws hears held held faults faults
  worker_moves f f' t w whole old new ws held faults e on x = subst (λ (u : Turn). Moves (ran style f f' (Word u ∷ [])) whole old new ws ws hears held held faults faults) (sym e)
      (moves_as seen_now hears (worker_turned style f f' w) (ran style f f' (Word (turn.Worker w) ∷ [])) whole old new ws ws held held faults faults (worker_ran style f f' w whole)
      (manages_moves seen_now hears (worker_turned style f f' w) whole old new ws ws held faults (works_manages seen_now (worker_turned style f f' w) whole old new ws on (worker_quiet style f f' w whole) (λ l P P' e q. worker_silent style f f' w whole l P P' q) x)))

  module _ (turns : List Turn) (i : ℕ) (t d : Turn) (lt : i < length turns) (is : t ≡ get_or turns i d) (f g h : Peeks) (old mid new : Run) (ws ms ws' : List (Writer D G)) (held held' held'' : List ℕ) (faults faults' faults'' : ℕ)
      (x : Moves (words_left style f g turns i) true old mid ws ms hears held held' faults faults') where
    -- the next of the turn words that are left
    next_done : (whole : Bool) (l : Load) (P Q P' : Progress) → words_left style f g turns i true l P Q → ran style g h (Word t ∷ []) whole l Q P' → leaves style f h (map Word turns) (map Word (drop (i + 1) turns)) whole l P P'
    next_done whole l P Q P' p q = left_after style f g h (map Word turns) (Word t ∷ []) (map Word (drop (i + 1) turns)) whole l P Q P' (subst (λ (ts : List Turn). becomes style f g (map Word turns) (map Word ts) l P Q) (next_left turns i t d lt is) p) q

    pub words_more : Moves (ran style g h (Word t ∷ [])) true mid new ms ws' hears held' held'' faults' faults'' → Moves (words_left style f h turns (i + 1)) true old new ws ws' hears held held'' faults faults''
    words_more y = moves_on seen_now hears (words_left style f g turns i) (ran style g h (Word t ∷ [])) (words_left style f h turns (i + 1)) true old mid new ws ms ws' held held' held'' faults faults' faults'' (next_done true) x y

    pub words_cut : Moves (ran style g h (Word t ∷ [])) false mid new ms ws' hears held' held'' faults' faults'' → Moves (turned_all style f h turns) false old new ws ws' hears held held'' faults faults''
    words_cut y = moves_on seen_now hears (words_left style f g turns i) (ran style g h (Word t ∷ [])) (turned_all style f h turns) false old mid new ws ms ws' held held' held'' faults faults' faults'' (next_done false) x y

  -- none is left
  pub words_end : (f f' : Peeks) (turns : List Turn) (i : ℕ) → length turns ≤ i → (old new : Run) (ws ws' : List (Writer D G)) (held held' : List ℕ) (faults faults' : ℕ) → Moves (words_left style f f' turns i) true old new ws ws' hears held held' faults faults' → Moves (turned_all style f f' turns) true old new ws ws' hears held held' faults faults'
  words_end f f' turns i le old new ws ws' held held' faults faults' x = moves_as seen_now hears (words_left style f f' turns i) (turned_all style f f' turns) true old new ws ws' held held' faults faults'
      (λ l P P' p. subst (λ (ts : List Turn). becomes style f f' (map Word turns) (map Word ts) l P P') (drop_all i turns le) p) x
