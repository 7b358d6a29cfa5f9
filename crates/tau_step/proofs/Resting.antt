-- Workers that have nothing to do; a worker that acts alone, and calls left over.
use Rattle.std.proofs.Common.{ℕ, zero, suc, ◌<◌, ◌≡◌, Bool, true, false, List, [], ◌∷◌, refl, sym, ap, subst, ◌∙◌, Option, arith, lt-ltb}
use Rattle.std.specs.Prelude.{Some, None, is_some, ◌&&◌, ◌||◌, not, nat_lt}
use Rattle.std.specs.List.{list_any}
use Rattle.tau_model.specs.History.{Numbered}
use Rattle.tau_machine.specs.Hands.{Hand}
use Rattle.tau_machine.specs.State.{Setting, Core}
use Rattle.tau_machine.specs.Events.{Resume}
use Rattle.tau_shard.proofs.At.{at_other}
use Rattle.tau_run.specs.Run.{below}
use Rattle.tau_occ.specs.declared.style.Style.{Style}
use Rattle.tau_core.specs.declared.state.Load.{Load}
use Rattle.tau_core.specs.View.{setting_of}
use Rattle.tau_run.specs.Turns.{Progress, Stays, Goes, is_raised, is_empty, any_left}
use Rattle.tau_step.specs.TurnParts.{Worked, has_work, is_busy}
use Rattle.tau_run.specs.Schedule as todo
use Rattle.tau_run.specs.Schedule.{Todo, peeked, on}
use Rattle.tau_run.proofs.Steps.{Did, began_none}
use Rattle.tau_step.proofs.ToSteps.{alone_over, acts_alone, left_over_over, resumes}
use Rattle.tau_step.specs.Along.{Quiet}
use Rattle.tau_step.specs.Counts.{flushed_in}
use Rattle.tau_step.specs.Rounding.{ran, rests, none_peeked, ActedAlone, RanLeftOver}
use Rattle.tau_step.proofs.Scheduled.{left_all, left_on, left_after}
use Rattle.tau_step.proofs.Silent.{worked_silent, goes_silent}
use Rattle.tau_step.proofs.Growing.{grows, spared}
use Rattle.tau_step.proofs.Others.{worked_others, raised_same, work_same}
use Rattle.tau_step.proofs.Rounding.{quiet_on, quiet_same, worked_still, worked_quiet, worked_later, none_below, any_more}

-- a worker that has nothing to do has no call in hand; and none that waits, where no disk has failed
rests_hand : (a : Bool) (o : Option Hand) (r k : Bool) → a ≡ true → (a && (is_some o || (not r && not k))) ≡ false → o ≡ None
rests_hand true None r k e f = refl
rests_hand true (Some h) r k e f = absurd (let bad : true ≡ false = f in cc)
rests_hand false o r k e f = absurd (let bad : false ≡ true = e in cc)

rests_waiting : (a b r : Bool) (cs : List Numbered) → a ≡ true → r ≡ false → (a && (b || (not r && not (is_empty cs)))) ≡ false → cs ≡ []
rests_waiting true b false [] e g f = refl
rests_waiting true true false (c ∷ cs) e g f = absurd (let bad : true ≡ false = f in cc)
rests_waiting true false false (c ∷ cs) e g f = absurd (let bad : true ≡ false = f in cc)
rests_waiting true b true cs e g f = absurd (let bad : true ≡ false = g in cc)
rests_waiting false b r cs e g f = absurd (let bad : false ≡ true = e in cc)

pub any_none : (f : ℕ → Bool) (m : ℕ) → ((i : ℕ) → i < m → f i ≡ false) → list_any f (below m) ≡ false
any_none f zero h = refl
any_none f (suc m) h = any_more f m ∙ ap (λ (b : Bool). b || f m) (any_none f m (λ i lt. h i (omega (arith, lt)))) ∙ h m (omega arith)

module _ (set : Setting) (m n : ℕ) where
  pub rest_hand : (s : Core) (w : ℕ) → w < m → has_work set m n s w ≡ false → (s.workers w).hand ≡ None
  rest_hand s w lt e = rests_hand (nat_lt w m) (s.workers w).hand (is_raised set m n s) (is_empty (s.workers w).waiting) (lt-ltb w m lt) e

  pub rest_waiting : (s : Core) (w : ℕ) → w < m → is_raised set m n s ≡ false → has_work set m n s w ≡ false → (s.workers w).waiting ≡ []
  rest_waiting s w lt going e = rests_waiting (nat_lt w m) (is_some (s.workers w).hand) (is_raised set m n s) (s.workers w).waiting (lt-ltb w m lt) going e

  pub busy_none : (s : Core) → is_busy set m n s ≡ false → (w : ℕ) → w < m → has_work set m n s w ≡ false
  busy_none s e w lt = none_below (has_work set m n s) m e w lt

  pub none_busy : (s : Core) → ((w : ℕ) → w < m → has_work set m n s w ≡ false) → is_busy set m n s ≡ false
  none_busy s h = any_none (has_work set m n s) m h

  pub resumed_quiet : (w : ℕ) (P Q : Progress) → Goes set m n (Resume w) P Q → Quiet P.state Q.state
  resumed_quiet w P Q g = record { grown = grows set (Resume w) P.state Q.state g.new g.leads; same = λ i. spared set i (Resume w) P.state Q.state g.new tt g.leads }

  -- the others rest still
  pub resumed_later : (w u : ℕ) → (u ≡ w → ⊥) → (P Q : Progress) → Goes set m n (Resume w) P Q → has_work set m n Q.state u ≡ has_work set m n P.state u
  resumed_later w u ne P Q g =
      let q = g.leads.0 in
      work_same set m n P.state Q.state u (ap (λ (c : Core). c.workers u) q.after ∙ at_other w _ P.state.workers u ne)
      (raised_same set m n P.state Q.state (ap (λ (c : Core). c.streams) q.after))

  over_first : (a b : Bool) → a ≡ true → (not a && b) ≡ false
  over_first true b e = refl
  over_first false b e = absurd (let bad : false ≡ true = e in cc)

  over_second : (a b : Bool) → b ≡ false → (not a && b) ≡ false
  over_second true b e = refl
  over_second false b e = e

  -- no call that was left over runs: after a stop, or since there is none
  left_over_none : (P : Progress) → (not (is_raised set m n P.state) && any_left set m n P.state) ≡ false → (style : Style) → Did set m n style (todo.LeftOver ∷ []) (peeked P none_peeked) (peeked P none_peeked)
  left_over_none P e style = left_over_over set m n style none_peeked P e

  pub left_over_raised : (P : Progress) → is_raised set m n P.state ≡ true → (style : Style) → Did set m n style (todo.LeftOver ∷ []) (peeked P none_peeked) (peeked P none_peeked)
  left_over_raised P e = left_over_none P (over_first (is_raised set m n P.state) (any_left set m n P.state) e)

  pub left_over_empty : (P : Progress) → any_left set m n P.state ≡ false → (style : Style) → Did set m n style (todo.LeftOver ∷ []) (peeked P none_peeked) (peeked P none_peeked)
  left_over_empty P e = left_over_none P (over_second (is_raised set m n P.state) (any_left set m n P.state) e)

module _ (l : Load) where
  -- ---- a worker alone, which has nothing to do, or to which nothing happened

  alone_same : (w : ℕ) (left : List Todo) (whole : Bool) (P P' : Progress) → P' ≡ P → (left ≡ [] → whole ≡ true → has_work (setting_of l) l.workers l.streams P.state w ≡ false) → rests (todo.Alone w ∷ []) left whole l P P' → ActedAlone w left whole l P P'
  alone_same w left whole P P' same rests turns = record {
    turns = turns;
    rests = λ e f. ap (λ (X : Progress). has_work (setting_of l) l.workers l.streams X.state w) same ∙ rests e f;
    others = λ u ne. ap (λ (X : Progress). has_work (setting_of l) l.workers l.streams X.state u) same;
    apart = λ u ne. ap (λ (X : Progress). X.state.workers u) same;
    quiet = quiet_same P P' same;
    silent = ap (λ (X : Progress). flushed_in X.events) same;
  }

  pub alone_begun : (w : ℕ) (P : Progress) → ActedAlone w (todo.Alone w ∷ []) true l P P
  alone_begun w P = alone_same w (todo.Alone w ∷ []) true P P refl (λ e. absurd (let bad : todo.Alone w ∷ [] ≡ [] = e in cc)) (λ style. left_all style none_peeked (todo.Alone w ∷ []) l P)

  pub alone_none : (w : ℕ) (P P' : Progress) → has_work (setting_of l) l.workers l.streams P.state w ≡ false → Worked (setting_of l) l.workers l.streams w P P' → ActedAlone w [] true l P P'
  alone_none w P P' none h =
      let same = worked_still (setting_of l) l.workers l.streams w P P' none h in
      alone_same w [] true P P' same (λ e f. none) (λ style. subst (λ (X : Progress). ran style none_peeked none_peeked (todo.Alone w ∷ []) true l P X) (sym same) (alone_over (setting_of l) l.workers l.streams style w P none))

  pub alone_cut : (w : ℕ) (P P' : Progress) → Stays P P' → ActedAlone w [] false l P P'
  alone_cut w P P' same = alone_same w [] false P P' same (λ e f. absurd (let bad : false ≡ true = f in cc))
      (λ style. subst (λ (X : Progress). ran style none_peeked none_peeked (todo.Alone w ∷ []) false l P X) (sym same) (began_none (setting_of l) l.workers l.streams style (todo.Alone w ∷ []) (peeked P none_peeked)))

  pub alone_more : (w : ℕ) (P Q : Progress) → has_work (setting_of l) l.workers l.streams P.state w ≡ true → Worked (setting_of l) l.workers l.streams w P Q → ActedAlone w (todo.Alone w ∷ []) true l P Q
  alone_more w P Q works h = record {
    turns = λ style later rest z s. on (todo.Alone w ∷ []) (acts_alone (setting_of l) l.workers l.streams style w P Q works h) s;
    rests = λ e. absurd (let bad : todo.Alone w ∷ [] ≡ [] = e in cc);
    others = λ u ne. worked_later (setting_of l) l.workers l.streams w u ne P Q h;
    apart = λ u ne. worked_others (setting_of l) l.workers l.streams P Q w u ne true h;
    quiet = worked_quiet (setting_of l) l.workers l.streams w P Q h;
    silent = worked_silent (setting_of l) l.workers l.streams w P Q h;
  }

  pub alone_on : (w : ℕ) (left : List Todo) (whole : Bool) (P Q R : Progress) → ActedAlone w (todo.Alone w ∷ []) true l P Q → ActedAlone w left whole l Q R → ActedAlone w left whole l P R
  alone_on w left whole P Q R a b = record {
    turns = λ style. left_on style none_peeked none_peeked none_peeked (todo.Alone w ∷ []) (todo.Alone w ∷ []) left whole l P Q R (a.turns style) (b.turns style);
    rests = b.rests;
    others = λ u ne. b.others u ne ∙ a.others u ne;
    apart = λ u ne. b.apart u ne ∙ a.apart u ne;
    quiet = quiet_on P.state Q.state R.state a.quiet b.quiet;
    silent = b.silent ∙ a.silent;
  }

  -- ---- calls left over

  left_same : (left : List Todo) (whole : Bool) (P P' : Progress) → P' ≡ P → rests (todo.LeftOver ∷ []) left whole l P P' → RanLeftOver left whole l P P'
  left_same left whole P P' same turns = record { turns = turns; quiet = quiet_same P P' same; silent = ap (λ (X : Progress). flushed_in X.events) same }

  pub left_begun : (P : Progress) → RanLeftOver (todo.LeftOver ∷ []) true l P P
  left_begun P = left_same (todo.LeftOver ∷ []) true P P refl (λ style. left_all style none_peeked (todo.LeftOver ∷ []) l P)

  -- after a stop none of them runs
  pub left_raised : (P : Progress) → is_raised (setting_of l) l.workers l.streams P.state ≡ true → RanLeftOver [] true l P P
  left_raised P e = left_same [] true P P refl (left_over_raised (setting_of l) l.workers l.streams P e)

  -- nothing is left
  pub left_none : (P P' : Progress) → any_left (setting_of l) l.workers l.streams P.state ≡ false → P' ≡ P → RanLeftOver [] true l P P'
  left_none P P' e same = left_same [] true P P' same (λ style. subst (λ (X : Progress). ran style none_peeked none_peeked (todo.LeftOver ∷ []) true l P X) (sym same) (left_over_empty (setting_of l) l.workers l.streams P e style))

  -- one runs alone, to its end or a part of that
  pub left_more : (w : ℕ) → w < l.workers → (whole : Bool) (P Q R : Progress) → is_raised (setting_of l) l.workers l.streams P.state ≡ false → Goes (setting_of l) l.workers l.streams (Resume w) P Q → ActedAlone w [] whole l Q R → RanLeftOver (todo.LeftOver ∷ []) whole l P R
  left_more w lt whole P Q R going g a = record {
    turns = λ style. left_after style none_peeked none_peeked none_peeked (todo.LeftOver ∷ []) (todo.Alone w ∷ []) (todo.LeftOver ∷ []) whole l P Q R (λ later rest z s. on (todo.Alone w ∷ todo.LeftOver ∷ []) (resumes (setting_of l) l.workers l.streams style none_peeked w P Q going lt g) s) (a.turns style);
    quiet = quiet_on P.state Q.state R.state (resumed_quiet (setting_of l) l.workers l.streams w P Q g) a.quiet;
    silent = a.silent ∙ goes_silent (setting_of l) l.workers l.streams (Resume w) P Q refl g;
  }

  pub left_over_on : (left : List Todo) (whole : Bool) (P Q R : Progress) → RanLeftOver (todo.LeftOver ∷ []) true l P Q → RanLeftOver left whole l Q R → RanLeftOver left whole l P R
  left_over_on left whole P Q R a b = record {
    turns = λ style. left_on style none_peeked none_peeked none_peeked (todo.LeftOver ∷ []) (todo.LeftOver ∷ []) left whole l P Q R (a.turns style) (b.turns style);
    quiet = quiet_on P.state Q.state R.state a.quiet b.quiet;
    silent = b.silent ∙ a.silent;
  }
