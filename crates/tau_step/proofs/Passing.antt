-- A pass of the clerk, and removals, over what comes next.
use Rattle.std.proofs.Common.{ℕ, suc, ◌<◌, ◌≡◌, Bool, true, false, List, sym, subst, ◌∙◌}
use Rattle.tau_model.specs.History.{Act}
use Rattle.tau_machine.specs.Hands.{Txn}
use Rattle.tau_machine.specs.Events as machine
use Rattle.tau_core.specs.declared.state.Load.{Load}
use Rattle.tau_core.specs.State.{Plain}
use Rattle.tau_core.specs.View.{Hidden, setting_of}
use Rattle.tau_core.specs.Stands.{Stands}
use Rattle.tau_run.specs.Run.{below}
use Rattle.tau_run.specs.Turns.{Progress}
use Rattle.tau_step.specs.TurnParts.{Cleared, DropOf, OneByOne, next}
use Rattle.tau_step.specs.Progressed.{progress, Comes, stays, tells, clears, clerks, drops_one}
use Rattle.tau_step.proofs.PartsOfPasses.{clears_on, clerks_below, drops_below}
use Rattle.tau_step.proofs.OneByOne.{one_more, one_cut, below_split}
use Rattle.tau_step.proofs.Joined.{comes_none, comes_as, comes_on}

abbrev numbers : Type 0
numbers = List (ℕ × List ℕ)

module _ (p : Plain) (acks : numbers) (K : List (Act Txn)) (h : Hidden) (es : List machine.Event) where
  -- over one worker
  pub clears_none : (w : ℕ) → Stands p K h → Comes (clears_on w) p p acks acks K h es
  clears_none w g = comes_as stays (clears_on w) (λ l P P' e whole Q c. subst (λ (X : Progress). clears w whole l X Q) e c) p p acks acks K h es (comes_none p acks K h es g)

  pub clears_one : (w : ℕ) (m p' : Plain) (acks' acks'' : numbers) (c : Comes (clears_on w) p m acks acks' K h es) → Comes (tells w) m p' acks' acks'' c.order c.hidden c.events → Comes (clears_on w) p p' acks acks'' K h es
  clears_one w m p' acks' acks'' c d = comes_on (clears_on w) (tells w) (clears_on w) (λ l P Q P' f t whole X rest. f whole X (next t rest)) p m p' acks acks' acks'' K h es c d

  pub clears_end : (w : ℕ) (whole : Bool) (m p' : Plain) (acks' acks'' : numbers) (c : Comes (clears_on w) p m acks acks' K h es) → Comes (clears w whole) m p' acks' acks'' c.order c.hidden c.events → Comes (clears w whole) p p' acks acks'' K h es
  clears_end w whole m p' acks' acks'' c d = comes_on (clears_on w) (clears w whole) (clears w whole) (λ l P Q P' f rest. f whole P' rest) p m p' acks acks' acks'' K h es c d

  -- over workers in ascending order
  pub clerks_none : Stands p K h → Comes (clerks_below 0) p p acks acks K h es
  clerks_none g = comes_as stays (clerks_below 0) (λ l P P' e. e) p p acks acks K h es (comes_none p acks K h es g)

  pub clerks_one : (i k : ℕ) → k ≡ suc i → (m p' : Plain) (acks' acks'' : numbers) (c : Comes (clerks_below i) p m acks acks' K h es) → Comes (clears i true) m p' acks' acks'' c.order c.hidden c.events → Comes (clerks_below k) p p' acks acks'' K h es
  clerks_one i k e m p' acks' acks'' c d = subst (λ (n : ℕ). Comes (clerks_below n) p p' acks acks'' K h es) (sym e) (comes_on (clerks_below i) (clears i true) (clerks_below (suc i))
      (λ l P Q P' f s. one_more (setting_of l) l.workers l.streams (λ b w. Cleared (setting_of l) l.workers l.streams w b) (below i) i P Q P' f s) p m p' acks acks' acks'' K h es c d)

  -- all of them
  pub clerks_all : (i : ℕ) → i ≡ p.load.workers → (p' : Plain) (acks' : numbers) → Comes (clerks_below i) p p' acks acks' K h es → Comes (clerks true) p p' acks acks' K h es
  clerks_all i e p' acks' c = record {
    hidden = c.hidden;
    order = c.order;
    events = c.events;
    stands = c.stands;
    load = c.load;
    taken = c.taken;
    moved = subst (λ (n : ℕ). clerks_below n p.load (progress p h es K acks) (progress p' c.hidden c.events c.order acks')) e c.moved;
  }

  pub clerks_cut : (i : ℕ) → i < p.load.workers → (m p' : Plain) (acks' acks'' : numbers) (c : Comes (clerks_below i) p m acks acks' K h es) → Comes (clears i false) m p' acks' acks'' c.order c.hidden c.events → Comes (clerks false) p p' acks acks'' K h es
  clerks_cut i lt m p' acks' acks'' c d = record {
    hidden = d.hidden;
    order = d.order;
    events = d.events;
    stands = d.stands;
    load = d.load ∙ c.load;
    taken = d.taken ∙ c.taken;
    moved =
        let l = p.load in
        let split = below_split i l.workers lt in
        let P = progress p h es K acks in
        let Q = progress m c.hidden c.events c.order acks' in
        let P' = progress p' d.hidden d.events d.order acks'' in
        subst (λ (xs : List ℕ). OneByOne (setting_of l) l.workers l.streams (λ b w. Cleared (setting_of l) l.workers l.streams w b) false xs P P') (sym split.1)
        (one_cut (setting_of l) l.workers l.streams (λ b w. Cleared (setting_of l) l.workers l.streams w b) (below i) i split.0 P Q P' c.moved (subst (λ (x : Load). clears i false x Q P') c.load d.moved));
  }

  pub drops_none : Stands p K h → Comes (drops_below 0) p p acks acks K h es
  drops_none g = comes_as stays (drops_below 0) (λ l P P' e. e) p p acks acks K h es (comes_none p acks K h es g)

  pub drops_more : (i k : ℕ) → k ≡ suc i → (m p' : Plain) (c : Comes (drops_below i) p m acks acks K h es) → Comes (drops_one i) m p' acks acks c.order c.hidden c.events → Comes (drops_below k) p p' acks acks K h es
  drops_more i k e m p' c d = subst (λ (n : ℕ). Comes (drops_below n) p p' acks acks K h es) (sym e) (comes_on (drops_below i) (drops_one i) (drops_below (suc i))
      (λ l P Q P' f s. one_more (setting_of l) l.workers l.streams (DropOf (setting_of l) l.workers l.streams) (below i) i P Q P' f s) p m p' acks acks acks K h es c d)
