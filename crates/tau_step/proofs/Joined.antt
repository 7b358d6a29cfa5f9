-- What happened one after another.
use Rattle.std.proofs.Common.{ℕ, List, refl, subst, ◌∙◌}
use Rattle.tau_model.specs.History.{Act}
use Rattle.tau_machine.specs.Hands.{Txn}
use Rattle.tau_machine.specs.Events as machine
use Rattle.tau_core.specs.declared.state.Load.{Load}
use Rattle.tau_core.specs.State.{Plain}
use Rattle.tau_core.specs.View.{Hidden}
use Rattle.tau_core.specs.Stands.{Stands}
use Rattle.tau_run.specs.Turns.{Progress}
use Rattle.tau_step.specs.Progressed.{progress, Comes, stays}

-- nothing has happened yet
pub comes_none : (p : Plain) (told : List (ℕ × List ℕ)) (K : List (Act Txn)) (h : Hidden) (es : List machine.Event) → Stands p K h → Comes stays p p told told K h es
comes_none p told K h es g = record { hidden = h; order = K; events = es; stands = g; load = refl; taken = refl; moved = refl }

pub comes_as : (R S : Load → Progress → Progress → Type 0) → ((l : Load) (P P' : Progress) → R l P P' → S l P P') → (p p' : Plain) (told told' : List (ℕ × List ℕ)) (K : List (Act Txn)) (h : Hidden) (es : List machine.Event) →
    Comes R p p' told told' K h es → Comes S p p' told told' K h es
comes_as R S f p p' told told' K h es c = record {
  hidden = c.hidden;
  order = c.order;
  events = c.events;
  stands = c.stands;
  load = c.load;
  taken = c.taken;
  moved = f p.load (progress p h es K told) (progress p' c.hidden c.events c.order told') c.moved;
}

pub comes_on : (R S T : Load → Progress → Progress → Type 0) → ((l : Load) (P Q P' : Progress) → R l P Q → S l Q P' → T l P P') →
    (p m p' : Plain) (told told' told'' : List (ℕ × List ℕ)) (K : List (Act Txn)) (h : Hidden) (es : List machine.Event) →
    (c : Comes R p m told told' K h es) → Comes S m p' told' told'' c.order c.hidden c.events → Comes T p p' told told'' K h es
comes_on R S T f p m p' told told' told'' K h es c d = record {
  hidden = d.hidden;
  order = d.order;
  events = d.events;
  stands = d.stands;
  load = d.load ∙ c.load;
  taken = d.taken ∙ c.taken;
  moved =
      let Q = progress m c.hidden c.events c.order told' in
      let P' = progress p' d.hidden d.events d.order told'' in
      f p.load (progress p h es K told) Q P' c.moved (subst (λ (l : Load). S l Q P') c.load d.moved);
}
