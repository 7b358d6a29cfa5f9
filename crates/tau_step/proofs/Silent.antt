-- Turns in which nothing is flushed.
use Rattle.std.proofs.Common.{ℕ, ◌≡◌, ◌&&◌, Bool, true, false, List, [], ◌∷◌, ◌++◌, length, refl, ap, ◌∙◌, ◌+◌, ◌-◌, ◌^◌}
use Rattle.std.specs.Prelude.{nat_lt}
use Rattle.std.proofs.lemmas.List.{append-nil}
use Rattle.std.proofs.lemmas.List.Concat.{flat_map-append}
use Rattle.tau_base.specs.declared.limits.TheConstants.{SHARDS}
use Rattle.tau_machine.specs.State.{Setting}
use Rattle.tau_machine.specs.Events.{Event, Lock, Busy, Quit, Commit, Post, Free, FirstFree, Done, DoneReading, Drop, Gather, PlaceAnchor, Persist, Ack, Stop, Resume}
use Rattle.tau_text.specs.declared.load.Turn.TheVariants as turn
use Rattle.tau_core.specs.declared.state.Load.{Load}
use Rattle.tau_core.specs.View.{setting_of}
use Rattle.tau_run.specs.Run.{below}
use Rattle.tau_run.specs.Turns.{Progress, Stays, IsOwn, Goes, is_going}
use Rattle.tau_step.specs.TurnParts.{has_work, Worked, Cleared, OneByOne, DropOf, AnchoredPart}
use Rattle.tau_step.specs.Along.{Silent}
use Rattle.tau_step.specs.Counts.{flushed_by_event, flushed_in}
use Rattle.tau_step.specs.Rounding.{turned}
use Rattle.tau_step.specs.Progressed.{clerks}
use Rattle.tau_step.proofs.Turning.{if_either}

-- one event more
pub flushed_more : (es : List Event) (e : Event) → flushed_in (es ++ e ∷ []) ≡ flushed_in es ++ flushed_by_event e
flushed_more es e = flat_map-append flushed_by_event es (e ∷ []) ∙ ap (λ (xs : List ℕ). flushed_in es ++ xs) (append-nil (flushed_by_event e))

pub own_silent : (w : ℕ) (e : Event) → IsOwn w e → flushed_by_event e ≡ []
own_silent w (Lock u) o = refl
own_silent w (Busy u) o = refl
own_silent w (Quit u up) o = refl
own_silent w (Commit u) o = refl
own_silent w (Post u) o = refl
own_silent w (Free u) o = refl
own_silent w (FirstFree u) o = refl
own_silent w (Done u) o = refl
own_silent w (DoneReading u) o = refl
own_silent w (Drop k v) o = absurd o
own_silent w (Gather j) o = absurd o
own_silent w (PlaceAnchor j v) o = absurd o
own_silent w (Persist j upto) o = absurd o
own_silent w (Ack u v) o = absurd o
own_silent w (Stop j upto) o = absurd o
own_silent w (Resume u) o = absurd o

module _ (set : Setting) (m n : ℕ) where
  pub stays_silent : (P P' : Progress) → Stays P P' → Silent P P'
  stays_silent P P' e = ap (λ (X : Progress). flushed_in X.events) e

  pub goes_flushes : (e : Event) (P P' : Progress) → Goes set m n e P P' → flushed_in P'.events ≡ flushed_in P.events ++ flushed_by_event e
  goes_flushes e P P' g = ap flushed_in g.events ∙ flushed_more P.events e

  pub goes_silent : (e : Event) (P P' : Progress) → flushed_by_event e ≡ [] → Goes set m n e P P' → Silent P P'
  goes_silent e P P' none g = goes_flushes e P P' g ∙ ap (λ (xs : List ℕ). flushed_in P.events ++ xs) none ∙ append-nil (flushed_in P.events)

  pub worked_silent : (w : ℕ) (P P' : Progress) → Worked set m n w P P' → Silent P P'
  worked_silent w P P' h = if_either (has_work set m n P.state w) _ _ (Silent P P') h (λ x. goes_silent x.0 P P' (own_silent w x.0 x.1) x.2) (λ x. stays_silent P P' x)

  cleared_silent : (w : ℕ) (whole : Bool) (P P' : Progress) → Cleared set m n w whole P P' → Silent P P'
  cleared_silent w whole P P' (Cleared.none e) = refl
  cleared_silent w whole P P' (Cleared.next {q = R} t more) = cleared_silent w whole R P' more ∙ ap flushed_in t.events ∙ flushed_more P.events (Ack w P.state.plv) ∙ append-nil (flushed_in P.events)
  cleared_silent w whole P P' Cleared.cut = refl

  passed_silent : (ws : List ℕ) (P P' : Progress) → OneByOne set m n (λ b w. Cleared set m n w b) true ws P P' → Silent P P'
  passed_silent [] P P' h = stays_silent P P' h
  passed_silent (w ∷ ws) P P' h = passed_silent ws h.0 P' h.2 ∙ cleared_silent w true P h.0 h.1

  dropped_silent : (is : List ℕ) (P P' : Progress) → OneByOne set m n (DropOf set m n) true is P P' → Silent P P'
  dropped_silent [] P P' h = stays_silent P P' h
  dropped_silent (i ∷ is) P P' h = dropped_silent is h.0 P' h.2 ∙ goes_silent (Drop i P.state.plv) P h.0 refl h.1

  anchored_silent : (j : ℕ) (P P' : Progress) → AnchoredPart set m n true j P P' → Silent P P'
  anchored_silent j P P' h = if_either (is_going set m n P.state j && nat_lt (set.anchored j + length (P.state.streams j).anchors) (2 ^ 32 - 1)) _ _ (Silent P P') h
      (λ x. goes_silent (PlaceAnchor j P.state.plv) P P' refl x) (λ x. stays_silent P P' x)

pub false_not : {A : Type 0} → false ≡ true → A
false_not e = absurd (let bad : false ≡ true = e in cc)

-- so it is of all but the turns of managers

pub word_silent : (w : ℕ) (whole : Bool) (l : Load) (P P' : Progress) → whole ≡ true → turned (turn.Worker w) whole l P P' → Silent P P'
word_silent w true l P P' e h = worked_silent (setting_of l) l.workers l.streams w P P' h
word_silent w false l P P' e h = false_not e

pub anchor_silent : (j : ℕ) (whole : Bool) (l : Load) (P P' : Progress) → whole ≡ true → turned (turn.Anchor j) whole l P P' → Silent P P'
anchor_silent j true l P P' e h = anchored_silent (setting_of l) l.workers l.streams j P P' h
anchor_silent j false l P P' e h = false_not e

pub removal_silent : (whole : Bool) (l : Load) (P P' : Progress) → whole ≡ true → turned turn.Drop whole l P P' → Silent P P'
removal_silent true l P P' e h = dropped_silent (setting_of l) l.workers l.streams (below SHARDS) P P' h
removal_silent false l P P' e h = false_not e

pub clerked_silent : (whole : Bool) (l : Load) (P P' : Progress) → whole ≡ true → clerks whole l P P' → Silent P P'
clerked_silent true l P P' e h = passed_silent (setting_of l) l.workers l.streams (below l.workers) P P' h
clerked_silent false l P P' e h = false_not e
