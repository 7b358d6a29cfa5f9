-- What the turn of a worker in either style leaves of all that is not its own.
use Rattle.std.proofs.Common.{ℕ, ◌<◌, ◌≤◌, ◌≡◌, ◌⊎◌, inl, inr, Bool, true, List, [], ◌∷◌, ◌++◌, length, length-append, refl, ap, ◌∙◌, arith}
use Rattle.std.specs.Prelude.{is_some, not, nat_lt, ◌&&◌, ◌||◌}
use Rattle.tau_base.specs.declared.limits.TheConstants.{MAX_STEPS}
use Rattle.tau_base.specs.declared.value.Key.{Key}
use Rattle.tau_base.specs.declared.value.Value.{Value}
use Rattle.tau_machine.specs.Events.{Event, Lock, Busy, Quit, Commit, Post, Free, FirstFree, Done, DoneReading, Drop, Gather, PlaceAnchor, Persist, Ack, Stop, Resume}
use Rattle.tau_machine.specs.State.{Setting}
use Rattle.tau_machine.specs.Worker.{Worker}
use Rattle.tau_shard.proofs.At.{at_same, at_other}
use Rattle.tau_occ.specs.declared.style.Style.{Style}
use Rattle.tau_occ.specs.declared.style.Style.TheVariants.{Locking, Optimistic}
use Rattle.tau_run.specs.Turns.{Progress, IfSo, IsOwn, Goes, is_raised, is_empty}
use Rattle.tau_run.specs.Schedule.{RunState, peeked, TakesTurn, has_turn, peeks_after}
use Rattle.tau_run.proofs.Steps.{if_known}
use Rattle.tau_step.specs.Along.{Quiet, Silent}
use Rattle.tau_step.proofs.Spared.{Spares}
use Rattle.tau_step.specs.Optimists.{Peeks, turns_left}
use Rattle.tau_step.specs.Remains.{worker_left}
use Rattle.tau_step.proofs.Falling.{HasTries, own_falls}
use Rattle.tau_step.proofs.Growing.{grows, spared}
use Rattle.tau_step.proofs.Idling.{if_then}
use Rattle.tau_step.proofs.Others.{own_others, own_streams, raised_same}
use Rattle.tau_step.proofs.Rounding.{quiet_same}
use Rattle.tau_step.proofs.Silent.{own_silent, goes_silent, stays_silent}

own_spares : (w i : ℕ) (e : Event) → IsOwn w e → Spares i e
own_spares w i (Lock u) own = tt
own_spares w i (Busy u) own = tt
own_spares w i (Quit u up) own = tt
own_spares w i (Commit u) own = tt
own_spares w i (Post u) own = tt
own_spares w i (Free u) own = tt
own_spares w i (FirstFree u) own = tt
own_spares w i (Done u) own = tt
own_spares w i (DoneReading u) own = tt
own_spares w i (Drop j v) own = tt
own_spares w i (Gather j) own = absurd own
own_spares w i (PlaceAnchor j v) own = tt
own_spares w i (Persist j upto) own = absurd own
own_spares w i (Ack u v) own = tt
own_spares w i (Stop j upto) own = absurd own
own_spares w i (Resume u) own = tt

-- an event of the worker changes what it has peeked alone
after_others : (style : Style) (w u : ℕ) → (u ≡ w → ⊥) → (e : Event) → IsOwn w e → (f : Peeks) → peeks_after style e f u ≡ f u
after_others Locking w u ne e own f = refl
after_others Optimistic w u ne (Lock v) own f = refl
after_others Optimistic w u ne (Busy v) own f = at_other v [] f u (λ same. ne (same ∙ own))
after_others Optimistic w u ne (Quit v up) own f = refl
after_others Optimistic w u ne (Commit v) own f = refl
after_others Optimistic w u ne (Post v) own f = refl
after_others Optimistic w u ne (Free v) own f = refl
after_others Optimistic w u ne (FirstFree v) own f = refl
after_others Optimistic w u ne (Done v) own f = at_other v [] f u (λ same. ne (same ∙ own))
after_others Optimistic w u ne (DoneReading v) own f = at_other v [] f u (λ same. ne (same ∙ own))
after_others Optimistic w u ne (Drop j v) own f = refl
after_others Optimistic w u ne (Gather j) own f = refl
after_others Optimistic w u ne (PlaceAnchor j v) own f = refl
after_others Optimistic w u ne (Persist j upto) own f = refl
after_others Optimistic w u ne (Ack v x) own f = refl
after_others Optimistic w u ne (Stop j upto) own f = refl
after_others Optimistic w u ne (Resume v) own f = refl

module _ (set : Setting) (m n : ℕ) (style : Style) (w : ℕ) (f f' : Peeks) (P P' : Progress)
    (turned : IfSo (has_turn set m n (peeked P f) w) (TakesTurn set m n style w (peeked P f) (peeked P' f')) (peeked P' f' ≡ peeked P f)) where
  -- nothing happened, or one event of the worker
  abbrev Event_or_none : Type 0
  Event_or_none = (P' ≡ P) ⊎ ((e : Event) × IsOwn w e × Goes set m n e P P')

  taken : (s : Style) → TakesTurn set m n s w (peeked P f) (peeked P' f') → Event_or_none
  taken Locking a = inr (a.event, a.own, a.goes)
  taken Optimistic (inl p) = inl (ap (λ (z : RunState). z.progress) p.after)
  taken Optimistic (inr a) = inr (a.1.event, a.1.own, a.1.goes)

  pub turn_event : Event_or_none
  turn_event = if_known (has_turn set m n (peeked P f) w) _ _ Event_or_none turned (λ e t. taken style t) (λ e s. inl (ap (λ (z : RunState). z.progress) s))

  pub turn_quiet : Quiet P.state P'.state
  turn_quiet = elim turn_event [
    | inl same ↦ quiet_same P P' same
    | inr e ↦ record { grown = grows set e.0 P.state P'.state e.2.new e.2.leads; same = λ i. spared set i e.0 P.state P'.state e.2.new (own_spares w i e.0 e.1) e.2.leads }
  ]

  pub turn_silent : Silent P P'
  turn_silent = elim turn_event [
    | inl same ↦ stays_silent set m n P P' same
    | inr e ↦ goes_silent set m n e.0 P P' (own_silent w e.0 e.1) e.2
  ]

  pub turn_others : (u : ℕ) → (u ≡ w → ⊥) → P'.state.workers u ≡ P.state.workers u
  turn_others u ne = elim turn_event [
    | inl same ↦ ap (λ (X : Progress). X.state.workers u) same
    | inr e ↦ own_others set w u ne e.0 P.state P'.state e.2.new e.1 e.2.leads
  ]

  pub turn_raised : is_raised set m n P'.state ≡ is_raised set m n P.state
  turn_raised = raised_same set m n P.state P'.state (elim turn_event [
    | inl same ↦ ap (λ (X : Progress). X.state.streams) same
    | inr e ↦ own_streams set w e.0 P.state P'.state e.2.new e.1 e.2.leads
  ])

  peeks_taken : (u : ℕ) → (u ≡ w → ⊥) → (s : Style) → TakesTurn set m n s w (peeked P f) (peeked P' f') → f' u ≡ f u
  peeks_taken u ne Locking a = ap (λ (g : Peeks). g u) a.peeks
  peeks_taken u ne Optimistic (inl p) = ap (λ (z : RunState). z.peeks u) p.after ∙ at_other w _ f u ne
  peeks_taken u ne Optimistic (inr a) = ap (λ (g : Peeks). g u) a.1.peeks ∙ after_others Optimistic w u ne a.1.event a.1.own f

  pub turn_peeks : (u : ℕ) → (u ≡ w → ⊥) → f' u ≡ f u
  turn_peeks u ne = if_known (has_turn set m n (peeked P f) w) _ _ (f' u ≡ f u) turned (λ e t. peeks_taken u ne style t) (λ e s. ap (λ (z : RunState). z.peeks u) s)

  -- who else has something to do has it still
  pub turn_later : (u : ℕ) → (u ≡ w → ⊥) → has_turn set m n (peeked P' f') u ≡ has_turn set m n (peeked P f) u
  turn_later u ne =
      ap (λ (wk : Worker). nat_lt u m && (is_some wk.hand || (not (is_empty (f' u)) || (not (is_raised set m n P'.state) && not (is_empty wk.waiting))))) (turn_others u ne)
      ∙ ap (λ (ps : List (Key × Value)). nat_lt u m && (is_some (P.state.workers u).hand || (not (is_empty ps) || (not (is_raised set m n P'.state) && not (is_empty (P.state.workers u).waiting))))) (turn_peeks u ne)
      ∙ ap (λ (b : Bool). nat_lt u m && (is_some (P.state.workers u).hand || (not (is_empty (f u)) || (not b && not (is_empty (P.state.workers u).waiting))))) turn_raised

  falls : HasTries (P.state.workers w) → length (f' w) ≤ MAX_STEPS → (s : Style) → TakesTurn set m n s w (peeked P f) (peeked P' f') → turns_left set.procs (P'.state.workers w) (f' w) < turns_left set.procs (P.state.workers w) (f w)
  falls tries few Locking a = let less = own_falls set w a.event a.own P.state P'.state a.goes.new tries a.goes.leads in omega (arith, few, less)
  falls tries few Optimistic (inl p) =
      let more : List (Key × Value) = (p.key, (P.state.shards (set.shard_of p.key)).rows p.key) ∷ [] in
      let seen : f' w ≡ f w ++ more = ap (λ (z : RunState). z.peeks w) p.after ∙ at_same w (f w ++ more) f in
      let long = ap (length {A = Key × Value}) seen ∙ length-append (f w) more in
      let same = ap (λ (z : RunState). worker_left set.procs (z.progress.state.workers w)) p.after in
      omega (arith, few, long, same)
  falls tries few Optimistic (inr a) = let less = own_falls set w a.1.event a.1.own P.state P'.state a.1.goes.new tries a.1.goes.leads in omega (arith, few, less)

  -- what the worker has still to do is less
  pub turn_falls : HasTries (P.state.workers w) → length (f' w) ≤ MAX_STEPS → has_turn set m n (peeked P f) w ≡ true → turns_left set.procs (P'.state.workers w) (f' w) < turns_left set.procs (P.state.workers w) (f w)
  turn_falls tries few works = falls tries few style (if_then (has_turn set m n (peeked P f) w) _ _ works turned)
