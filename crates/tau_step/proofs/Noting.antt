-- What the turn of a manager flushes.
use Rattle.std.proofs.Common.{ℕ, ◌<◌, ◌==◌, ◌≡◌, ◌⊎◌, Bool, true, false, inl, inr, List, [], ◌∷◌, ◌++◌, length, refl, sym, ap, ◌∙◌, arith, get_or-set_same}
use Rattle.std.specs.Prelude.{Some, None, slice_index}
use Rattle.std.proofs.lemmas.Bool.{cases_Bool, eq-eqb}
use Rattle.tau_machine.specs.State.{Setting, Core}
use Rattle.tau_machine.specs.Events.{Gather, Persist, Stop}
use Rattle.tau_run.specs.Turns.{Progress}
use Rattle.tau_step.specs.TurnParts.{Managed}
use Rattle.tau_step.specs.Counts.{flushed_in}
use Rattle.tau_step.specs.Along.{Silent}
use Rattle.tau_step.proofs.Idling.{gathered_stop, gathered_plv, managed_goes, managed_stays, if_then, if_else, none_some}
use Rattle.tau_step.proofs.Silent.{goes_silent, goes_flushes}

differ : (a b : ℕ) → (a == b) ≡ false → a ≡ b → ⊥
differ a b e f = let bad : true ≡ false = sym (eq-eqb a b f) ∙ e in cc

module _ (set : Setting) (m n : ℕ) (j : ℕ) (there : j < n) (P P' : Progress) where
  abbrev is_flushed : Core → Bool
  is_flushed s = slice_index s.gathered j == slice_index s.plv j

  -- it had nothing to flush, or was stopped before
  pub idle_silent : ((P.state.streams j).stop ≡ None) ⊎ ((x : ℕ) × ((P.state.streams j).stop ≡ Some x)) → slice_index P'.state.plv j ≡ slice_index P.state.plv j → j < length P.state.plv → Managed set m n j P P' → Silent P P'
  idle_silent (inr (x, e)) same long h = ap (λ (X : Progress). flushed_in X.events) (managed_stays set m n j there P P' x e h)
  idle_silent (inl e) same long h =
      let (Q, gathers, flush) = managed_goes set m n j there P P' e h in
      let first = goes_silent set m n (Gather j) P Q refl gathers.0 in
      let plv = gathered_plv set j P.state Q.state gathers.0.leads.0 in
      elim (cases_Bool (is_flushed Q.state)) [
        | inl all ↦ ap (λ (X : Progress). flushed_in X.events) (if_then (is_flushed Q.state) _ _ all flush) ∙ first
        | inr new ↦ elim (if_else (is_flushed Q.state) _ _ new flush) [
          | inl p ↦ (let q = p.leads.0 in
              let set_now = ap (λ (c : Core). slice_index c.plv j) q.after ∙ get_or-set_same Q.state.plv j (slice_index Q.state.gathered j) 0 (let l = ap (length {A = ℕ}) plv in omega (arith, l, long)) in
              let was = ap (λ (v : List ℕ). slice_index v j) plv in
              absurd (differ (slice_index Q.state.gathered j) (slice_index Q.state.plv j) new (sym set_now ∙ same ∙ sym was)))
          | inr s ↦ goes_silent set m n (Stop j (slice_index Q.state.plv j)) Q P' refl s ∙ first
        ]
      ]

  -- its disk failed
  pub failed_silent : (x : ℕ) → (P.state.streams j).stop ≡ None → (P'.state.streams j).stop ≡ Some x → Managed set m n j P P' → Silent P P'
  failed_silent x e f h =
      let (Q, gathers, flush) = managed_goes set m n j there P P' e h in
      let first = goes_silent set m n (Gather j) P Q refl gathers.0 in
      let none = gathered_stop set j j P.state Q.state gathers.0.leads.0 ∙ e in
      elim (cases_Bool (is_flushed Q.state)) [
        | inl all ↦ ap (λ (X : Progress). flushed_in X.events) (if_then (is_flushed Q.state) _ _ all flush) ∙ first
        | inr new ↦ elim (if_else (is_flushed Q.state) _ _ new flush) [
          | inl p ↦ absurd (none_some (P'.state.streams j).stop x (ap (λ (c : Core). (c.streams j).stop) p.leads.0.after ∙ none) f)
          | inr s ↦ goes_silent set m n (Stop j (slice_index Q.state.plv j)) Q P' refl s ∙ first
        ]
      ]

  -- it flushed something
  pub flushed_noted : (P.state.streams j).stop ≡ None → slice_index P.state.plv j < slice_index P'.state.plv j → Managed set m n j P P' → flushed_in P'.events ≡ flushed_in P.events ++ j ∷ []
  flushed_noted e less h =
      let (Q, gathers, flush) = managed_goes set m n j there P P' e h in
      let first = goes_silent set m n (Gather j) P Q refl gathers.0 in
      let plv = ap (λ (v : List ℕ). slice_index v j) (gathered_plv set j P.state Q.state gathers.0.leads.0) in
      elim (cases_Bool (is_flushed Q.state)) [
        | inl all ↦ (let same : slice_index P'.state.plv j ≡ slice_index P.state.plv j = ap (λ (X : Progress). slice_index X.state.plv j) (if_then (is_flushed Q.state) _ _ all flush) ∙ plv in absurd (omega (arith, less, same)))
        | inr new ↦ elim (if_else (is_flushed Q.state) _ _ new flush) [
          | inl p ↦ goes_flushes set m n (Persist j (slice_index Q.state.gathered j)) Q P' p ∙ ap (λ (xs : List ℕ). xs ++ j ∷ []) first
          | inr s ↦ (let same : slice_index P'.state.plv j ≡ slice_index P.state.plv j = ap (λ (c : Core). slice_index c.plv j) s.leads.0.after ∙ plv in absurd (omega (arith, less, same)))
        ]
      ]
