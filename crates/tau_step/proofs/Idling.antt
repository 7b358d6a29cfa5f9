-- What the turn of a manager means for the turns until it is idle.
use Rattle.std.proofs.Common.{ℕ, ◌<◌, ◌==◌, ◌≡◌, ◌⊎◌, Bool, true, false, inl, inr, List, [], ◌∷◌, ◌++◌, length, refl, sym, ap, subst, ◌∙◌, Option, arith, lt-ltb, get_or-set_same}
use Rattle.std.specs.Prelude.{Some, None, is_none, nat_lt, slice_index}
use Rattle.std.proofs.lemmas.Bool.{cases_Bool, cases_eq, eq-eqb}
use Rattle.tau_shard.specs.Shard.{at}
use Rattle.tau_machine.specs.State.{Setting, Core, Stream}
use Rattle.tau_machine.specs.Events.{Gathered, stop, record_first, anchor_first}
use Rattle.tau_shard.proofs.At.{at_same, at_other}
use Rattle.tau_occ.specs.declared.style.Style.{Style}
use Rattle.tau_run.specs.Schedule.{Drain, Drained, Leaves, Steps, peeked, on}
use Rattle.tau_run.proofs.Steps.{Did}
use Rattle.tau_step.specs.Optimists.{Peeks}
use Rattle.tau_step.proofs.ToSteps.{drains, drains_on, drain_failed, drain_idle, drain_on}
use Rattle.tau_run.specs.Turns.{Progress, IfSo, Gathers, Flushed, is_going}
use Rattle.tau_step.specs.TurnParts.{Managed, ManagedPart}
use Rattle.tau_base.proofs.Logic.{and_from}
use Rattle.tau_step.proofs.AnchorsDropped.{not_second}

pub none_some : {A : Type 0} (o : Option A) (x : A) → o ≡ None → o ≡ Some x → ⊥
none_some o x e f = let bad : None ≡ Some x = sym e ∙ f in cc

pub if_then : (b : Bool) (A B : Type 0) → b ≡ true → IfSo b A B → A
if_then true A B e h = h
if_then false A B e h = absurd (let bad : false ≡ true = e in cc)

pub if_else : (b : Bool) (A B : Type 0) → b ≡ false → IfSo b A B → B
if_else true A B e h = absurd (let bad : true ≡ false = e in cc)
if_else false A B e h = h

going_none : (o : Option ℕ) → o ≡ None → is_none o ≡ true
going_none None e = refl
going_none (Some x) e = absurd (none_some (Some x) x e refl)

going_some : (o : Option ℕ) (x : ℕ) → o ≡ Some x → is_none o ≡ false
going_some None x e = absurd (none_some None x refl e)
going_some (Some y) x e = refl

-- one part of one stream that stays
pub kept_at : {A : Type 0} (part : Stream → A) (j i : ℕ) (x : Stream) (f : ℕ → Stream) → part x ≡ part (f j) → part (at j x f i) ≡ part (f i)
kept_at part j i x f e = elim (cases_eq i j) [
  | inl is ↦ subst (λ (k : ℕ). part (at j x f k) ≡ part (f k)) (sym is) (ap part (at_same j x f) ∙ e)
  | inr ne ↦ ap part (at_other j x f i ne)
]

-- a Gather stops no stream, and persists nothing
pub gathered_stop : (set : Setting) (j i : ℕ) (s s' : Core) → Gathered set j s s' → (s'.streams i).stop ≡ (s.streams i).stop
gathered_stop set j i s s' stop = refl
gathered_stop set j i s s' (record_first {m = m} w q more) =
    gathered_stop set j i m s' more ∙ ap (λ (c : Core). (c.streams i).stop) q.after ∙ kept_at (λ (o : Stream). o.stop) j i (record (s.streams j) { moved = (s.streams j).moved ++ q.item ∷ [] }) s.streams refl
gathered_stop set j i s s' (anchor_first {m = m} q more) =
    gathered_stop set j i m s' more ∙ ap (λ (c : Core). (c.streams i).stop) q.after ∙ kept_at (λ (o : Stream). o.stop) j i (record (s.streams j) { posted = q.others; moved = (s.streams j).moved ++ q.item ∷ [] }) s.streams refl

pub gathered_plv : (set : Setting) (j : ℕ) (s s' : Core) → Gathered set j s s' → s'.plv ≡ s.plv
gathered_plv set j s s' stop = refl
gathered_plv set j s s' (record_first {m = m} w q more) = gathered_plv set j m s' more ∙ ap (λ (c : Core). c.plv) q.after
gathered_plv set j s s' (anchor_first {m = m} q more) = gathered_plv set j m s' more ∙ ap (λ (c : Core). c.plv) q.after

pub gathered_ends : (set : Setting) (j : ℕ) (s s' : Core) → Gathered set j s s' → s'.ends ≡ s.ends
gathered_ends set j s s' stop = refl
gathered_ends set j s s' (record_first {m = m} w q more) = gathered_ends set j m s' more ∙ ap (λ (c : Core). c.ends) q.after
gathered_ends set j s s' (anchor_first {m = m} q more) = gathered_ends set j m s' more ∙ ap (λ (c : Core). c.ends) q.after

module _ (set : Setting) (m n : ℕ) (j : ℕ) (there : j < n) where
  going : (s : Core) → (s.streams j).stop ≡ None → is_going set m n s j ≡ true
  going s e = and_from (nat_lt j n) (is_none (s.streams j).stop) (lt-ltb j n there) (going_none (s.streams j).stop e)

  stopped : (s : Core) (x : ℕ) → (s.streams j).stop ≡ Some x → is_going set m n s j ≡ false
  stopped s x e = not_second (nat_lt j n) (is_none (s.streams j).stop) (going_some (s.streams j).stop x e)

  -- a stream that is not going is stopped
  pub stopped_there : (s : Core) → is_going set m n s j ≡ false → (s.streams j).stop ≡ None → ⊥
  stopped_there s e none = let bad : true ≡ false = sym (going s none) ∙ e in cc

  -- in either style, whatever is peeked, the manager is idle then
  abbrev kept_drain : Progress → Progress → Type 0
  kept_drain P P' = (style : Style) (f : Peeks) → Did set m n style (Drain j ∷ []) (peeked P f) (peeked P' f)

  abbrev is_flushed : Core → Bool
  is_flushed s = slice_index s.gathered j == slice_index s.plv j

  -- of a stream that was not stopped, with what was gathered, and whether that was persisted before
  pub managed_goes : (P P' : Progress) → (P.state.streams j).stop ≡ None → Managed set m n j P P' → (Q : Progress) × Gathers set m n j P Q × Flushed set m n j Q P'
  managed_goes P P' e h = if_then (is_going set m n P.state j) _ _ (going P.state e) h

  pub managed_stays : (P P' : Progress) (x : ℕ) → (P.state.streams j).stop ≡ Some x → Managed set m n j P P' → P' ≡ P
  managed_stays P P' x e h = if_else (is_going set m n P.state j) _ _ (stopped P.state x e) h

  -- a part of it stops nothing
  pub part_stop : (P P' : Progress) → ManagedPart set m n false j P P' → (P'.state.streams j).stop ≡ (P.state.streams j).stop
  part_stop P P' (inl h) = ap (λ (X : Progress). (X.state.streams j).stop) h
  part_stop P P' (inr h) = elim (cases_Bool (is_going set m n P.state j)) [
    | inl e ↦ (let g = if_then (is_going set m n P.state j) _ _ e h in gathered_stop set j j P.state P'.state g.0.leads.0)
    | inr e ↦ ap (λ (X : Progress). (X.state.streams j).stop) (if_else (is_going set m n P.state j) _ _ e h)
  ]

  -- it had nothing to flush, or was stopped before
  pub idle_idled : (P P' : Progress) → ((P.state.streams j).stop ≡ None) ⊎ ((x : ℕ) × ((P.state.streams j).stop ≡ Some x)) → ((P.state.streams j).stop ≡ None → (P'.state.streams j).stop ≡ None) →
      slice_index P'.state.plv j ≡ slice_index P.state.plv j → j < length P.state.plv → Managed set m n j P P' → kept_drain P P'
  idle_idled P P' (inr (x, e)) going_on same long h = subst (λ (X : Progress). kept_drain P X) (sym (managed_stays P P' x e h)) (λ style f. drain_failed set m n style f j P (stopped P.state x e))
  idle_idled P P' (inl e) going_on same long h =
      let (Q, gathers, flush) = managed_goes P P' e h in
      let plv = gathered_plv set j P.state Q.state gathers.0.leads.0 in
      elim (cases_Bool (is_flushed Q.state)) [
        | inl all ↦ (let is : P' ≡ Q = if_then (is_flushed Q.state) _ _ all flush in
            subst (λ (X : Progress). kept_drain P X) (sym is) (λ style f. drain_idle set m n style f j P Q (going P.state e) gathers all))
        | inr new ↦ elim (if_else (is_flushed Q.state) _ _ new flush) [
          | inl p ↦ (let q = p.leads.0 in
              let set_now = ap (λ (c : Core). slice_index c.plv j) q.after ∙ get_or-set_same Q.state.plv j (slice_index Q.state.gathered j) 0 (let l = ap (length {A = ℕ}) plv in omega (arith, l, long)) in
              let was = ap (λ (v : List ℕ). slice_index v j) plv in
              absurd (differ (slice_index Q.state.gathered j) (slice_index Q.state.plv j) new (sym set_now ∙ same ∙ sym was)))
          | inr s ↦ (let q = s.leads.0 in
              let stop_now : (P'.state.streams j).stop ≡ Some (slice_index Q.state.plv j) = ap (λ (c : Core). (c.streams j).stop) q.after ∙ ap (λ (o : Stream). o.stop) (at_same j (record (Q.state.streams j) { stop = Some (slice_index Q.state.plv j) }) Q.state.streams) in
              absurd (none_some (P'.state.streams j).stop (slice_index Q.state.plv j) (going_on e) stop_now))
        ]
      ]
    where
      differ : (a b : ℕ) → (a == b) ≡ false → a ≡ b → ⊥
      differ a b e f = let bad : true ≡ false = sym (eq-eqb a b f) ∙ e in cc

  -- its disk failed
  pub failed_idled : (P P' : Progress) (x : ℕ) → (P.state.streams j).stop ≡ None → (P'.state.streams j).stop ≡ Some x → Managed set m n j P P' → kept_drain P P'
  failed_idled P P' x e f h =
      let (Q, gathers, flush) = managed_goes P P' e h in
      elim (cases_Bool (is_flushed Q.state)) [
        | inl all ↦ (let is : P' ≡ Q = if_then (is_flushed Q.state) _ _ all flush in
            let none = gathered_stop set j j P.state Q.state gathers.0.leads.0 ∙ e in
            absurd (none_some (P'.state.streams j).stop x (ap (λ (X : Progress). (X.state.streams j).stop) is ∙ none) f))
        | inr new ↦ (λ style peeks. drain_on set m n style peeks j P Q P' P' (going P.state e) gathers new flush (drain_failed set m n style peeks j P' (stopped P'.state x f)))
      ]

  -- it flushed something
  pub flushed_on : (P P' : Progress) → (P.state.streams j).stop ≡ None → slice_index P.state.plv j < slice_index P'.state.plv j → Managed set m n j P P' → (style : Style) (f : Peeks) → Leaves set m n style (Drain j ∷ []) (Drain j ∷ []) (peeked P f) (peeked P' f)
  flushed_on P P' e less h style f later rest z s =
      let (Q, gathers, flush) = managed_goes P P' e h in
      let more : Steps set m n style (Drained j ∷ later) (peeked Q f) rest z = (elim (cases_Bool (is_flushed Q.state)) [
        | inl all ↦ (let is : P' ≡ Q = if_then (is_flushed Q.state) _ _ all flush in
            let plv = gathered_plv set j P.state Q.state gathers.0.leads.0 in
            let same : slice_index P'.state.plv j ≡ slice_index P.state.plv j = ap (λ (X : Progress). slice_index X.state.plv j) is ∙ ap (λ (v : List ℕ). slice_index v j) plv in
            absurd (omega (arith, less, same)))
        | inr new ↦ on (Drain j ∷ []) (drains_on set m n style f j Q P' new flush) s
      ]) in
      on (Drained j ∷ []) (drains set m n style f j P Q (going P.state e) gathers) more

  -- the placed end stays
  pub managed_ends : (P P' : Progress) → Managed set m n j P P' → P'.state.ends ≡ P.state.ends
  managed_ends P P' h = elim (cases_Bool (is_going set m n P.state j)) [
    | inl e ↦ (let (Q, gathers, flush) = if_then (is_going set m n P.state j) _ _ e h in
        let first = gathered_ends set j P.state Q.state gathers.0.leads.0 in
        elim (cases_Bool (is_flushed Q.state)) [
          | inl all ↦ ap (λ (X : Progress). X.state.ends) (if_then (is_flushed Q.state) _ _ all flush) ∙ first
          | inr new ↦ elim (if_else (is_flushed Q.state) _ _ new flush) [
            | inl p ↦ ap (λ (c : Core). c.ends) p.leads.0.after ∙ first
            | inr s ↦ ap (λ (c : Core). c.ends) s.leads.0.after ∙ first
          ]
        ])
    | inr e ↦ ap (λ (X : Progress). X.state.ends) (if_else (is_going set m n P.state j) _ _ e h)
  ]
