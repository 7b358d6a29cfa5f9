-- What each event of a turn keeps, the turn keeps.
use Rattle.std.proofs.Common.{ℕ, ◌≡◌, ◌==◌, Bool, true, false, inl, inr, List, [], ◌∷◌, sym, subst}
use Rattle.std.specs.Prelude.{slice_index, ◌&&◌, nat_lt, length, ◌+◌, ◌-◌, ◌^◌}
use Rattle.tau_base.specs.declared.limits.TheConstants.{SHARDS}
use Rattle.tau_model.specs.History.{Act}
use Rattle.tau_machine.specs.Hands.{Txn}
use Rattle.tau_machine.specs.State.{Setting, Core}
use Rattle.tau_machine.specs.Events.{Event, Lock, Busy, Quit, Commit, Post, Free, FirstFree, Done, DoneReading, Drop, Gather, PlaceAnchor, Persist, Ack, Stop, Resume, Leads}
use Rattle.tau_run.specs.Run.{below}
use Rattle.tau_run.specs.Turns.{Progress, Stays, IfSo, IsOwn, Goes, is_going, Flushed}
use Rattle.tau_step.specs.TurnParts.{has_work, Worked, Cleared, OneByOne, Clerked, DropOf, ManagedPart, WorkedPart, AnchoredPart}
use Rattle.tau_step.specs.Along.{Grows, SameAt}
use Rattle.tau_step.proofs.Spared.{Spares}
use Rattle.tau_step.proofs.Growing.{grows_none, grows_on, grows, same_none, same_on, spared}

pub if_either : (b : Bool) (A B R : Type 0) → IfSo b A B → (A → R) → (B → R) → R
if_either true A B R h f g = f h
if_either false A B R h f g = g h

module _ (set : Setting) (m n : ℕ) (Q : Core → Core → Type 0) (none : (s : Core) → Q s s) (on : (s t u : Core) → Q s t → Q t u → Q s u)
    (allows : Event → Type 0) (leads : (e : Event) (s s' : Core) (new : List (Act Txn)) → allows e → Leads set e s s' new → Q s s') where
  pub stays_keep : (P P' : Progress) → Stays P P' → Q P.state P'.state
  stays_keep P P' e = subst (λ (X : Progress). Q P.state X.state) (sym e) (none P.state)

  pub goes_keep : (e : Event) (P P' : Progress) → allows e → Goes set m n e P P' → Q P.state P'.state
  goes_keep e P P' a g = leads e P.state P'.state g.new a g.leads

  pub worked_keep : (w : ℕ) → ((e : Event) → IsOwn w e → allows e) → (P P' : Progress) → Worked set m n w P P' → Q P.state P'.state
  worked_keep w a P P' h = if_either (has_work set m n P.state w) _ _ (Q P.state P'.state) h (λ x. goes_keep x.0 P P' (a x.0 x.1) x.2) (λ x. stays_keep P P' x)

  pub worked_part_keep : (w : ℕ) → ((e : Event) → IsOwn w e → allows e) → (whole : Bool) (P P' : Progress) → WorkedPart set m n whole w P P' → Q P.state P'.state
  worked_part_keep w a true P P' h = worked_keep w a P P' h
  worked_part_keep w a false P P' h = stays_keep P P' h

  module _ (j : ℕ) (gathers : allows (Gather j)) (persists : (u : ℕ) → allows (Persist j u)) (stops : (u : ℕ) → allows (Stop j u)) where
    flushed_keep : (P P' : Progress) → Flushed set m n j P P' → Q P.state P'.state
    flushed_keep P P' h = if_either (slice_index P.state.gathered j == slice_index P.state.plv j) _ _ (Q P.state P'.state) h (λ x. stays_keep P P' x) (λ x. elim x [
      | inl g ↦ goes_keep (Persist j (slice_index P.state.gathered j)) P P' (persists (slice_index P.state.gathered j)) g
      | inr g ↦ goes_keep (Stop j (slice_index P.state.plv j)) P P' (stops (slice_index P.state.plv j)) g
    ])

    pub managed_keep : (whole : Bool) (P P' : Progress) → ManagedPart set m n whole j P P' → Q P.state P'.state
    managed_keep true P P' h = if_either (is_going set m n P.state j) _ _ (Q P.state P'.state) h
        (λ x. on P.state x.0.state P'.state (goes_keep (Gather j) P x.0 gathers x.1.0) (flushed_keep x.0 P' x.2)) (λ x. stays_keep P P' x)
    managed_keep false P P' (inl h) = stays_keep P P' h
    managed_keep false P P' (inr h) = if_either (is_going set m n P.state j) _ _ (Q P.state P'.state) h (λ x. goes_keep (Gather j) P P' gathers x.0) (λ x. stays_keep P P' x)

  pub anchored_keep : (j : ℕ) → ((v : List ℕ) → allows (PlaceAnchor j v)) → (whole : Bool) (P P' : Progress) → AnchoredPart set m n whole j P P' → Q P.state P'.state
  anchored_keep j a true P P' h = if_either (is_going set m n P.state j && nat_lt (set.anchored j + length (P.state.streams j).anchors) (2 ^ 32 - 1)) _ _ (Q P.state P'.state) h
      (λ x. goes_keep (PlaceAnchor j P.state.plv) P P' (a P.state.plv) x) (λ x. stays_keep P P' x)
  anchored_keep j a false P P' h = stays_keep P P' h

  one_by_one_keep : {A : Type 0} (step : Bool → A → Progress → Progress → Type 0) → ((b : Bool) (x : A) (P P' : Progress) → step b x P P' → Q P.state P'.state) →
      (xs : List A) (whole : Bool) (P P' : Progress) → OneByOne set m n step whole xs P P' → Q P.state P'.state
  one_by_one_keep step each [] whole P P' h = stays_keep P P' h
  one_by_one_keep step each (x ∷ xs) true P P' h = on P.state h.0.state P'.state (each true x P h.0 h.1) (one_by_one_keep step each xs true h.0 P' h.2)
  one_by_one_keep step each (x ∷ xs) false P P' (inl h) = each false x P P' h
  one_by_one_keep step each (x ∷ xs) false P P' (inr h) = on P.state h.0.state P'.state (each true x P h.0 h.1) (one_by_one_keep step each xs false h.0 P' h.2)

  module _ (acks : (w : ℕ) (v : List ℕ) → allows (Ack w v)) where
    cleared_keep : (w : ℕ) (whole : Bool) (P P' : Progress) → Cleared set m n w whole P P' → Q P.state P'.state
    cleared_keep w whole P P' (Cleared.none e) = none P.state
    cleared_keep w whole P P' (Cleared.next {q = R} t more) = on P.state R.state P'.state (leads (Ack w P.state.plv) P.state R.state [] (acks w P.state.plv) t.leads) (cleared_keep w whole R P' more)
    cleared_keep w whole P P' Cleared.cut = none P.state

    pub clerked_keep : (whole : Bool) (P P' : Progress) → Clerked set m n whole P P' → Q P.state P'.state
    clerked_keep whole P P' h = one_by_one_keep (λ b w. Cleared set m n w b) (λ b w X Y k. cleared_keep w b X Y k) (below m) whole P P' h

  module _ (drops : (i : ℕ) (v : List ℕ) → allows (Drop i v)) where
    dropped_keep : (whole : Bool) (i : ℕ) (P P' : Progress) → DropOf set m n whole i P P' → Q P.state P'.state
    dropped_keep true i P P' h = goes_keep (Drop i P.state.plv) P P' (drops i P.state.plv) h
    dropped_keep false i P P' h = stays_keep P P' h

    pub removed_keep : (whole : Bool) (P P' : Progress) → OneByOne set m n (DropOf set m n) whole (below SHARDS) P P' → Q P.state P'.state
    removed_keep whole P P' h = one_by_one_keep (DropOf set m n) dropped_keep (below SHARDS) whole P P' h

-- an event of a worker is none of a manager
own_spares : (i w : ℕ) (e : Event) → IsOwn w e → Spares i e
own_spares i w (Lock u) o = tt
own_spares i w (Busy u) o = tt
own_spares i w (Quit u up) o = tt
own_spares i w (Commit u) o = tt
own_spares i w (Post u) o = tt
own_spares i w (Free u) o = tt
own_spares i w (FirstFree u) o = tt
own_spares i w (Done u) o = tt
own_spares i w (DoneReading u) o = tt
own_spares i w (Drop k v) o = absurd o
own_spares i w (Gather j) o = absurd o
own_spares i w (PlaceAnchor j v) o = absurd o
own_spares i w (Persist j upto) o = absurd o
own_spares i w (Ack u v) o = absurd o
own_spares i w (Stop j upto) o = absurd o
own_spares i w (Resume u) o = absurd o

-- in a turn streams grow, and those whose manager does not act are the same

module _ (set : Setting) (m n : ℕ) (P P' : Progress) where
  grow : (e : Event) (s s' : Core) (new : List (Act Txn)) → Unit {0} → Leads set e s s' new → Grows s s'
  grow e s s' new u q = grows set e s s' new q

  pub worked_grows : (w : ℕ) (whole : Bool) → WorkedPart set m n whole w P P' → Grows P.state P'.state
  worked_grows w whole h = worked_part_keep set m n Grows grows_none grows_on (λ e. Unit {0}) grow w (λ e o. tt) whole P P' h

  pub managed_grows : (j : ℕ) (whole : Bool) → ManagedPart set m n whole j P P' → Grows P.state P'.state
  managed_grows j whole h = managed_keep set m n Grows grows_none grows_on (λ e. Unit {0}) grow j tt (λ u. tt) (λ u. tt) whole P P' h

  pub anchored_grows : (j : ℕ) (whole : Bool) → AnchoredPart set m n whole j P P' → Grows P.state P'.state
  anchored_grows j whole h = anchored_keep set m n Grows grows_none grows_on (λ e. Unit {0}) grow j (λ v. tt) whole P P' h

  pub clerked_grows : (whole : Bool) → Clerked set m n whole P P' → Grows P.state P'.state
  clerked_grows whole h = clerked_keep set m n Grows grows_none grows_on (λ e. Unit {0}) grow (λ w v. tt) whole P P' h

  pub removed_grows : (whole : Bool) → OneByOne set m n (DropOf set m n) whole (below SHARDS) P P' → Grows P.state P'.state
  removed_grows whole h = removed_keep set m n Grows grows_none grows_on (λ e. Unit {0}) grow (λ i v. tt) whole P P' h

  pub goes_grows : (e : Event) → Goes set m n e P P' → Grows P.state P'.state
  goes_grows e h = grows set e P.state P'.state h.new h.leads

  module _ (i : ℕ) where
    pub worked_same : (w : ℕ) (whole : Bool) → WorkedPart set m n whole w P P' → SameAt i P.state P'.state
    worked_same w whole h = worked_part_keep set m n (SameAt i) (same_none i) (same_on i) (Spares i) (spared set i) w (own_spares i w) whole P P' h

    pub managed_same : (j : ℕ) → (i ≡ j → ⊥) → (whole : Bool) → ManagedPart set m n whole j P P' → SameAt i P.state P'.state
    managed_same j ne whole h = managed_keep set m n (SameAt i) (same_none i) (same_on i) (Spares i) (spared set i) j ne (λ u. ne) (λ u. ne) whole P P' h

    pub anchored_same : (j : ℕ) (whole : Bool) → AnchoredPart set m n whole j P P' → SameAt i P.state P'.state
    anchored_same j whole h = anchored_keep set m n (SameAt i) (same_none i) (same_on i) (Spares i) (spared set i) j (λ v. tt) whole P P' h

    pub clerked_same : (whole : Bool) → Clerked set m n whole P P' → SameAt i P.state P'.state
    clerked_same whole h = clerked_keep set m n (SameAt i) (same_none i) (same_on i) (Spares i) (spared set i) (λ w v. tt) whole P P' h

    pub removed_same : (whole : Bool) → OneByOne set m n (DropOf set m n) whole (below SHARDS) P P' → SameAt i P.state P'.state
    removed_same whole h = removed_keep set m n (SameAt i) (same_none i) (same_on i) (Spares i) (spared set i) (λ k v. tt) whole P P' h
