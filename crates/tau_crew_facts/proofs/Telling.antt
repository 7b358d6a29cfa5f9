-- The clerk's loop.
use Rattle.std.proofs.Common.{ℕ, zero, suc, ◌+◌, ◌<◌, ◌≡◌, ◌⊎◌, inl, inr, true, false, List, [], ◌∷◌, ◌++◌, map, length, refl, sym, ap, subst, ◌∙◌, arith}
use Rattle.std.specs.Prelude.{◌==◌, slice_index_or, slice_set}
use Rattle.std.specs.List.{filter}
use Rattle.std.proofs.lemmas.Bool.{cases_eq, eq-eqb, ne_eqb}
use Rattle.std.proofs.lemmas.List.{append-nil, map-append}
use Rattle.tau_base.specs.Vectors.{AtMost}
use Rattle.tau_model.specs.History.{Act, Member}
use Rattle.tau_model.proofs.Orders.{member_front, member_reordered}
use Rattle.tau_machine.specs.Hands.{Txn, act_in}
use Rattle.tau_machine.specs.Accounts.{in_committed, in_worker, in_calls, in_hand, joined_list}
use Rattle.tau_machine.specs.State.{Ticket, Core, ticket_of}
use Rattle.tau_machine.specs.Invariant.{Invariant}
use Rattle.tau_machine.proofs.Accounts.{committed_append}
use Rattle.tau_core.specs.declared.state.Load.{Load}
use Rattle.tau_core.specs.View.{setting_of, worker_of}
use Rattle.tau_run.specs.Run.{pair_of}
use Rattle.tau_run.proofs.Counts.{count_member, count_tickets}
use Rattle.tau_run.proofs.Lists.{filter_append}
use Rattle.tau_crew_facts.specs.Telling.{IsTelling}

-- a pending call is of its worker: a law on what `take` tells of an outbox
pub pending_own : (l : Load) (K : List (Act Txn)) (s : Core) → Invariant (setting_of l) K s → (w : ℕ) (k : Ticket) → Member k (s.outboxes w).pending → worker_of l.workers k.number ≡ w
pending_own l K s g w k q =
    let acc = g.agrees.accounts w in
    let there : Member k (map ticket_of acc.ended) = member_reordered (map ticket_of acc.ended) ((s.outboxes w).pending ++ s.acked w) acc.tickets k (member_front k (s.outboxes w).pending (s.acked w) q) in
    let one = count_member (λ (x : Ticket). x.number) k.number k (map ticket_of acc.ended) there refl in
    let a = count_tickets k.number acc.ended in
    let b = ap (in_committed k.number) acc.committed in
    let c = committed_append k.number acc.ended (joined_list (act_in (s.workers w).hand)) in
    let f : in_calls k.number (s.workers w).waiting + in_hand k.number (s.workers w).hand + in_calls k.number (s.workers w).left + in_committed k.number (s.workers w).committed ≡ in_worker k.number (s.workers w) = refl in
    acc.whose k.number (omega (arith, one, a, b, c, f))

set_same : {A : Type 0} (xs : List A) (i : ℕ) (x d : A) → i < length xs → slice_index_or (slice_set xs i x) i d ≡ x
set_same [] i x d lt = absurd (omega (arith, lt))
set_same (y ∷ xs) zero x d lt = refl
set_same (y ∷ xs) (suc i) x d lt = set_same xs i x d (omega (arith, lt))

set_other : {A : Type 0} (xs : List A) (i j : ℕ) (x d : A) → (j ≡ i → ⊥) → slice_index_or (slice_set xs i x) j d ≡ slice_index_or xs j d
set_other [] i j x d ne = refl
set_other (y ∷ xs) zero zero x d ne = absurd (ne refl)
set_other (y ∷ xs) zero (suc j) x d ne = refl
set_other (y ∷ xs) (suc i) zero x d ne = refl
set_other (y ∷ xs) (suc i) (suc j) x d ne = set_other xs i j x d (λ e. ne (ap suc e))

split_member : {A : Type 0} (x : A) (xs ys : List A) → Member x (xs ++ ys) → Member x xs ⊎ Member x ys
split_member x [] ys m = inr m
split_member x (z ∷ xs) ys (inl e) = inl (inl e)
split_member x (z ∷ xs) ys (inr m) = elim (split_member x xs ys m) [ inl p ↦ inl (inr p) | inr p ↦ inr p ]

-- it acknowledges a call of worker w that what it has seen covers, and tells it
pub telling_more : (l : Load) (acked : List (List Ticket)) (seen : List ℕ) (told : List (ℕ × List ℕ)) (w : ℕ) (k : Ticket) → w < length acked → worker_of l.workers k.number ≡ w → AtMost k.lv seen → IsTelling l acked seen told →
    IsTelling l (slice_set acked w (slice_index_or acked w [] ++ k ∷ [])) seen (told ++ pair_of k ∷ [])
telling_more l acked seen told w k there own low t = record {
  each = λ u lt. by_worker u lt (cases_eq u w);
  licensed = λ a m. elim (split_member a told (pair_of k ∷ []) m) [
    | inl old ↦ t.licensed a old
    | inr new ↦ elim new [ inl is ↦ subst (λ (b : ℕ × List ℕ). AtMost b.1 seen) is low | inr none ↦ absurd none ]
  ];
}
  where
    by_worker : (u : ℕ) → u < l.workers → (u ≡ w) ⊎ (u ≡ w → ⊥) → filter (λ (a : ℕ × List ℕ). worker_of l.workers a.0 == u) (told ++ pair_of k ∷ []) ≡ map pair_of (slice_index_or (slice_set acked w (slice_index_or acked w [] ++ k ∷ [])) u [])
    by_worker u lt (inl is) =
        let here : (worker_of l.workers k.number == u) ≡ true = eq-eqb (worker_of l.workers k.number) u (own ∙ sym is) in
        let one : filter (λ (a : ℕ × List ℕ). worker_of l.workers a.0 == u) (pair_of k ∷ []) ≡ pair_of k ∷ [] = rw here refl in
        filter_append (λ (a : ℕ × List ℕ). worker_of l.workers a.0 == u) told (pair_of k ∷ [])
        ∙ ap (λ (xs : List (ℕ × List ℕ)). xs ++ filter (λ (a : ℕ × List ℕ). worker_of l.workers a.0 == u) (pair_of k ∷ [])) (t.each u lt)
        ∙ ap (λ (xs : List (ℕ × List ℕ)). map pair_of (slice_index_or acked u []) ++ xs) one
        ∙ sym (map-append pair_of (slice_index_or acked u []) (k ∷ []))
        ∙ ap (map pair_of) (subst (λ (v : ℕ). slice_index_or acked v [] ++ k ∷ [] ≡ slice_index_or (slice_set acked w (slice_index_or acked w [] ++ k ∷ [])) v []) (sym is) (sym (set_same acked w (slice_index_or acked w [] ++ k ∷ []) [] there)))
    by_worker u lt (inr other) =
        let not_mine : (worker_of l.workers k.number == u) ≡ false = ne_eqb (worker_of l.workers k.number) u (λ e. other (sym e ∙ own)) in
        let none : filter (λ (a : ℕ × List ℕ). worker_of l.workers a.0 == u) (pair_of k ∷ []) ≡ [] = rw not_mine refl in
        filter_append (λ (a : ℕ × List ℕ). worker_of l.workers a.0 == u) told (pair_of k ∷ [])
        ∙ ap (λ (xs : List (ℕ × List ℕ)). xs ++ filter (λ (a : ℕ × List ℕ). worker_of l.workers a.0 == u) (pair_of k ∷ [])) (t.each u lt)
        ∙ ap (λ (xs : List (ℕ × List ℕ)). map pair_of (slice_index_or acked u []) ++ xs) none
        ∙ append-nil (map pair_of (slice_index_or acked u []))
        ∙ ap (map pair_of) (sym (set_other acked w u (slice_index_or acked w [] ++ k ∷ []) [] other))
