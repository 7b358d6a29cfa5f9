-- What the views tell at the end of a run in threads: all that was placed is gathered, and all that is persisted is told.
use Rattle.std.proofs.Common.{ℕ, ◌+◌, ◌-◌, ◌<◌, ◌≤◌, ◌≡◌, inl, inr, Bool, true, false, List, [], ◌∷◌, ◌++◌, map, length, refl, sym, ap, subst, ◌∙◌, arith, slice_index}
use Rattle.std.specs.Prelude.{Option, Some, None, ◌&&◌, ◌==◌, ◌%◌}
use Rattle.std.specs.List.{filter}
use Rattle.std.proofs.Math.Nat.{mod-lt}
use Rattle.std.proofs.lemmas.Bool.{and_parts, eq-eqb}
use Rattle.std.proofs.lemmas.List.{append-nil, length-append}
use Rattle.tau_base.specs.Vectors.{covers}
use Rattle.tau_base.proofs.Vectors.{at_most_covers}
use Rattle.tau_model.specs.History.{Act, Member, updates}
use Rattle.tau_model.specs.declared.committed.Committed.{Committed}
use Rattle.tau_model.proofs.Logged.{member_filtered}
use Rattle.tau_model.proofs.Orders.{member_back}
use Rattle.tau_model.proofs.Reorder.{reordered_filter, reordered_length}
use Rattle.tau_model.proofs.ReportOrder.{member_filter_in}
use Rattle.tau_machine.specs.Hands.{Hand, Txn, act_in, committed_of, spot_of}
use Rattle.tau_machine.specs.State.{Core, Item, Record, Ticket, hand_of, past_of, ticket_of}
use Rattle.tau_machine.specs.Pieces.{Chain, placed_in, records_in, StreamGood}
use Rattle.tau_machine.specs.Accounts.{joined_list}
use Rattle.tau_machine.specs.Invariant.{Invariant}
use Rattle.tau_machine.proofs.Results.{committed_theorem}
use Rattle.tau_core.specs.declared.state.Load.{Load}
use Rattle.tau_core.specs.View.{setting_of, worker_of}
use Rattle.tau_run.proofs.Lists.{filter_append, filter_map}
use Rattle.tau_crew_facts.specs.Closing.{EndsBy, covered_count}
use Rattle.tau_model.proofs.Calls.{member_map}
use Rattle.tau_base.proofs.Lists.{empty_of_length, length_mapped}
use Rattle.tau_run.proofs.Given.{record_member}

-- the place of an updating call ends there
spot_ends : (b : Bool) (t : Txn) (upto : ℕ) → b ≡ true → EndsBy upto (spot_of b t) → t.place.past ≤ upto
spot_ends true t upto e h = h
spot_ends false t upto e h = absurd (cc e)

-- Where no record of the stream is in flight, none of its manager's own waits, and each record that a worker placed ends within what is gathered, all that was placed is gathered.
pub gathered_by_views : (l : Load) (K : List (Act Txn)) (s : Core) → Invariant (setting_of l) K s → 1 ≤ l.workers → (j : ℕ) → j < l.streams → ((w : ℕ) → placed_in (hand_of s w) ≡ None) → (s.streams j).posted ≡ [] →
    ((w : ℕ) (call : Committed) → w < l.workers → w % l.streams ≡ j → Member call (s.workers w).committed → EndsBy (slice_index s.gathered j) call.spot) → slice_index s.gathered j ≡ slice_index s.ends j
gathered_by_views l K s inv some j lt none own placed = by_waiting good.waiting refl good.rest
  where
    good : StreamGood (setting_of l) K s j
    good = inv.agrees.pieces.stream j lt

    low : (k : ℕ) → worker_of l.workers k < l.workers
    low k = mod-lt (k - 1) {m = l.workers} (omega (arith, some))

    -- a record that waits ends after what is gathered, which no placed one does
    not_record : (w : ℕ) (t : Act Txn) → w % l.streams ≡ j → t.call.worker ≡ w → Member (Record t) good.waiting → slice_index s.gathered j < t.call.place.past → ⊥
    not_record w t stream is q beyond =
        let all : Member t (records_in ((s.streams j).moved ++ good.waiting)) = record_member ((s.streams j).moved ++ good.waiting) t (member_back (Record t) (s.streams j).moved good.waiting q) in
        let of = member_filtered (λ (x : Act Txn). updates x.effect && x.call.place.stream == j) t K (subst (λ (ts : List (Act Txn)). Member t ts) good.records all) in
        let writes : updates t.effect ≡ true = (and_parts (updates t.effect) (t.call.place.stream == j) of.1).0 in
        let whose : worker_of l.workers t.call.call.number ≡ t.call.worker = ((committed_theorem (setting_of l) K s inv).0 t of.0).1 in
        let there : w < l.workers = (let a = low t.call.call.number in omega (arith, a, whose, is)) in
        let mine : Member (committed_of t) (s.workers w).committed =
        subst (λ (cs : List Committed). Member (committed_of t) cs) (sym ((committed_theorem (setting_of l) K s inv).2 w))
        (member_map committed_of t (filter (λ (u : Act Txn). u.call.worker == w) K) (member_filter_in (λ (u : Act Txn). u.call.worker == w) K t of.0 (eq-eqb t.call.worker w is))) in
        let ends : t.call.place.past ≤ slice_index s.gathered j = spot_ends (updates t.effect) t.call (slice_index s.gathered j) writes (placed w (committed_of t) there stream mine) in
        omega (arith, ends, beyond)

    by_waiting : (items : List Item) → good.waiting ≡ items → Chain (slice_index s.gathered j) items (slice_index s.ends j) → slice_index s.gathered j ≡ slice_index s.ends j
    by_waiting [] e chain = chain
    by_waiting (i ∷ items) e chain =
        let here : Member i good.waiting = subst (λ (is : List Item). Member i is) (sym e) (inl refl) in
        elim (good.there i here) [
          | inl posted ↦ elim posted [
            | inl of_worker ↦
                let t = inv.agrees.pieces.whose of_worker.0 i of_worker.2 in
                absurd (not_record of_worker.0 t.0 of_worker.1 t.2 (subst (λ (x : Item). Member x good.waiting) t.1 here) (subst (λ (x : Item). slice_index s.gathered j < past_of x) t.1 chain.1))
            | inr mine ↦ absurd (subst (λ (is : List Item). Member i is) own mine)
          ]
          | inr flies ↦ (let bad : None ≡ Some flies.2.0 = sym (none flies.0) ∙ flies.2.2 in absurd (cc bad))
        ]

pub filter_all : {A : Type 0} (p : A → Bool) (xs : List A) → ((x : A) → Member x xs → p x ≡ true) → filter p xs ≡ xs
filter_all p [] all = refl
filter_all {A} p (x ∷ xs) all = rw (all x (inl refl)) (ap (λ (ys : List A). x ∷ ys) (filter_all p xs (λ y m. all y (inr m))))

-- Where a worker has no call in hand, and as many of its calls are acknowledged as are persisted, no persisted one waits for its acknowledgement.
pub told_by_views : (l : Load) (K : List (Act Txn)) (s : Core) → Invariant (setting_of l) K s → (w : ℕ) → (s.workers w).hand ≡ None → covered_count s.plv (s.workers w).committed ≤ length (s.acked w) →
    filter (λ (k : Ticket). covers s.plv k.lv) (s.outboxes w).pending ≡ []
told_by_views l K s inv w rests enough =
    let acc = inv.agrees.accounts w in
    let is_covered : Ticket → Bool = λ k. covers s.plv k.lv in
    let ended : (s.workers w).committed ≡ acc.ended = acc.committed ∙ ap (λ (o : Option Hand). acc.ended ++ joined_list (act_in o)) rests ∙ append-nil acc.ended in
    let counts = reordered_length (filter is_covered (map ticket_of acc.ended)) (filter is_covered ((s.outboxes w).pending ++ s.acked w)) (reordered_filter is_covered (map ticket_of acc.ended) ((s.outboxes w).pending ++ s.acked w) acc.tickets) in
    let mapped : length (filter is_covered (map ticket_of acc.ended)) ≡ covered_count s.plv acc.ended =
    ap (length {A = Ticket}) (filter_map ticket_of is_covered (λ (c : Committed). covers s.plv c.lv) acc.ended (λ c m. refl)) ∙ length_mapped ticket_of (filter (λ (c : Committed). covers s.plv c.lv) acc.ended) in
    let of_committed : covered_count s.plv (s.workers w).committed ≡ covered_count s.plv acc.ended = ap (covered_count s.plv) ended in
    let acked : filter is_covered (s.acked w) ≡ s.acked w = filter_all is_covered (s.acked w) (λ k m. at_most_covers s.plv k.lv (inv.agrees.good.acked w k m).0) in
    let parts : length (filter is_covered ((s.outboxes w).pending ++ s.acked w)) ≡ length (filter is_covered (s.outboxes w).pending) + length (s.acked w) =
    ap (length {A = Ticket}) (filter_append is_covered (s.outboxes w).pending (s.acked w)) ∙ length-append (filter is_covered (s.outboxes w).pending) (filter is_covered (s.acked w)) ∙ ap (λ (ks : List Ticket). length (filter is_covered (s.outboxes w).pending) + length ks) acked in
    empty_of_length (filter is_covered (s.outboxes w).pending) (omega (arith, counts, mapped, of_committed, parts, enough))
