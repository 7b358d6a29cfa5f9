-- Pieces and their items, and the acknowledgements of all workers.
use Rattle.std.proofs.Common.{ℕ, ◌+◌, ◌-◌, ◌<◌, ◌≤◌, ◌≡◌, ◌⊎◌, inl, inr, List, [], ◌∷◌, ◌++◌, map, length, take, refl, sym, ap, ◌∙◌, arith}
use Rattle.std.specs.Prelude.{Option, Some, None, ◌==◌, Bool, false}
use Rattle.std.specs.List.{filter}
use Rattle.std.proofs.Math.Nat.{mod-lt}
use Rattle.std.proofs.lemmas.Bool.{ne_eqb}
use Rattle.tau_model.specs.History.{Act, Member}
use Rattle.tau_model.proofs.Orders.{member_back, member_reordered}
use Rattle.tau_machine.specs.Hands.{Txn, Hand, Phase, Running, Quitting, Placed, Freeing, act_in, act_of}
use Rattle.tau_machine.specs.Accounts.{in_committed, in_worker, in_calls, in_hand, joined_list}
use Rattle.tau_machine.specs.State.{Core, Item, Ticket, ticket_of}
use Rattle.tau_machine.specs.Pieces.{placed_in, placed_of}
use Rattle.tau_machine.specs.Invariant.{Invariant}
use Rattle.tau_machine.proofs.Accounts.{committed_append}
use Rattle.tau_outbox.specs.declared.Piece.{Piece}
use Rattle.tau_outbox.specs.Pieces.{bytes_of}
use Rattle.tau_core.specs.declared.state.Load.{Load}
use Rattle.tau_core.specs.View.{setting_of, worker_of}
use Rattle.tau_core.specs.Pieces.{IsPieceOf, Paired, Spelled}
use Rattle.tau_run.specs.Run.{pair_of}
use Rattle.tau_run.specs.CoreRun.{AreAcks}
use Rattle.tau_run.proofs.Counts.{count_member, count_tickets}
use Rattle.tau_crew_facts.specs.Ends.{IsLoose}

-- ---- pieces that were gathered

-- the bytes of pieces are those of their items
pub pieces_spelled : (l : Load) (anchors : ℕ → List (List ℕ)) (pieces : List Piece) (items : List Item) → Paired (IsPieceOf l anchors) pieces items → Spelled l anchors items (bytes_of pieces)
pieces_spelled l anchors [] [] pair = refl
pieces_spelled l anchors [] (x ∷ items) pair = absurd pair
pieces_spelled l anchors (p ∷ pieces) [] pair = absurd pair
pieces_spelled l anchors (p ∷ pieces) (x ∷ items) pair =
    (p.bytes, bytes_of pieces, refl, ap (λ (k : ℕ). k + length p.bytes) (sym pair.0.start) ∙ pair.0.past, pair.0.bytes, pieces_spelled l anchors pieces items pair.1)

-- the first pieces belong to the first items
pub paired_front : {A B : Type 0} (R : A → B → Type 0) (front rest : List A) (items : List B) → Paired R (front ++ rest) items → Paired R front (take (length front) items)
paired_front R [] rest items pair = tt
paired_front R (p ∷ front) rest [] pair = absurd pair
paired_front R (p ∷ front) rest (x ∷ items) pair = (pair.0, paired_front R front rest items pair.1)

-- ---- a call that has not committed has no place

unplaced : (p : Phase) → act_of p ≡ None → placed_of p ≡ None
unplaced Running e = refl
unplaced Quitting e = refl
unplaced (Placed t) e = absurd (cc e)
unplaced (Freeing t) e = refl

pub loose_unplaced : (o : Option Hand) → IsLoose o → placed_in o ≡ None
loose_unplaced None e = refl
loose_unplaced (Some h) e = unplaced h.phase e.0

-- ---- the acknowledgements of workers that are not there

-- an acknowledged call is of its worker
pub acked_own : (l : Load) (K : List (Act Txn)) (s : Core) → Invariant (setting_of l) K s → (w : ℕ) (k : Ticket) → Member k (s.acked w) → worker_of l.workers k.number ≡ w
acked_own l K s g w k q =
    let acc = g.agrees.accounts w in
    let there : Member k (map ticket_of acc.ended) = member_reordered (map ticket_of acc.ended) ((s.outboxes w).pending ++ s.acked w) acc.tickets k (member_back k (s.outboxes w).pending (s.acked w) q) in
    let one = count_member (λ (x : Ticket). x.number) k.number k (map ticket_of acc.ended) there refl in
    let a = count_tickets k.number acc.ended in
    let b = ap (in_committed k.number) acc.committed in
    let c = committed_append k.number acc.ended (joined_list (act_in (s.workers w).hand)) in
    let f : in_calls k.number (s.workers w).waiting + in_hand k.number (s.workers w).hand + in_calls k.number (s.workers w).left + in_committed k.number (s.workers w).committed ≡ in_worker k.number (s.workers w) = refl in
    acc.whose k.number (omega (arith, one, a, b, c, f))

pub no_members : {A : Type 0} (xs : List A) → ((x : A) → Member x xs → ⊥) → xs ≡ []
no_members [] none = refl
no_members (x ∷ xs) none = absurd (none x (inl refl))

none_filtered : {A : Type 0} (f : A → Bool) (xs : List A) → ((x : A) → f x ≡ false) → filter f xs ≡ []
none_filtered f [] none = refl
none_filtered f (x ∷ xs) none = rw (none x) (none_filtered f xs none)

-- the acknowledgements of the workers that are there are all
pub acks_all : (l : Load) (K : List (Act Txn)) (s : Core) → Invariant (setting_of l) K s → 1 ≤ l.workers → (acks : List (ℕ × List ℕ)) →
    ((w : ℕ) → w < l.workers → filter (λ (a : ℕ × List ℕ). worker_of l.workers a.0 == w) acks ≡ map pair_of (s.acked w)) → AreAcks l s acks
acks_all l K s g some acks told w = by_side (split w l.workers)
  where
    split : (x y : ℕ) → (x < y) ⊎ (y ≤ x)
    split x y = grind arith

    low : (k : ℕ) → worker_of l.workers k < l.workers
    low k = mod-lt (k - 1) {m = l.workers} (omega (arith, some))

    by_side : (w < l.workers) ⊎ (l.workers ≤ w) → filter (λ (a : ℕ × List ℕ). worker_of l.workers a.0 == w) acks ≡ map pair_of (s.acked w)
    by_side (inl lt) = told w lt
    by_side (inr le) =
        let none : s.acked w ≡ [] = no_members (s.acked w) (λ k m. let own = acked_own l K s g w k m in let lt = low k.number in absurd (omega (arith, own, lt, le))) in
        none_filtered (λ (a : ℕ × List ℕ). worker_of l.workers a.0 == w) acks (λ a. ne_eqb (worker_of l.workers a.0) w (λ e. let lt = low a.0 in omega (arith, e, lt, le)))
        ∙ ap (map pair_of) (sym none)
