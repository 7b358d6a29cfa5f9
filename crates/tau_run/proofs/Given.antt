-- What the streams of a state were given is there, whatever holds the pieces of it.
use Rattle.std.proofs.Common.{ℕ, zero, suc, ◌+◌, ◌-◌, ◌<◌, ◌≤◌, ◌≡◌, inl, inr, List, [], ◌∷◌, ◌++◌, length, refl, sym, ap, subst, ◌∙◌, arith, append_assoc, slice_index}
use Rattle.std.specs.Prelude.{Some, slice_get, ◌&&◌, ◌==◌}
use Rattle.std.proofs.Math.Nat.{mod-lt}
use Rattle.tau_model.specs.History.{Act, Member, updates}
use Rattle.tau_model.proofs.Logged.{member_filtered}
use Rattle.tau_model.proofs.Orders.{member_back}
use Rattle.tau_machine.specs.Hands.{Txn}
use Rattle.tau_machine.specs.State.{Core, Item, Record, Anchor, start_of, past_of, hand_of}
use Rattle.tau_machine.specs.Pieces.{Chain, records_in, placed_in, StreamGood}
use Rattle.tau_machine.specs.Invariant.{Invariant}
use Rattle.tau_machine.proofs.Results.{committed_theorem}
use Rattle.tau_outbox.specs.declared.Piece.{Piece}
use Rattle.tau_core.specs.declared.state.Load.{Load}
use Rattle.tau_core.specs.View.{setting_of, worker_of}
use Rattle.tau_core.specs.Pieces.{IsPieceOf, AreBytesOf, Paired, Spelled}
use Rattle.tau_run.specs.CoreRun.{IsGiven}
use Rattle.tau_base.proofs.Logic.{some_is}

-- an item with its bytes
abbrev pub HasBytes : Load → (ℕ → List (List ℕ)) → Item → Type 0
HasBytes l anchors i = (bytes : List ℕ) × (start_of i + length bytes ≡ past_of i) × AreBytesOf l anchors i bytes

spelled_of : (l : Load) (anchors : ℕ → List (List ℕ)) (items : List Item) → ((i : Item) → Member i items → HasBytes l anchors i) → (bytes : List ℕ) × Spelled l anchors items bytes
spelled_of l anchors [] h = ([], refl)
spelled_of l anchors (i ∷ items) h =
    let first = h i (inl refl) in
    let rest = spelled_of l anchors items (λ k m. h k (inr m)) in
    (first.0 ++ rest.0, (first.0, rest.0, refl, first.1, first.2, rest.1))

pub piece_bytes : (l : Load) (anchors : ℕ → List (List ℕ)) (p : Piece) (i : Item) → IsPieceOf l anchors p i → HasBytes l anchors i
piece_bytes l anchors p i is = (p.bytes, ap (λ k. k + length p.bytes) (sym is.start) ∙ is.past, is.bytes)

paired_bytes : (l : Load) (anchors : ℕ → List (List ℕ)) (pieces : List Piece) (items : List Item) → Paired (IsPieceOf l anchors) pieces items → (i : Item) → Member i items → HasBytes l anchors i
paired_bytes l anchors [] [] pair i m = absurd m
paired_bytes l anchors [] (x ∷ items) pair i m = absurd pair
paired_bytes l anchors (p ∷ pieces) [] pair i m = absurd pair
paired_bytes l anchors (p ∷ pieces) (x ∷ items) pair i (inl e) = subst (HasBytes l anchors) e (piece_bytes l anchors p x pair.0)
paired_bytes l anchors (p ∷ pieces) (x ∷ items) pair i (inr m) = paired_bytes l anchors pieces items pair.1 i m

pub record_member : (items : List Item) (t : Act Txn) → Member (Record t) items → Member t (records_in items)
record_member [] t m = absurd m
record_member (Record u ∷ items) t (inl e) = inl (record_is e)
  where
    record_in : Item → Act Txn
    record_in (Record x) = x
    record_in (Anchor a b v) = u

    record_is : Record u ≡ Record t → u ≡ t
    record_is e = ap record_in e
record_member (Anchor a b v ∷ items) t (inl e) = absurd (cc e)
record_member (Record u ∷ items) t (inr m) = inr (record_member items t m)
record_member (Anchor a b v ∷ items) t (inr m) = record_member items t m

spelled_more : (l : Load) (anchors : ℕ → List (List ℕ)) (xs ys : List Item) (b c : List ℕ) → Spelled l anchors xs b → Spelled l anchors ys c → Spelled l anchors (xs ++ ys) (b ++ c)
spelled_more l anchors [] ys b c h k = subst (λ (z : List ℕ). Spelled l anchors ys (z ++ c)) (sym h) k
spelled_more l anchors (x ∷ xs) ys b c h k =
    (h.0, h.1 ++ c, ap (λ (z : List ℕ). z ++ c) h.2 ∙ append_assoc h.0 h.1 c, h.3, h.4, spelled_more l anchors xs ys h.1 c h.5 k)

-- one after another, each with what is said of it
listed_from : {A : Type 0} (P : ℕ → A → Type 0) (k : ℕ) → ((j : ℕ) → j < k → (x : A) × P j x) → (xs : List A) × (length xs ≡ k) × ((j : ℕ) (x : A) → slice_get xs j ≡ Some x → P j x)
listed_from P zero f = ([], refl, λ j x e. absurd cc)
listed_from {A} P (suc k) f =
    let first = f 0 (omega arith) in
    let rest = listed_from (λ j x. P (suc j) x) k (λ j lt. f (suc j) (omega (arith, lt))) in
    (first.0 ∷ rest.0, ap suc rest.1, λ j x e. by_place j x first.0 first.1 rest.0 rest.2 e)
  where
    by_place : (j : ℕ) (x : A) (y : A) → P 0 y → (ys : List A) → ((j : ℕ) (x : A) → slice_get ys j ≡ Some x → P (suc j) x) → slice_get (y ∷ ys) j ≡ Some x → P j x
    by_place zero x y q ys all e = subst (λ (z : A). P 0 z) (some_is y x e) q
    by_place (suc j) x y q ys all e = all j x e

module _ (l : Load) (K : List (Act Txn)) (s : Core) (inv : Invariant (setting_of l) K s) (some : 1 ≤ l.workers) (bases : ℕ → List ℕ) (long : (j : ℕ) → j < l.streams → length (bases j) ≡ slice_index l.opening.ends j)
    (boxes : (w : ℕ) → w < l.workers → (pieces : List Piece) × Paired (IsPieceOf l (λ i. (s.streams i).anchors)) pieces (s.outboxes w).posted)
    (own : (j : ℕ) → j < l.streams → (pieces : List Piece) × Paired (IsPieceOf l (λ i. (s.streams i).anchors)) pieces (s.streams j).posted)
    (moved : (j : ℕ) → j < l.streams → (bytes : List ℕ) × Spelled l (λ i. (s.streams i).anchors) (s.streams j).moved bytes)
    (flying : (w : ℕ) (t : Act Txn) → placed_in (hand_of s w) ≡ Some t → HasBytes l (λ i. (s.streams i).anchors) (Record t)) where
  abbrev anchors : ℕ → List (List ℕ)
  anchors i = (s.streams i).anchors

  -- the worker of a committed call is there
  worker_low : (t : Act Txn) → Member t K → t.call.worker < l.workers
  worker_low t q =
      let own : worker_of l.workers t.call.call.number ≡ t.call.worker = ((committed_theorem (setting_of l) K s inv).0 t q).1 in
      let low : worker_of l.workers t.call.call.number < l.workers = mod-lt (t.call.call.number - 1) {m = l.workers} (omega (arith, some)) in
      omega (arith, own, low)

  module _ (j : ℕ) (lt : j < l.streams) where
    good : StreamGood (setting_of l) K s j
    good = inv.agrees.pieces.stream j lt

    in_order : (t : Act Txn) → Member (Record t) good.waiting → Member t K
    in_order t q =
        let all : Member t (records_in ((s.streams j).moved ++ good.waiting)) = record_member ((s.streams j).moved ++ good.waiting) t (member_back (Record t) (s.streams j).moved good.waiting q) in
        (member_filtered (λ (x : Act Txn). updates x.effect && x.call.place.stream == j) t K (subst (λ (ts : List (Act Txn)). Member t ts) good.records all)).0

    waiting_bytes : (i : Item) → Member i good.waiting → HasBytes l anchors i
    waiting_bytes i q = elim (good.there i q) [
      | inl posted ↦ elim posted [
        | inl of_worker ↦
            let w : ℕ = of_worker.0 in
            let t = inv.agrees.pieces.whose w i of_worker.2 in
            let own = t.2 in
            let there = worker_low t.0 (in_order t.0 (subst (λ (x : Item). Member x good.waiting) t.1 q)) in
            let box = boxes w (omega (arith, own, there)) in
            paired_bytes l anchors box.0 (s.outboxes w).posted box.1 i of_worker.2
        | inr mine ↦ (let box = own j lt in paired_bytes l anchors box.0 (s.streams j).posted box.1 i mine)
      ]
      | inr flies ↦ subst (HasBytes l anchors) (sym flies.2.1) (flying flies.0 flies.2.0 flies.2.2)
    ]

    given : (content : List ℕ) × IsGiven l K s j (bases j) content
    given =
        let rest = spelled_of l anchors good.waiting waiting_bytes in
        let first = moved j lt in (
          bases j ++ (first.0 ++ rest.0),
          record {
            waiting = good.waiting;
            moved = subst (λ k. Chain k (s.streams j).moved (slice_index s.gathered j)) (sym (long j lt)) good.moved;
            rest = good.rest;
            records = good.records;
            anchors = good.anchors;
            named = good.named;
            bytes = first.0 ++ rest.0;
            spelled = spelled_more l anchors (s.streams j).moved good.waiting first.0 rest.0 first.1 rest.1;
            is = refl;
          },
        )

  pub contents_there : (contents : List (List ℕ)) × (length contents ≡ l.streams) × ((j : ℕ) (content : List ℕ) → slice_get contents j ≡ Some content → IsGiven l K s j (bases j) content)
  contents_there = listed_from (λ j content. IsGiven l K s j (bases j) content) l.streams (λ j lt. given j lt)
