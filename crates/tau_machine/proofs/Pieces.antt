-- Pieces of streams.
use Rattle.std.proofs.lemmas.List.{append-nil, append_assoc}
use Rattle.std.proofs.Common.{ℕ, ◌≤◌, ◌<◌, ◌≡◌, inl, inr, List, [], ◌∷◌, ◌++◌, refl, sym, ap, subst, ◌∙◌, arith}
use Rattle.std.specs.Prelude.{slice_index}
use Rattle.tau_model.specs.History.{Act, Member}
use Rattle.tau_machine.specs.Hands.{Txn}
use Rattle.tau_machine.specs.State.{Setting, Item, Record, Anchor, start_of, past_of, Core, hand_of}
use Rattle.tau_machine.specs.Pieces.{NameTheirs, Chain, Ascending, records_in, anchors_in, placed_in, records_of_stream, PostedAt, StreamGood, Pieces}
use Rattle.tau_machine.proofs.Snoc.{member_snoc}

pub chain_append : (a b c : ℕ) (xs ys : List Item) → Chain a xs b → Chain b ys c → Chain a (xs ++ ys) c
chain_append a b c [] ys e q = subst (λ (k : ℕ). Chain k ys c) (sym e) q
chain_append a b c (x ∷ xs) ys p q = (p.0, p.1, chain_append (past_of x) b c xs ys p.2 q)

pub chain_low : (a b : ℕ) (xs : List Item) → Chain a xs b → a ≤ b
chain_low a b [] e = omega arith
chain_low a b (x ∷ xs) p = let l = chain_low (past_of x) b xs p.2 in let q = p.1 in omega arith

-- an item of a chain lies within it
pub chain_member : (a b : ℕ) (xs : List Item) (i : Item) → Chain a xs b → Member i xs → (a ≤ start_of i) × (start_of i < past_of i) × (past_of i ≤ b)
chain_member a b [] i p m = absurd m
chain_member a b (x ∷ xs) i p (inl e) =
    subst (λ (k : Item). (a ≤ start_of k) × (start_of k < past_of k) × (past_of k ≤ b)) e
    (let q = p.0 in let r = p.1 in let l = chain_low (past_of x) b xs p.2 in (omega arith, omega arith, l))
chain_member a b (x ∷ xs) i p (inr m) = let q = chain_member (past_of x) b xs i p.2 m in let l = q.0 in let r = p.1 in (omega arith, q.1, q.2)

-- the item that starts where a chain does is its first
pub chain_first : (a b : ℕ) (xs : List Item) (i : Item) → Chain a xs b → Member i xs → start_of i ≡ a → (rest : List Item) × (xs ≡ i ∷ rest) × (a < past_of i) × Chain (past_of i) rest b
chain_first a b [] i p m e = absurd m
chain_first a b (x ∷ xs) i p m e = elim m [
  | inl is ↦ (xs, ap (λ (k : Item). k ∷ xs) is, subst (λ (k : Item). a < past_of k) is p.1, subst (λ (k : Item). Chain (past_of k) xs b) is p.2)
  | inr later ↦ absurd (let q = chain_member (past_of x) b xs i p.2 later in let l = q.0 in let r = p.1 in omega arith)
]

pub records_append : (xs ys : List Item) → records_in (xs ++ ys) ≡ records_in xs ++ records_in ys
records_append [] ys = refl
records_append (Record t ∷ xs) ys = ap (λ l. t ∷ l) (records_append xs ys)
records_append (Anchor a b v ∷ xs) ys = records_append xs ys

pub anchors_append : (xs ys : List Item) → anchors_in (xs ++ ys) ≡ anchors_in xs ++ anchors_in ys
anchors_append [] ys = refl
anchors_append (Record t ∷ xs) ys = anchors_append xs ys
anchors_append (Anchor a b v ∷ xs) ys = ap (λ l. v ∷ l) (anchors_append xs ys)

-- items after others name theirs
pub named_append : (n : ℕ) (before : List (List ℕ)) (xs ys : List Item) → NameTheirs n before xs → NameTheirs n (before ++ anchors_in xs) ys → NameTheirs n before (xs ++ ys)
named_append n before [] ys h k = subst (λ (l : List (List ℕ)). NameTheirs n l ys) (append-nil before) k
named_append n before (Record t ∷ xs) ys h k = (h.0, named_append n before xs ys h.1 k)
named_append n before (Anchor a b v ∷ xs) ys h k =
    named_append n (before ++ v ∷ []) xs ys h (subst (λ (l : List (List ℕ)). NameTheirs n l ys) (sym (append_assoc before (v ∷ []) (anchors_in xs))) k)

pub ascending_last : (xs : List Item) (i : Item) → Ascending xs → ((k : Item) → Member k xs → past_of k ≤ start_of i) → Ascending (xs ++ i ∷ [])
ascending_last [] i a h = (λ k m. absurd m, tt)
ascending_last (x ∷ xs) i a h = (
  λ k m. elim (member_snoc xs i k m) [ inl old ↦ a.0 k old | inr e ↦ subst (λ (j : Item). past_of x ≤ start_of j) e (h x (inl refl)) ],
  ascending_last xs i a.1 (λ k m. h k (inr m)),
)

module _ (set : Setting) where
  -- what the streams say of stream j in one state they say in the other
  pub record Same (K K' : List (Act Txn)) (s s' : Core) (j : ℕ) : Type 0 where
    pub moved : (s'.streams j).moved ≡ (s.streams j).moved
    pub own : (s'.streams j).posted ≡ (s.streams j).posted
    pub anchors : (s'.streams j).anchors ≡ (s.streams j).anchors
    pub gathered : slice_index s'.gathered j ≡ slice_index s.gathered j
    pub ends : slice_index s'.ends j ≡ slice_index s.ends j
    pub records : records_of_stream j K' ≡ records_of_stream j K
    pub posted : (w : ℕ) → set.stream_of w ≡ j → (s'.outboxes w).posted ≡ (s.outboxes w).posted
    pub placed : (w : ℕ) → set.stream_of w ≡ j → placed_in (hand_of s' w) ≡ placed_in (hand_of s w)

  pub posted_same : (K K' : List (Act Txn)) (s s' : Core) (j : ℕ) → Same K K' s s' j → (i : Item) → PostedAt set s j i → PostedAt set s' j i
  posted_same K K' s s' j q i (inl (w, is, m)) = inl (w, is, subst (λ (l : List Item). Member i l) (sym (q.posted w is)) m)
  posted_same K K' s s' j q i (inr m) = inr (subst (λ (l : List Item). Member i l) (sym q.own) m)

  pub posted_back : (K K' : List (Act Txn)) (s s' : Core) (j : ℕ) → Same K K' s s' j → (i : Item) → PostedAt set s' j i → PostedAt set s j i
  posted_back K K' s s' j q i (inl (w, is, m)) = inl (w, is, subst (λ (l : List Item). Member i l) (q.posted w is) m)
  posted_back K K' s s' j q i (inr m) = inr (subst (λ (l : List Item). Member i l) q.own m)

  pub stream_kept : (K K' : List (Act Txn)) (s s' : Core) (j : ℕ) → Same K K' s s' j → StreamGood set K s j → StreamGood set K' s' j
  stream_kept K K' s s' j q g = record {
    waiting = g.waiting;
    moved = subst (λ (k : ℕ). Chain (slice_index set.opening j) (s'.streams j).moved k) (sym q.gathered) (subst (λ (l : List Item). Chain (slice_index set.opening j) l (slice_index s.gathered j)) (sym q.moved) g.moved);
    rest = subst (λ (k : ℕ). Chain k g.waiting (slice_index s'.ends j)) (sym q.gathered) (subst (λ (k : ℕ). Chain (slice_index s.gathered j) g.waiting k) (sym q.ends) g.rest);
    records = ap (λ (l : List Item). records_in (l ++ g.waiting)) q.moved ∙ g.records ∙ sym q.records;
    anchors = ap (λ (l : List Item). anchors_in (l ++ g.waiting)) q.moved ∙ g.anchors ∙ sym q.anchors;
    named = subst (λ (l : List Item). NameTheirs (set.anchored j) [] (l ++ g.waiting)) (sym q.moved) g.named;
    there = λ i m. elim (g.there i m) [
      | inl p ↦ inl (posted_same K K' s s' j q i p)
      | inr f ↦ inr (f.0, f.1, (f.2.0, f.2.1, q.placed f.0 f.1 ∙ f.2.2))
    ];
    posted = λ i p. g.posted i (posted_back K K' s s' j q i p);
    flying = λ i f. g.flying i (f.0, f.1, (f.2.0, f.2.1, sym (q.placed f.0 f.1) ∙ f.2.2));
  }

  -- nothing of all this changes
  pub record Still (K K' : List (Act Txn)) (s s' : Core) : Type 0 where
    pub same : (j : ℕ) → j < set.width → Same K K' s s' j
    pub posted : (w : ℕ) → (s'.outboxes w).posted ≡ (s.outboxes w).posted
    pub own : (j : ℕ) → (s'.streams j).posted ≡ (s.streams j).posted
    pub placed : (w : ℕ) → placed_in (hand_of s' w) ≡ placed_in (hand_of s w)

  pub pieces_kept : (K K' : List (Act Txn)) (s s' : Core) → Still K K' s s' → Pieces set K s → Pieces set K' s'
  pieces_kept K K' s s' q g = record {
    stream = λ j lt. stream_kept K K' s s' j (q.same j lt) (g.stream j lt);
    whose = λ w i m. g.whose w i (subst (λ (l : List Item). Member i l) (q.posted w) m);
    own = λ j i m. g.own j i (subst (λ (l : List Item). Member i l) (q.own j) m);
    ascending = λ w. subst Ascending (sym (q.posted w)) (g.ascending w);
    ascending_own = λ j. subst Ascending (sym (q.own j)) (g.ascending_own j);
    last = λ w t i e m. g.last w t i (sym (q.placed w) ∙ e) (subst (λ (l : List Item). Member i l) (q.posted w) m);
    worker = λ w t e. g.worker w t (sym (q.placed w) ∙ e);
  }
