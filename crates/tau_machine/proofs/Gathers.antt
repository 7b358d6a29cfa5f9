-- Events that gather pieces and place anchors.
use Rattle.std.proofs.Common.{ℕ, ◌≤◌, ◌<◌, ◌≡◌, ◌⊎◌, inl, inr, List, [], ◌∷◌, ◌++◌, refl, sym, ap, subst, ◌∙◌, arith, append_assoc}
use Rattle.std.specs.Prelude.{slice_index}
use Rattle.std.proofs.lemmas.List.{append-nil}
use Rattle.std.proofs.lemmas.Bool.{cases_eq}
use Rattle.tau_model.specs.History.{Act, Member}
use Rattle.tau_model.proofs.Orders.{member_front}
use Rattle.tau_machine.specs.Hands.{Txn}
use Rattle.tau_machine.specs.State.{Setting, Item, Record, Anchor, start_of, past_of, Outbox, Core, hand_of}
use Rattle.tau_machine.specs.Pieces.{NameTheirs, Chain, Ascending, records_in, anchors_in, placed_in, PostedAt, Flying, StreamGood, Pieces}
use Rattle.tau_machine.proofs.Snoc.{member_snoc, member_last}
use Rattle.tau_machine.proofs.Pieces.{named_append, chain_append, chain_member, chain_first, records_append, anchors_append, ascending_last, Same, stream_kept}

pub anchor_record : (a b : ℕ) (v : List ℕ) (t : Act Txn) → ◌≡◌ {A = Item} (Anchor a b v) (Record t) → ⊥
anchor_record a b v t e = cc

module _ (set : Setting) (K : List (Act Txn)) (s s' : Core) (g : Pieces set K s) where
  -- the piece i of stream j is gathered
  pub record Gathers (j : ℕ) (i : Item) : Type 0 where
    pub there : j < set.width
    pub is : PostedAt set s j i
    pub start : start_of i ≡ slice_index s.gathered j
    pub moved : (s'.streams j).moved ≡ (s.streams j).moved ++ i ∷ []
    pub moved_other : (k : ℕ) → (k ≡ j → ⊥) → (s'.streams k).moved ≡ (s.streams k).moved
    pub anchors : (k : ℕ) → (s'.streams k).anchors ≡ (s.streams k).anchors
    pub gathered : slice_index s'.gathered j ≡ past_of i
    pub gathered_other : (k : ℕ) → (k ≡ j → ⊥) → slice_index s'.gathered k ≡ slice_index s.gathered k
    pub ends : s'.ends ≡ s.ends
    pub placed : (u : ℕ) → placed_in (hand_of s' u) ≡ placed_in (hand_of s u)
    pub less : (u : ℕ) (k : Item) → Member k (s'.outboxes u).posted → Member k (s.outboxes u).posted
    pub less_own : (l : ℕ) (k : Item) → Member k (s'.streams l).posted → Member k (s.streams l).posted
    pub still : (k : Item) → PostedAt set s j k → (i ≡ k) ⊎ PostedAt set s' j k
    pub gone : PostedAt set s' j i → ⊥
    pub posted_other : (u : ℕ) → (set.stream_of u ≡ j → ⊥) → (s'.outboxes u).posted ≡ (s.outboxes u).posted
    pub own_other : (k : ℕ) → (k ≡ j → ⊥) → (s'.streams k).posted ≡ (s.streams k).posted
    pub ascending : (u : ℕ) → Ascending (s'.outboxes u).posted
    pub ascending_own : (k : ℕ) → Ascending (s'.streams k).posted

  module _ (j : ℕ) (i : Item) (q : Gathers j i) where
    o : StreamGood set K s j
    o = g.stream j q.there

    front : (rest : List Item) × (o.waiting ≡ i ∷ rest) × (slice_index s.gathered j < past_of i) × Chain (past_of i) rest (slice_index s.ends j)
    front = chain_first (slice_index s.gathered j) (slice_index s.ends j) o.waiting i o.rest (o.posted i q.is) q.start

    back : (k : Item) → PostedAt set s' j k → PostedAt set s j k
    back k (inl (u, is, m)) = inl (u, is, q.less u k m)
    back k (inr m) = inr (q.less_own j k m)

    -- a piece that is posted is not in flight
    landed_once : Flying set s j i → ⊥
    landed_once f = at' q.is
      where
        at' : PostedAt set s j i → ⊥
        at' (inr m) =
            let w = g.own j i m in
            anchor_record w.0 w.1 w.2 f.2.0 (sym w.3 ∙ f.2.1)
        at' (inl (u, is, m)) =
            let (t, e, by) = g.whose u i m in
            let same : t ≡ f.2.0 = (let p : ◌≡◌ {A = Item} (Record t) (Record f.2.0) = sym e ∙ f.2.1 in cc) in
            let who : u ≡ f.0 = sym by ∙ ap (λ (r : Act Txn). r.call.worker) same ∙ g.worker f.0 f.2.0 f.2.2 in
            let low : past_of i ≤ f.2.0.call.place.start = g.last f.0 f.2.0 i f.2.2 (subst (λ (k : ℕ). Member i (s.outboxes k).posted) who m) in
            let at : start_of i ≡ f.2.0.call.place.start = ap start_of f.2.1 in
            let start = q.start in
            let goes = front.2 in
            absurd (omega arith)

    gathered_stream : StreamGood set K s' j
    gathered_stream =
        let (rest, is, goes, chain) = front in
        record {
          waiting = rest;
          moved = subst (λ (l : List Item). Chain (slice_index set.opening j) l (slice_index s'.gathered j)) (sym q.moved)
              (chain_append (slice_index set.opening j) (slice_index s.gathered j) (slice_index s'.gathered j) (s.streams j).moved (i ∷ []) o.moved (q.start, goes, sym q.gathered));
          rest = subst (λ (k : ℕ). Chain k rest (slice_index s'.ends j)) (sym q.gathered) (subst (λ (v : List ℕ). Chain (past_of i) rest (slice_index v j)) (sym q.ends) chain);
          records = ap (λ (l : List Item). records_in (l ++ rest)) q.moved ∙ ap records_in (append_assoc (s.streams j).moved (i ∷ []) rest)
              ∙ ap (λ (l : List Item). records_in ((s.streams j).moved ++ l)) (sym is) ∙ o.records;
          anchors = ap (λ (l : List Item). anchors_in (l ++ rest)) q.moved ∙ ap anchors_in (append_assoc (s.streams j).moved (i ∷ []) rest)
              ∙ ap (λ (l : List Item). anchors_in ((s.streams j).moved ++ l)) (sym is) ∙ o.anchors ∙ sym (q.anchors j);
          named = subst (λ (l : List Item). NameTheirs (set.anchored j) [] l)
              (ap (λ (l : List Item). (s.streams j).moved ++ l) is ∙ sym (append_assoc (s.streams j).moved (i ∷ []) rest) ∙ ap (λ (l : List Item). l ++ rest) (sym q.moved)) o.named;
          there = λ k m. elim (o.there k (subst (λ (l : List Item). Member k l) (sym is) (inr m))) [
            | inl p ↦ elim (q.still k p) [
              | inl same ↦ absurd (let c = chain_member (past_of i) (slice_index s.ends j) rest k chain m in
                  let low = c.0 in let e : start_of i ≡ start_of k = ap start_of same in let st = q.start in omega arith)
              | inr p' ↦ inl p'
            ]
            | inr f ↦ inr (f.0, f.1, (f.2.0, f.2.1, q.placed f.0 ∙ f.2.2))
          ];
          posted = λ k p. elim (subst (λ (l : List Item). Member k l) is (o.posted k (back k p))) [
            | inl same ↦ absurd (q.gone (subst (λ (x : Item). PostedAt set s' j x) (sym same) p))
            | inr m ↦ m
          ];
          flying = λ k f.
              let f' : Flying set s j k = (f.0, f.1, (f.2.0, f.2.1, sym (q.placed f.0) ∙ f.2.2)) in
              elim (subst (λ (l : List Item). Member k l) is (o.flying k f')) [
                | inl same ↦ absurd (landed_once (subst (λ (x : Item). Flying set s j x) (sym same) f'))
                | inr m ↦ m
              ];
        }

    other_gathered : (k : ℕ) → (k ≡ j → ⊥) → Same set K K s s' k
    other_gathered k ne = record {
      moved = q.moved_other k ne;
      own = q.own_other k ne;
      anchors = q.anchors k;
      gathered = q.gathered_other k ne;
      ends = ap (λ (v : List ℕ). slice_index v k) q.ends;
      records = refl;
      posted = λ u is. q.posted_other u (λ e. ne (sym is ∙ e));
      placed = λ u is. q.placed u;
    }

    pub gathers_good : Pieces set K s'
    gathers_good = record {
      stream = λ k lt. elim (cases_eq k j) [
        | inl is ↦ subst (λ (x : ℕ). StreamGood set K s' x) (sym is) gathered_stream
        | inr ne ↦ stream_kept set K K s s' k (other_gathered k ne) (g.stream k lt)
      ];
      whose = λ u k m. g.whose u k (q.less u k m);
      own = λ l k m. g.own l k (q.less_own l k m);
      ascending = q.ascending;
      ascending_own = q.ascending_own;
      last = λ u t k e m. g.last u t k (sym (q.placed u) ∙ e) (q.less u k m);
      worker = λ u t e. g.worker u t (sym (q.placed u) ∙ e);
    }

    -- the piece ends within its stream
    pub gathers_within : (slice_index s.gathered j < past_of i) × (past_of i ≤ slice_index s.ends j)
    gathers_within = (front.2, (chain_member (slice_index s.gathered j) (slice_index s.ends j) o.waiting i o.rest (o.posted i q.is)).2)

  -- an anchor is placed and posted
  pub record Anchored (j past : ℕ) (v : List ℕ) : Type 0 where
    pub there : j < set.width
    pub goes : slice_index s.ends j < past
    pub moved : (k : ℕ) → (s'.streams k).moved ≡ (s.streams k).moved
    pub posted : (s'.streams j).posted ≡ (s.streams j).posted ++ Anchor (slice_index s.ends j) past v ∷ []
    pub anchors : (s'.streams j).anchors ≡ (s.streams j).anchors ++ v ∷ []
    pub posted_other : (k : ℕ) → (k ≡ j → ⊥) → (s'.streams k).posted ≡ (s.streams k).posted
    pub anchors_other : (k : ℕ) → (k ≡ j → ⊥) → (s'.streams k).anchors ≡ (s.streams k).anchors
    pub outboxes : s'.outboxes ≡ s.outboxes
    pub gathered : s'.gathered ≡ s.gathered
    pub ends : slice_index s'.ends j ≡ past
    pub ends_other : (k : ℕ) → (k ≡ j → ⊥) → slice_index s'.ends k ≡ slice_index s.ends k
    pub placed : (u : ℕ) → placed_in (hand_of s' u) ≡ placed_in (hand_of s u)

  module _ (j past : ℕ) (v : List ℕ) (q : Anchored j past v) where
    abbrev new : Item
    new = Anchor (slice_index s.ends j) past v

    p : StreamGood set K s j
    p = g.stream j q.there

    anchored_stream : StreamGood set K s' j
    anchored_stream = record {
      waiting = p.waiting ++ new ∷ [];
      moved = subst (λ (l : List Item). Chain (slice_index set.opening j) l (slice_index s'.gathered j)) (sym (q.moved j))
          (subst (λ (a : List ℕ). Chain (slice_index set.opening j) (s.streams j).moved (slice_index a j)) (sym q.gathered) p.moved);
      rest = subst (λ (a : List ℕ). Chain (slice_index a j) (p.waiting ++ new ∷ []) (slice_index s'.ends j)) (sym q.gathered)
          (chain_append (slice_index s.gathered j) (slice_index s.ends j) (slice_index s'.ends j) p.waiting (new ∷ []) p.rest (refl, q.goes, sym q.ends));
      records = ap (λ (l : List Item). records_in (l ++ (p.waiting ++ new ∷ []))) (q.moved j) ∙ ap records_in (sym (append_assoc (s.streams j).moved p.waiting (new ∷ [])))
          ∙ records_append ((s.streams j).moved ++ p.waiting) (new ∷ []) ∙ append-nil (records_in ((s.streams j).moved ++ p.waiting)) ∙ p.records;
      anchors = ap (λ (l : List Item). anchors_in (l ++ (p.waiting ++ new ∷ []))) (q.moved j) ∙ ap anchors_in (sym (append_assoc (s.streams j).moved p.waiting (new ∷ [])))
          ∙ anchors_append ((s.streams j).moved ++ p.waiting) (new ∷ []) ∙ ap (λ (l : List (List ℕ)). l ++ v ∷ []) p.anchors ∙ sym q.anchors;
      named = subst (λ (l : List Item). NameTheirs (set.anchored j) [] l)
          (append_assoc (s.streams j).moved p.waiting (new ∷ []) ∙ ap (λ (l : List Item). l ++ (p.waiting ++ new ∷ [])) (sym (q.moved j)))
          (named_append (set.anchored j) [] ((s.streams j).moved ++ p.waiting) (new ∷ []) p.named tt);
      there = λ i m. elim (member_snoc p.waiting new i m) [
        | inl old ↦ elim (p.there i old) [
          | inl b ↦ inl (elim b [
            | inl c ↦ inl (c.0, c.1, subst (λ (f : ℕ → Outbox). Member i (f c.0).posted) (sym q.outboxes) c.2)
            | inr c ↦ inr (subst (λ (l : List Item). Member i l) (sym q.posted) (member_front i (s.streams j).posted (new ∷ []) c))
          ])
          | inr f ↦ inr (f.0, f.1, (f.2.0, f.2.1, q.placed f.0 ∙ f.2.2))
        ]
        | inr e ↦ inl (inr (subst (λ (l : List Item). Member i l) (sym q.posted) (subst (λ (k : Item). Member k ((s.streams j).posted ++ new ∷ [])) e (member_last (s.streams j).posted new))))
      ];
      posted = λ i b. elim b [
        | inl c ↦ member_front i p.waiting (new ∷ []) (p.posted i (inl (c.0, c.1, subst (λ (f : ℕ → Outbox). Member i (f c.0).posted) q.outboxes c.2)))
        | inr c ↦ elim (member_snoc (s.streams j).posted new i (subst (λ (l : List Item). Member i l) q.posted c)) [
          | inl old ↦ member_front i p.waiting (new ∷ []) (p.posted i (inr old))
          | inr e ↦ subst (λ (k : Item). Member k (p.waiting ++ new ∷ [])) e (member_last p.waiting new)
        ]
      ];
      flying = λ i f. member_front i p.waiting (new ∷ []) (p.flying i (f.0, f.1, (f.2.0, f.2.1, sym (q.placed f.0) ∙ f.2.2)));
    }

    anchored_other : (k : ℕ) → (k ≡ j → ⊥) → Same set K K s s' k
    anchored_other k ne = record {
      moved = q.moved k;
      own = q.posted_other k ne;
      anchors = q.anchors_other k ne;
      gathered = ap (λ (a : List ℕ). slice_index a k) q.gathered;
      ends = q.ends_other k ne;
      records = refl;
      posted = λ u is. ap (λ (f : ℕ → Outbox). (f u).posted) q.outboxes;
      placed = λ u is. q.placed u;
    }

    pub anchored_good : Pieces set K s'
    anchored_good = record {
      stream = λ k lt. elim (cases_eq k j) [
        | inl is ↦ subst (λ (x : ℕ). StreamGood set K s' x) (sym is) anchored_stream
        | inr ne ↦ stream_kept set K K s s' k (anchored_other k ne) (g.stream k lt)
      ];
      whose = λ u i m. g.whose u i (subst (λ (f : ℕ → Outbox). Member i (f u).posted) q.outboxes m);
      own = λ k i m. elim (cases_eq k j) [
        | inl is ↦ elim (member_snoc (s.streams j).posted new i (subst (λ (l : List Item). Member i l) q.posted (subst (λ (x : ℕ). Member i (s'.streams x).posted) is m))) [
          | inl old ↦ g.own j i old
          | inr e ↦ (slice_index s.ends j, past, v, sym e)
        ]
        | inr ne ↦ g.own k i (subst (λ (l : List Item). Member i l) (q.posted_other k ne) m)
      ];
      ascending = λ u. subst (λ (f : ℕ → Outbox). Ascending (f u).posted) (sym q.outboxes) (g.ascending u);
      ascending_own = λ k. elim (cases_eq k j) [
        | inl is ↦ subst (λ (x : ℕ). Ascending (s'.streams x).posted) (sym is) (subst Ascending (sym q.posted)
            (ascending_last (s.streams j).posted new (g.ascending_own j)
            (λ i m. (chain_member (slice_index s.gathered j) (slice_index s.ends j) p.waiting i p.rest (p.posted i (inr m))).2)))
        | inr ne ↦ subst Ascending (sym (q.posted_other k ne)) (g.ascending_own k)
      ];
      last = λ u t i e m. g.last u t i (sym (q.placed u) ∙ e) (subst (λ (f : ℕ → Outbox). Member i (f u).posted) q.outboxes m);
      worker = λ u t e. g.worker u t (sym (q.placed u) ∙ e);
    }
