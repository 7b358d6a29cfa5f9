-- Events that place, post and gather records.
use Rattle.std.proofs.Common.{ℕ, ◌≤◌, ◌<◌, true, false, ◌≡◌, ◌⊎◌, inl, inr, List, [], ◌∷◌, ◌++◌, refl, sym, ap, subst, ◌∙◌, arith, append_assoc}
use Rattle.std.specs.Prelude.{Some, None, slice_index}
use Rattle.std.proofs.lemmas.List.{append-nil}
use Rattle.std.proofs.lemmas.List.Elements.{filter-append}
use Rattle.std.proofs.lemmas.Bool.{cases_Bool, cases_eq, eq-eqb, ne_eqb}
use Rattle.tau_model.specs.History.{Act, Member, updates}
use Rattle.tau_model.specs.Reported.{in_stream}
use Rattle.tau_model.proofs.Orders.{member_front}
use Rattle.tau_machine.specs.Hands.{Txn}
use Rattle.tau_machine.specs.State.{Setting, Item, Record, past_of, Outbox, Stream, Core, hand_of}
use Rattle.tau_machine.specs.Pieces.{NamesOne, NameTheirs, Chain, Ascending, records_in, anchors_in, placed_in, records_of_stream, PostedAt, StreamGood, Pieces}
use Rattle.tau_machine.proofs.Snoc.{member_snoc, member_last}
use Rattle.tau_machine.proofs.Pieces.{named_append, chain_append, chain_member, records_append, anchors_append, ascending_last, Same, stream_kept}

-- whether an act is in the stream
in_true : (t : Act Txn) (j : ℕ) → updates t.effect ≡ true → t.call.place.stream ≡ j → in_stream (λ (x : Act Txn). x.call.place) (λ x. updates x.effect) j t ≡ true
in_true t j up is = rw up (eq-eqb t.call.place.stream j is)

in_false : (t : Act Txn) (j : ℕ) → (t.call.place.stream ≡ j → ⊥) → in_stream (λ (x : Act Txn). x.call.place) (λ x. updates x.effect) j t ≡ false
in_false t j ne = elim (cases_Bool (updates t.effect)) [
  | inl up ↦ rw up (ne_eqb t.call.place.stream j ne)
  | inr no' ↦ rw no' refl
]

pub in_idle : (t : Act Txn) (j : ℕ) → updates t.effect ≡ false → in_stream (λ (x : Act Txn). x.call.place) (λ x. updates x.effect) j t ≡ false
in_idle t j no' = rw no' refl

pub records_are_in : (K : List (Act Txn)) (t : Act Txn) (j : ℕ) → in_stream (λ (x : Act Txn). x.call.place) (λ x. updates x.effect) j t ≡ true → records_of_stream j (K ++ t ∷ []) ≡ records_of_stream j K ++ t ∷ []
records_are_in K t j e = filter-append (in_stream (λ (x : Act Txn). x.call.place) (λ x. updates x.effect) j) K (t ∷ []) ∙ ap (λ (l : List (Act Txn)). records_of_stream j K ++ l) (rw e refl)

pub records_out : (K : List (Act Txn)) (t : Act Txn) (j : ℕ) → in_stream (λ (x : Act Txn). x.call.place) (λ x. updates x.effect) j t ≡ false → records_of_stream j (K ++ t ∷ []) ≡ records_of_stream j K
records_out K t j e = filter-append (in_stream (λ (x : Act Txn). x.call.place) (λ x. updates x.effect) j) K (t ∷ []) ∙ ap (λ (l : List (Act Txn)). records_of_stream j K ++ l) (rw e refl) ∙ append-nil (records_of_stream j K)

record_is : (t u : Act Txn) → ◌≡◌ {A = Item} (Record t) (Record u) → t ≡ u
record_is t u e = cc

module _ (set : Setting) (K : List (Act Txn)) (s s' : Core) (g : Pieces set K s) where
  -- a record gets its place
  pub record Lands (w : ℕ) (t : Act Txn) : Type 0 where
    pub small : set.stream_of w < set.width
    pub before : placed_in (hand_of s w) ≡ None
    pub after : placed_in (hand_of s' w) ≡ Some t
    pub other : (u : ℕ) → (u ≡ w → ⊥) → placed_in (hand_of s' u) ≡ placed_in (hand_of s u)
    pub up : updates t.effect ≡ true
    pub stream : t.call.place.stream ≡ set.stream_of w
    pub start : t.call.place.start ≡ slice_index s.ends (set.stream_of w)
    pub goes : t.call.place.start < t.call.place.past
    pub worker : t.call.worker ≡ w
    pub named : NamesOne (set.anchored (set.stream_of w)) (s.streams (set.stream_of w)).anchors t.call
    pub streams : s'.streams ≡ s.streams
    pub outboxes : s'.outboxes ≡ s.outboxes
    pub gathered : s'.gathered ≡ s.gathered
    pub ends : slice_index s'.ends (set.stream_of w) ≡ t.call.place.past
    pub ends_other : (j : ℕ) → (j ≡ set.stream_of w → ⊥) → slice_index s'.ends j ≡ slice_index s.ends j

  module _ (w : ℕ) (t : Act Txn) (q : Lands w t) where
    posted_on : (j : ℕ) (i : Item) → PostedAt set s j i → PostedAt set s' j i
    posted_on j i (inl (u, is, m)) = inl (u, is, subst (λ (f : ℕ → Outbox). Member i (f u).posted) (sym q.outboxes) m)
    posted_on j i (inr m) = inr (subst (λ (f : ℕ → Stream). Member i (f j).posted) (sym q.streams) m)

    posted_off : (j : ℕ) (i : Item) → PostedAt set s' j i → PostedAt set s j i
    posted_off j i (inl (u, is, m)) = inl (u, is, subst (λ (f : ℕ → Outbox). Member i (f u).posted) q.outboxes m)
    posted_off j i (inr m) = inr (subst (λ (f : ℕ → Stream). Member i (f j).posted) q.streams m)

    -- who is placed is t, or was
    who : (u : ℕ) (r : Act Txn) → placed_in (hand_of s' u) ≡ Some r → ((u ≡ w) × (t ≡ r)) ⊎ (placed_in (hand_of s u) ≡ Some r)
    who u r e = elim (cases_eq u w) [
      | inl is ↦ inl (is, (let a : placed_in (hand_of s' w) ≡ Some r = subst (λ (k : ℕ). placed_in (hand_of s' k) ≡ Some r) is e in let b : Some t ≡ Some r = sym q.after ∙ a in cc))
      | inr ne ↦ inr (sym (q.other u ne) ∙ e)
    ]

    still : (u : ℕ) (r : Act Txn) → placed_in (hand_of s u) ≡ Some r → placed_in (hand_of s' u) ≡ Some r
    still u r e = elim (cases_eq u w) [
      | inl is ↦ (let a : placed_in (hand_of s w) ≡ Some r = subst (λ (k : ℕ). placed_in (hand_of s k) ≡ Some r) is e in let b : None ≡ Some r = sym q.before ∙ a in cc)
      | inr ne ↦ q.other u ne ∙ e
    ]

    landed_stream : StreamGood set K s (set.stream_of w) → StreamGood set (K ++ t ∷ []) s' (set.stream_of w)
    landed_stream o = record {
      waiting = o.waiting ++ Record t ∷ [];
      moved = subst (λ (f : ℕ → Stream). Chain (slice_index set.opening (set.stream_of w)) (f (set.stream_of w)).moved (slice_index s'.gathered (set.stream_of w))) (sym q.streams)
          (subst (λ (v : List ℕ). Chain (slice_index set.opening (set.stream_of w)) (s.streams (set.stream_of w)).moved (slice_index v (set.stream_of w))) (sym q.gathered) o.moved);
      rest = subst (λ (v : List ℕ). Chain (slice_index v (set.stream_of w)) (o.waiting ++ Record t ∷ []) (slice_index s'.ends (set.stream_of w))) (sym q.gathered)
          (chain_append (slice_index s.gathered (set.stream_of w)) (slice_index s.ends (set.stream_of w)) (slice_index s'.ends (set.stream_of w)) o.waiting (Record t ∷ []) o.rest
          (q.start, subst (λ (k : ℕ). k < t.call.place.past) q.start q.goes, sym q.ends));
      records = ap (λ (f : ℕ → Stream). records_in ((f (set.stream_of w)).moved ++ (o.waiting ++ Record t ∷ []))) q.streams
          ∙ ap records_in (sym (append_assoc (s.streams (set.stream_of w)).moved o.waiting (Record t ∷ [])))
          ∙ records_append ((s.streams (set.stream_of w)).moved ++ o.waiting) (Record t ∷ [])
          ∙ ap (λ (l : List (Act Txn)). l ++ t ∷ []) o.records
          ∙ sym (records_are_in K t (set.stream_of w) (in_true t (set.stream_of w) q.up q.stream));
      anchors = ap (λ (f : ℕ → Stream). anchors_in ((f (set.stream_of w)).moved ++ (o.waiting ++ Record t ∷ []))) q.streams
          ∙ ap anchors_in (sym (append_assoc (s.streams (set.stream_of w)).moved o.waiting (Record t ∷ [])))
          ∙ anchors_append ((s.streams (set.stream_of w)).moved ++ o.waiting) (Record t ∷ [])
          ∙ append-nil (anchors_in ((s.streams (set.stream_of w)).moved ++ o.waiting))
          ∙ o.anchors ∙ ap (λ (f : ℕ → Stream). (f (set.stream_of w)).anchors) (sym q.streams);
      named = subst (λ (l : List Item). NameTheirs (set.anchored (set.stream_of w)) [] l)
          (append_assoc (s.streams (set.stream_of w)).moved o.waiting (Record t ∷ []) ∙ ap (λ (f : ℕ → Stream). (f (set.stream_of w)).moved ++ (o.waiting ++ Record t ∷ [])) (sym q.streams))
          (named_append (set.anchored (set.stream_of w)) [] ((s.streams (set.stream_of w)).moved ++ o.waiting) (Record t ∷ []) o.named
          (subst (λ (l : List (List ℕ)). NamesOne (set.anchored (set.stream_of w)) l t.call) (sym o.anchors) q.named, tt));
      there = λ i m. elim (member_snoc o.waiting (Record t) i m) [
        | inl old ↦ elim (o.there i old) [
          | inl p ↦ inl (posted_on (set.stream_of w) i p)
          | inr f ↦ inr (f.0, f.1, (f.2.0, f.2.1, still f.0 f.2.0 f.2.2))
        ]
        | inr e ↦ inr (w, refl, (t, sym e, q.after))
      ];
      posted = λ i p. member_front i o.waiting (Record t ∷ []) (o.posted i (posted_off (set.stream_of w) i p));
      flying = λ i f. elim (who f.0 f.2.0 f.2.2) [
        | inl p ↦ subst (λ (k : Item). Member k (o.waiting ++ Record t ∷ [])) (ap (λ (r : Act Txn). Record r) p.1 ∙ sym f.2.1) (member_last o.waiting (Record t))
        | inr old ↦ member_front i o.waiting (Record t ∷ []) (o.flying i (f.0, f.1, (f.2.0, f.2.1, old)))
      ];
    }

    landed_other : (j : ℕ) → (j ≡ set.stream_of w → ⊥) → Same set K (K ++ t ∷ []) s s' j
    landed_other j ne = record {
      moved = ap (λ (f : ℕ → Stream). (f j).moved) q.streams;
      own = ap (λ (f : ℕ → Stream). (f j).posted) q.streams;
      anchors = ap (λ (f : ℕ → Stream). (f j).anchors) q.streams;
      gathered = ap (λ (v : List ℕ). slice_index v j) q.gathered;
      ends = q.ends_other j ne;
      records = records_out K t j (in_false t j (λ e. ne (sym e ∙ q.stream)));
      posted = λ u is. ap (λ (f : ℕ → Outbox). (f u).posted) q.outboxes;
      placed = λ u is. q.other u (λ e. ne (sym is ∙ ap set.stream_of e));
    }

    pub landed : Pieces set (K ++ t ∷ []) s'
    landed = record {
      stream = λ j lt. elim (cases_eq j (set.stream_of w)) [
        | inl is ↦ subst (λ (k : ℕ). StreamGood set (K ++ t ∷ []) s' k) (sym is) (landed_stream (subst (λ (k : ℕ). StreamGood set K s k) is (g.stream j lt)))
        | inr ne ↦ stream_kept set K (K ++ t ∷ []) s s' j (landed_other j ne) (g.stream j lt)
      ];
      whose = λ u i m. g.whose u i (subst (λ (f : ℕ → Outbox). Member i (f u).posted) q.outboxes m);
      own = λ j i m. g.own j i (subst (λ (f : ℕ → Stream). Member i (f j).posted) q.streams m);
      ascending = λ u. subst (λ (f : ℕ → Outbox). Ascending (f u).posted) (sym q.outboxes) (g.ascending u);
      ascending_own = λ j. subst (λ (f : ℕ → Stream). Ascending (f j).posted) (sym q.streams) (g.ascending_own j);
      last = λ u r i e m. let m' : Member i (s.outboxes u).posted = subst (λ (f : ℕ → Outbox). Member i (f u).posted) q.outboxes m in
          elim (who u r e) [
            | inl p ↦
                let small : set.stream_of w < set.width = q.small in
                let o = g.stream (set.stream_of w) small in
                let c = chain_member (slice_index s.gathered (set.stream_of w)) (slice_index s.ends (set.stream_of w)) o.waiting i o.rest
                (o.posted i (inl (w, refl, subst (λ (k : ℕ). Member i (s.outboxes k).posted) p.0 m'))) in
                let high = c.2 in
                let begins = q.start in
                subst (λ (x : Act Txn). past_of i ≤ x.call.place.start) p.1 (omega arith)
            | inr old ↦ g.last u r i old m'
          ];
      worker = λ u r e. elim (who u r e) [
        | inl p ↦ subst (λ (x : Act Txn). x.call.worker ≡ u) p.1 (q.worker ∙ sym p.0)
        | inr old ↦ g.worker u r old
      ];
    }

  -- a record is posted
  pub record Posted (w : ℕ) (t : Act Txn) : Type 0 where
    pub before : placed_in (hand_of s w) ≡ Some t
    pub after : placed_in (hand_of s' w) ≡ None
    pub other : (u : ℕ) → (u ≡ w → ⊥) → placed_in (hand_of s' u) ≡ placed_in (hand_of s u)
    pub streams : s'.streams ≡ s.streams
    pub posted : (s'.outboxes w).posted ≡ (s.outboxes w).posted ++ Record t ∷ []
    pub posted_other : (u : ℕ) → (u ≡ w → ⊥) → (s'.outboxes u).posted ≡ (s.outboxes u).posted
    pub gathered : s'.gathered ≡ s.gathered
    pub ends : s'.ends ≡ s.ends

  module _ (w : ℕ) (t : Act Txn) (q : Posted w t) where
    -- what stands in an outbox now
    outbox_now : (u : ℕ) (i : Item) → Member i (s'.outboxes u).posted → ((u ≡ w) × (Record t ≡ i)) ⊎ Member i (s.outboxes u).posted
    outbox_now u i m = elim (cases_eq u w) [
      | inl is ↦ elim (member_snoc (s.outboxes w).posted (Record t) i (subst (λ (l : List Item). Member i l) q.posted (subst (λ (k : ℕ). Member i (s'.outboxes k).posted) is m))) [
        | inl old ↦ inr (subst (λ (k : ℕ). Member i (s.outboxes k).posted) (sym is) old)
        | inr e ↦ inl (is, e)
      ]
      | inr ne ↦ inr (subst (λ (l : List Item). Member i l) (q.posted_other u ne) m)
    ]

    outbox_still : (u : ℕ) (i : Item) → Member i (s.outboxes u).posted → Member i (s'.outboxes u).posted
    outbox_still u i m = elim (cases_eq u w) [
      | inl is ↦ subst (λ (k : ℕ). Member i (s'.outboxes k).posted) (sym is) (subst (λ (l : List Item). Member i l) (sym q.posted)
          (member_front i (s.outboxes w).posted (Record t ∷ []) (subst (λ (k : ℕ). Member i (s.outboxes k).posted) is m)))
      | inr ne ↦ subst (λ (l : List Item). Member i l) (sym (q.posted_other u ne)) m
    ]

    outbox_new : Member (Record t) (s'.outboxes w).posted
    outbox_new = subst (λ (l : List Item). Member (Record t) l) (sym q.posted) (member_last (s.outboxes w).posted (Record t))

    posted_stream : (j : ℕ) → StreamGood set K s j → StreamGood set K s' j
    posted_stream j o = record {
      waiting = o.waiting;
      moved = subst (λ (f : ℕ → Stream). Chain (slice_index set.opening j) (f j).moved (slice_index s'.gathered j)) (sym q.streams)
          (subst (λ (v : List ℕ). Chain (slice_index set.opening j) (s.streams j).moved (slice_index v j)) (sym q.gathered) o.moved);
      rest = subst (λ (v : List ℕ). Chain (slice_index v j) o.waiting (slice_index s'.ends j)) (sym q.gathered)
          (subst (λ (v : List ℕ). Chain (slice_index s.gathered j) o.waiting (slice_index v j)) (sym q.ends) o.rest);
      records = ap (λ (f : ℕ → Stream). records_in ((f j).moved ++ o.waiting)) q.streams ∙ o.records;
      anchors = ap (λ (f : ℕ → Stream). anchors_in ((f j).moved ++ o.waiting)) q.streams ∙ o.anchors ∙ ap (λ (f : ℕ → Stream). (f j).anchors) (sym q.streams);
      named = subst (λ (f : ℕ → Stream). NameTheirs (set.anchored j) [] ((f j).moved ++ o.waiting)) (sym q.streams) o.named;
      there = λ i m. elim (o.there i m) [
        | inl p ↦ inl (elim p [
          | inl b ↦ inl (b.0, b.1, outbox_still b.0 i b.2)
          | inr b ↦ inr (subst (λ (f : ℕ → Stream). Member i (f j).posted) (sym q.streams) b)
        ])
        | inr f ↦ elim (cases_eq f.0 w) [
          | inl is ↦
              let same : f.2.0 ≡ t = (let a : placed_in (hand_of s w) ≡ Some f.2.0 = subst (λ (k : ℕ). placed_in (hand_of s k) ≡ Some f.2.0) is f.2.2 in let b : Some f.2.0 ≡ Some t = sym a ∙ q.before in cc) in
              inl (inl (w, ap set.stream_of (sym is) ∙ f.1, subst (λ (k : Item). Member k (s'.outboxes w).posted) (sym (f.2.1 ∙ ap (λ (r : Act Txn). Record r) same)) outbox_new))
          | inr ne ↦ inr (f.0, f.1, (f.2.0, f.2.1, q.other f.0 ne ∙ f.2.2))
        ]
      ];
      posted = λ i p. elim p [
        | inl b ↦ elim (outbox_now b.0 i b.2) [
          | inl n ↦ o.flying i (w, ap set.stream_of (sym n.0) ∙ b.1, (t, sym n.1, q.before))
          | inr old ↦ o.posted i (inl (b.0, b.1, old))
        ]
        | inr b ↦ o.posted i (inr (subst (λ (f : ℕ → Stream). Member i (f j).posted) q.streams b))
      ];
      flying = λ i f. elim (cases_eq f.0 w) [
        | inl is ↦ absurd (let a : placed_in (hand_of s' w) ≡ Some f.2.0 = subst (λ (k : ℕ). placed_in (hand_of s' k) ≡ Some f.2.0) is f.2.2 in let b : None ≡ Some f.2.0 = sym q.after ∙ a in cc)
        | inr ne ↦ o.flying i (f.0, f.1, (f.2.0, f.2.1, sym (q.other f.0 ne) ∙ f.2.2))
      ];
    }

    was_placed : (u : ℕ) (r : Act Txn) → placed_in (hand_of s' u) ≡ Some r → (u ≡ w → ⊥) × (placed_in (hand_of s u) ≡ Some r)
    was_placed u r e = elim (cases_eq u w) [
      | inl is ↦ absurd (let a : placed_in (hand_of s' w) ≡ Some r = subst (λ (k : ℕ). placed_in (hand_of s' k) ≡ Some r) is e in let b : None ≡ Some r = sym q.after ∙ a in cc)
      | inr ne ↦ (ne, sym (q.other u ne) ∙ e)
    ]

    pub posted_good : Pieces set K s'
    posted_good = record {
      stream = λ j lt. posted_stream j (g.stream j lt);
      whose = λ u i m. elim (outbox_now u i m) [
        | inl n ↦ (t, sym n.1, g.worker w t q.before ∙ sym n.0)
        | inr old ↦ g.whose u i old
      ];
      own = λ j i m. g.own j i (subst (λ (f : ℕ → Stream). Member i (f j).posted) q.streams m);
      ascending = λ u. elim (cases_eq u w) [
        | inl is ↦ subst (λ (k : ℕ). Ascending (s'.outboxes k).posted) (sym is) (subst Ascending (sym q.posted)
            (ascending_last (s.outboxes w).posted (Record t) (g.ascending w) (λ k m. g.last w t k q.before m)))
        | inr ne ↦ subst Ascending (sym (q.posted_other u ne)) (g.ascending u)
      ];
      ascending_own = λ j. subst (λ (f : ℕ → Stream). Ascending (f j).posted) (sym q.streams) (g.ascending_own j);
      last = λ u r i e m. let p = was_placed u r e in g.last u r i p.1 (subst (λ (l : List Item). Member i l) (q.posted_other u p.0) m);
      worker = λ u r e. g.worker u r (was_placed u r e).1;
    }
