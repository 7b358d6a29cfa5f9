-- Items that continue a stream are gathered, one after another.
use Rattle.std.proofs.Common.{ℕ, zero, suc, ◌<◌, ◌≡◌, List, [], ◌∷◌, ◌++◌, length, refl, sym, ap, subst, ◌∙◌, append_assoc, arith, length-set, get_or-set_same}
use Rattle.std.specs.Prelude.{None, slice_index, slice_set}
use Rattle.std.proofs.lemmas.List.{append-nil}
use Rattle.tau_machine.specs.State.{Setting, Item, past_of, Core, Stream, Outbox}
use Rattle.tau_machine.specs.Pieces.{Chain}
use Rattle.tau_machine.specs.Events.{with_stream, with_outbox, GathersRecord, GathersAnchor, Gathered, stop, record_first, anchor_first}
use Rattle.tau_shard.proofs.At.{at_same, at_at, at_itself}
use Rattle.tau_base.proofs.Lists.{set_itself}

pub set_set : {A : Type 0} (xs : List A) (i : ℕ) (a b : A) → slice_set (slice_set xs i a) i b ≡ slice_set xs i b
set_set [] i a b = refl
set_set (x ∷ xs) zero a b = refl
set_set (x ∷ xs) (suc i) a b = ap (λ l. x ∷ l) (set_set xs i a b)

module _ (set : Setting) (j : ℕ) (there : j < set.width) where
  -- the state after it
  abbrev pub own_moved : Core → List Item → List Item → ℕ → Core
  own_moved s left moved past = record (with_stream s j (record (s.streams j) { posted = left; moved = moved })) { gathered = slice_set s.gathered j past }

  pub own_none : (left : List Item) (s : Core) (past : ℕ) → (s.streams j).posted ≡ left → slice_index s.gathered j ≡ past → own_moved s left ((s.streams j).moved ++ []) past ≡ s
  own_none left s past is e =
      ap (λ (x : Stream × ℕ). record (with_stream s j x.0) { gathered = slice_set s.gathered j x.1 })
      (λ i. (record (s.streams j) { posted = sym is i; moved = append-nil (s.streams j).moved i }, sym e i))
      ∙ ap (λ (x : (ℕ → Stream) × List ℕ). record s { streams = x.0; gathered = x.1 }) (λ i. (at_itself j s.streams i, set_itself s.gathered j i))

  pub own_is_moved : (taken left : List Item) (s : Core) (past : ℕ) → j < length s.gathered → (s.streams j).stop ≡ None → (s.streams j).posted ≡ taken ++ left →
      Chain (slice_index s.gathered j) taken past → Gathered set j s (own_moved s left ((s.streams j).moved ++ taken) past)
  own_is_moved [] left s past inside going is chain =
      subst (λ (c : Core). Gathered set j s c) (sym (own_none left s past is chain)) stop
  own_is_moved (a ∷ rest) left s past inside going is chain =
      let m : Core = own_moved s (rest ++ left) ((s.streams j).moved ++ a ∷ []) (past_of a) in
      let first : GathersAnchor set j s m = record { there = there; going = going; item = a; others = rest ++ left; is = is; start = chain.0; after = refl } in
      let here : m.streams j ≡ record (s.streams j) { posted = rest ++ left; moved = (s.streams j).moved ++ a ∷ [] } = at_same j (record (s.streams j) { posted = rest ++ left; moved = (s.streams j).moved ++ a ∷ [] }) s.streams in
      let more : Gathered set j m (own_moved m left ((m.streams j).moved ++ rest) past) =
      own_is_moved rest left m past (let e = length-set s.gathered j (past_of a) in omega arith) (ap (λ (x : Stream). x.stop) here ∙ going) (ap (λ (x : Stream). x.posted) here)
      (subst (λ (n : ℕ). Chain n rest past) (sym (get_or-set_same s.gathered j (past_of a) 0 inside)) chain.2) in
      let same : own_moved m left ((m.streams j).moved ++ rest) past ≡ own_moved s left ((s.streams j).moved ++ a ∷ rest) past =
      ap (λ (x : Stream). record (with_stream m j (record x { posted = left; moved = x.moved ++ rest })) { gathered = slice_set m.gathered j past }) here
      ∙ ap (λ (x : (ℕ → Stream) × List ℕ). record s { streams = x.0; gathered = x.1 })
      (λ i. (at_at j (record (s.streams j) { posted = left; moved = append_assoc (s.streams j).moved (a ∷ []) rest i }) (record (s.streams j) { posted = rest ++ left; moved = (s.streams j).moved ++ a ∷ [] }) s.streams i, set_set s.gathered j (past_of a) past i)) in
      anchor_first first (subst (λ (c : Core). Gathered set j m c) same more)

  module _ (w : ℕ) (whose : set.stream_of w ≡ j) where
    abbrev pub posted_moved : Core → List Item → List Item → ℕ → Core
    posted_moved s left moved past = record (with_stream (with_outbox s w (record (s.outboxes w) { posted = left })) j (record (s.streams j) { moved = moved })) { gathered = slice_set s.gathered j past }

    pub posted_none : (left : List Item) (s : Core) (past : ℕ) → (s.outboxes w).posted ≡ left → slice_index s.gathered j ≡ past → posted_moved s left ((s.streams j).moved ++ []) past ≡ s
    posted_none left s past is e =
        ap (λ (x : Stream × (Outbox × ℕ)). record (with_stream (with_outbox s w x.1.0) j x.0) { gathered = slice_set s.gathered j x.1.1 })
        (λ i. (record (s.streams j) { moved = append-nil (s.streams j).moved i }, (record (s.outboxes w) { posted = sym is i }, sym e i)))
        ∙ ap (λ (x : (ℕ → Stream) × ((ℕ → Outbox) × List ℕ)). record s { streams = x.0; outboxes = x.1.0; gathered = x.1.1 })
        (λ i. (at_itself j s.streams i, (at_itself w s.outboxes i, set_itself s.gathered j i)))

    pub posted_is_moved : (taken left : List Item) (s : Core) (past : ℕ) → j < length s.gathered → (s.streams j).stop ≡ None → (s.outboxes w).posted ≡ taken ++ left →
        Chain (slice_index s.gathered j) taken past → Gathered set j s (posted_moved s left ((s.streams j).moved ++ taken) past)
    posted_is_moved [] left s past inside going is chain =
        subst (λ (c : Core). Gathered set j s c) (sym (posted_none left s past is chain)) stop
    posted_is_moved (a ∷ rest) left s past inside going is chain =
        let m : Core = posted_moved s (rest ++ left) ((s.streams j).moved ++ a ∷ []) (past_of a) in
        let first : GathersRecord set j w s m = record { there = there; going = going; whose = whose; item = a; others = rest ++ left; is = is; start = chain.0; after = refl } in
        let here : m.streams j ≡ record (s.streams j) { moved = (s.streams j).moved ++ a ∷ [] } = at_same j (record (s.streams j) { moved = (s.streams j).moved ++ a ∷ [] }) s.streams in
        let box : m.outboxes w ≡ record (s.outboxes w) { posted = rest ++ left } = at_same w (record (s.outboxes w) { posted = rest ++ left }) s.outboxes in
        let more : Gathered set j m (posted_moved m left ((m.streams j).moved ++ rest) past) =
        posted_is_moved rest left m past (let e = length-set s.gathered j (past_of a) in omega arith) (ap (λ (x : Stream). x.stop) here ∙ going) (ap (λ (x : Outbox). x.posted) box)
        (subst (λ (n : ℕ). Chain n rest past) (sym (get_or-set_same s.gathered j (past_of a) 0 inside)) chain.2) in
        let same : posted_moved m left ((m.streams j).moved ++ rest) past ≡ posted_moved s left ((s.streams j).moved ++ a ∷ rest) past =
        ap (λ (x : Stream × Outbox). record (with_stream (with_outbox m w (record x.1 { posted = left })) j (record x.0 { moved = x.0.moved ++ rest })) { gathered = slice_set m.gathered j past }) (λ i. (here i, box i))
        ∙ ap (λ (x : (ℕ → Stream) × ((ℕ → Outbox) × List ℕ)). record s { streams = x.0; outboxes = x.1.0; gathered = x.1.1 })
        (λ i. (
          at_at j (record (s.streams j) { moved = append_assoc (s.streams j).moved (a ∷ []) rest i }) (record (s.streams j) { moved = (s.streams j).moved ++ a ∷ [] }) s.streams i,
          (at_at w (record (s.outboxes w) { posted = left }) (record (s.outboxes w) { posted = rest ++ left }) s.outboxes i, set_set s.gathered j (past_of a) past i),
        )) in
        record_first w first (subst (λ (c : Core). Gathered set j m c) same more)
