-- What an event leaves of a stream: items and anchors stay, and a stream on which it does not act is as it was.
use Rattle.std.proofs.Common.{ℕ, ◌≡◌, inl, inr, List, [], ◌∷◌, ◌++◌, refl, sym, ap, subst, ◌∙◌, append_assoc, get_or-set_other, ◌⊎◌}
use Rattle.std.specs.Prelude.{Some, slice_get, slice_index}
use Rattle.std.proofs.lemmas.List.{append-nil}
use Rattle.std.proofs.lemmas.Bool.{cases_eq}
use Rattle.tau_model.specs.History.{Act}
use Rattle.tau_machine.specs.Hands.{Txn}
use Rattle.tau_shard.specs.Shard.{at}
use Rattle.tau_machine.specs.State.{Setting, Item, Anchor, Stream, Core, past_of}
use Rattle.tau_machine.specs.Events.{Event, Lock, Busy, Quit, Commit, Post, Free, FirstFree, Done, DoneReading, Drop, Gather, PlaceAnchor, Persist, Ack, Stop, Resume, Leads, Gathered, stop, record_first, anchor_first, GathersRecord, GathersAnchor}
use Rattle.tau_shard.proofs.At.{at_same, at_other}
use Rattle.tau_core.proofs.AnchorNames as more
use Rattle.tau_step.specs.Along.{Grows, SameAt}
use Rattle.tau_step.proofs.Spared.{Spares}
use Rattle.tau_base.proofs.Lists.{got_front}

-- items and anchors of each stream are those of before and more

pub grows_none : (s : Core) → Grows s s
grows_none s = record { moved = λ j. ([], sym (append-nil (s.streams j).moved)); anchors = λ j. ([], sym (append-nil (s.streams j).anchors)) }

joined_more : {A : Type 0} (xs ys zs : List A) → ((m : List A) × (ys ≡ xs ++ m)) → ((m : List A) × (zs ≡ ys ++ m)) → (m : List A) × (zs ≡ xs ++ m)
joined_more xs ys zs (a, e) (b, f) = (a ++ b, f ∙ ap (λ l. l ++ b) e ∙ append_assoc xs a b)

pub grows_on : (s m s' : Core) → Grows s m → Grows m s' → Grows s s'
grows_on s m s' a b = record {
  moved = λ j. joined_more (s.streams j).moved (m.streams j).moved (s'.streams j).moved (a.moved j) (b.moved j);
  anchors = λ j. joined_more (s.streams j).anchors (m.streams j).anchors (s'.streams j).anchors (a.anchors j) (b.anchors j);
}

-- a state with the same streams
grows_same : (s s' : Core) → s'.streams ≡ s.streams → Grows s s'
grows_same s s' e = record {
  moved = λ j. ([], ap (λ (f : ℕ → Stream). (f j).moved) e ∙ sym (append-nil (s.streams j).moved));
  anchors = λ j. ([], ap (λ (f : ℕ → Stream). (f j).anchors) e ∙ sym (append-nil (s.streams j).anchors));
}

-- one in which a stream has more
grows_at : (s s' : Core) (j : ℕ) (x : Stream) → s'.streams ≡ at j x s.streams → ((m : List Item) × (x.moved ≡ (s.streams j).moved ++ m)) → ((m : List (List ℕ)) × (x.anchors ≡ (s.streams j).anchors ++ m)) → Grows s s'
grows_at s s' j x e moved anchors = record {
  moved = λ i. (let (m, f) = by i (λ (o : Stream). o.moved) moved in (m, ap (λ (g : ℕ → Stream). (g i).moved) e ∙ f));
  anchors = λ i. (let (m, f) = by i (λ (o : Stream). o.anchors) anchors in (m, ap (λ (g : ℕ → Stream). (g i).anchors) e ∙ f));
}
  where
    by : {A : Type 0} (i : ℕ) (part : Stream → List A) → ((m : List A) × (part x ≡ part (s.streams j) ++ m)) → (m : List A) × (part (at j x s.streams i) ≡ part (s.streams i) ++ m)
    by {A} i part (m, f) = elim (cases_eq i j) [
      | inl is ↦ (m, subst (λ (k : ℕ). part (at j x s.streams k) ≡ part (s.streams k) ++ m) (sym is) (ap part (at_same j x s.streams) ∙ f))
      | inr ne ↦ ([], ap part (at_other j x s.streams i ne) ∙ sym (append-nil (part (s.streams i))))
    ]

grows_record : (set : Setting) (j w : ℕ) (s s' : Core) → GathersRecord set j w s s' → Grows s s'
grows_record set j w s s' q = grows_at s s' j (record (s.streams j) { moved = (s.streams j).moved ++ q.item ∷ [] }) (ap (λ (c : Core). c.streams) q.after) (q.item ∷ [], refl) ([], sym (append-nil (s.streams j).anchors))

grows_anchor : (set : Setting) (j : ℕ) (s s' : Core) → GathersAnchor set j s s' → Grows s s'
grows_anchor set j s s' q =
    grows_at s s' j (record (s.streams j) { posted = q.others; moved = (s.streams j).moved ++ q.item ∷ [] }) (ap (λ (c : Core). c.streams) q.after) (q.item ∷ [], refl) ([], sym (append-nil (s.streams j).anchors))

grows_gathered : (set : Setting) (j : ℕ) (s s' : Core) → Gathered set j s s' → Grows s s'
grows_gathered set j s s' stop = grows_none s
grows_gathered set j s s' (record_first {m = m} w q more) = grows_on s m s' (grows_record set j w s m q) (grows_gathered set j m s' more)
grows_gathered set j s s' (anchor_first {m = m} q more) = grows_on s m s' (grows_anchor set j s m q) (grows_gathered set j m s' more)

pub grows : (set : Setting) (e : Event) (s s' : Core) (new : List (Act Txn)) → Leads set e s s' new → Grows s s'
grows set (Lock w) s s' new q = grows_same s s' (ap (λ (c : Core). c.streams) q.0.after)
grows set (Busy w) s s' new q = grows_same s s' (ap (λ (c : Core). c.streams) q.0.after)
grows set (Quit w up) s s' new q = grows_same s s' (ap (λ (c : Core). c.streams) q.0.after)
grows set (Commit w) s s' new q = grows_same s s' (ap (λ (c : Core). c.streams) q.1.after)
grows set (Post w) s s' new q = grows_same s s' (ap (λ (c : Core). c.streams) q.0.after)
grows set (Free w) s s' new q = grows_same s s' (ap (λ (c : Core). c.streams) q.0.after)
grows set (FirstFree w) s s' new q = grows_same s s' (ap (λ (c : Core). c.streams) q.3.after ∙ ap (λ (c : Core). c.streams) q.2.after)
grows set (Done w) s s' new q = grows_same s s' (ap (λ (c : Core). c.streams) q.0.after)
grows set (DoneReading w) s s' new q = grows_same s s' (ap (λ (c : Core). c.streams) q.3.after ∙ ap (λ (c : Core). c.streams) q.2.after)
grows set (Drop i v) s s' new q = grows_same s s' (ap (λ (c : Core). c.streams) q.0.after)
grows set (Gather j) s s' new q = grows_gathered set j s s' q.0
grows set (PlaceAnchor j v) s s' new q =
    grows_at s s' j (record (s.streams j) { anchors = (s.streams j).anchors ++ v ∷ []; posted = (s.streams j).posted ++ Anchor (slice_index s.ends j) q.0.past v ∷ [] }) (ap (λ (c : Core). c.streams) q.0.after) ([], sym (append-nil (s.streams j).moved)) (v ∷ [], refl)
grows set (Persist j upto) s s' new q = grows_same s s' (ap (λ (c : Core). c.streams) q.0.after)
grows set (Ack w v) s s' new q = grows_same s s' (ap (λ (c : Core). c.streams) q.0.after)
grows set (Stop j upto) s s' new q =
    grows_at s s' j (record (s.streams j) { stop = Some upto }) (ap (λ (c : Core). c.streams) q.0.after) ([], sym (append-nil (s.streams j).moved)) ([], sym (append-nil (s.streams j).anchors))
grows set (Resume w) s s' new q = grows_same s s' (ap (λ (c : Core). c.streams) q.0.after)

-- as the core's lemmas have it
pub anchors_grow : (s s' : Core) → Grows s s' → more.Grows (λ j. (s.streams j).anchors) (λ j. (s'.streams j).anchors)
anchors_grow s s' g = record {
  keeps = λ j i v e. (let (m, f) = g.anchors j in ap (λ (l : List (List ℕ)). slice_get l i) f ∙ got_front (s.streams j).anchors m i v e);
}

-- a stream on which nothing acts

pub same_none : (i : ℕ) (s : Core) → SameAt i s s
same_none i s = record { moved = refl; stop = refl; gathered = refl; plv = refl }

pub same_on : (i : ℕ) (s m s' : Core) → SameAt i s m → SameAt i m s' → SameAt i s s'
same_on i s m s' a b = record { moved = b.moved ∙ a.moved; stop = b.stop ∙ a.stop; gathered = b.gathered ∙ a.gathered; plv = b.plv ∙ a.plv }

-- a state with the same streams and positions
same_all : (i : ℕ) (s s' : Core) → s'.streams ≡ s.streams → s'.gathered ≡ s.gathered → s'.plv ≡ s.plv → SameAt i s s'
same_all i s s' e g p = record {
  moved = ap (λ (f : ℕ → Stream). (f i).moved) e;
  stop = ap (λ (f : ℕ → Stream). (f i).stop) e;
  gathered = ap (λ (v : List ℕ). slice_index v i) g;
  plv = ap (λ (v : List ℕ). slice_index v i) p;
}

-- a stream changed that is another one, or in other parts
same_at : (i j : ℕ) (s s' : Core) (x : Stream) → s'.streams ≡ at j x s.streams → ((i ≡ j → ⊥) ⊎ ((x.moved ≡ (s.streams j).moved) × (x.stop ≡ (s.streams j).stop))) →
    slice_index s'.gathered i ≡ slice_index s.gathered i → slice_index s'.plv i ≡ slice_index s.plv i → SameAt i s s'
same_at i j s s' x e how g p = record {
  moved = ap (λ (f : ℕ → Stream). (f i).moved) e ∙ by (λ (o : Stream). o.moved) (λ a. a.0);
  stop = ap (λ (f : ℕ → Stream). (f i).stop) e ∙ by (λ (o : Stream). o.stop) (λ a. a.1);
  gathered = g;
  plv = p;
}
  where
    by : {A : Type 0} (part : Stream → A) → ((x.moved ≡ (s.streams j).moved) × (x.stop ≡ (s.streams j).stop) → part x ≡ part (s.streams j)) → part (at j x s.streams i) ≡ part (s.streams i)
    by part f = elim (cases_eq i j) [
      | inl is ↦ elim how [
        | inl ne ↦ absurd (ne is)
        | inr a ↦ subst (λ (k : ℕ). part (at j x s.streams k) ≡ part (s.streams k)) (sym is) (ap part (at_same j x s.streams) ∙ f a)
      ]
      | inr ne ↦ ap part (at_other j x s.streams i ne)
    ]

same_gathered : (set : Setting) (i j : ℕ) → (i ≡ j → ⊥) → (s s' : Core) → Gathered set j s s' → SameAt i s s'
same_gathered set i j ne s s' stop = same_none i s
same_gathered set i j ne s s' (record_first {m = m} w q more) = same_on i s m s'
    (same_at i j s m (record (s.streams j) { moved = (s.streams j).moved ++ q.item ∷ [] }) (ap (λ (c : Core). c.streams) q.after) (inl ne)
    (ap (λ (c : Core). slice_index c.gathered i) q.after ∙ get_or-set_other s.gathered j i (past_of q.item) 0 ne) (ap (λ (c : Core). slice_index c.plv i) q.after)) (same_gathered set i j ne m s' more)
same_gathered set i j ne s s' (anchor_first {m = m} q more) = same_on i s m s'
    (same_at i j s m (record (s.streams j) { posted = q.others; moved = (s.streams j).moved ++ q.item ∷ [] }) (ap (λ (c : Core). c.streams) q.after) (inl ne)
    (ap (λ (c : Core). slice_index c.gathered i) q.after ∙ get_or-set_other s.gathered j i (past_of q.item) 0 ne) (ap (λ (c : Core). slice_index c.plv i) q.after)) (same_gathered set i j ne m s' more)

pub spared : (set : Setting) (i : ℕ) (e : Event) (s s' : Core) (new : List (Act Txn)) → Spares i e → Leads set e s s' new → SameAt i s s'
spared set i (Lock w) s s' new spares q = same_all i s s' (ap (λ (c : Core). c.streams) q.0.after) (ap (λ (c : Core). c.gathered) q.0.after) (ap (λ (c : Core). c.plv) q.0.after)
spared set i (Busy w) s s' new spares q = same_all i s s' (ap (λ (c : Core). c.streams) q.0.after) (ap (λ (c : Core). c.gathered) q.0.after) (ap (λ (c : Core). c.plv) q.0.after)
spared set i (Quit w up) s s' new spares q = same_all i s s' (ap (λ (c : Core). c.streams) q.0.after) (ap (λ (c : Core). c.gathered) q.0.after) (ap (λ (c : Core). c.plv) q.0.after)
spared set i (Commit w) s s' new spares q = same_all i s s' (ap (λ (c : Core). c.streams) q.1.after) (ap (λ (c : Core). c.gathered) q.1.after) (ap (λ (c : Core). c.plv) q.1.after)
spared set i (Post w) s s' new spares q = same_all i s s' (ap (λ (c : Core). c.streams) q.0.after) (ap (λ (c : Core). c.gathered) q.0.after) (ap (λ (c : Core). c.plv) q.0.after)
spared set i (Free w) s s' new spares q = same_all i s s' (ap (λ (c : Core). c.streams) q.0.after) (ap (λ (c : Core). c.gathered) q.0.after) (ap (λ (c : Core). c.plv) q.0.after)
spared set i (FirstFree w) s s' new spares q = same_all i s s' (ap (λ (c : Core). c.streams) q.3.after ∙ ap (λ (c : Core). c.streams) q.2.after)
    (ap (λ (c : Core). c.gathered) q.3.after ∙ ap (λ (c : Core). c.gathered) q.2.after) (ap (λ (c : Core). c.plv) q.3.after ∙ ap (λ (c : Core). c.plv) q.2.after)
spared set i (Done w) s s' new spares q = same_all i s s' (ap (λ (c : Core). c.streams) q.0.after) (ap (λ (c : Core). c.gathered) q.0.after) (ap (λ (c : Core). c.plv) q.0.after)
spared set i (DoneReading w) s s' new spares q = same_all i s s' (ap (λ (c : Core). c.streams) q.3.after ∙ ap (λ (c : Core). c.streams) q.2.after)
    (ap (λ (c : Core). c.gathered) q.3.after ∙ ap (λ (c : Core). c.gathered) q.2.after) (ap (λ (c : Core). c.plv) q.3.after ∙ ap (λ (c : Core). c.plv) q.2.after)
spared set i (Drop k v) s s' new spares q = same_all i s s' (ap (λ (c : Core). c.streams) q.0.after) (ap (λ (c : Core). c.gathered) q.0.after) (ap (λ (c : Core). c.plv) q.0.after)
spared set i (Gather j) s s' new spares q = same_gathered set i j spares s s' q.0
spared set i (PlaceAnchor j v) s s' new spares q =
    same_at i j s s' (record (s.streams j) { anchors = (s.streams j).anchors ++ v ∷ []; posted = (s.streams j).posted ++ Anchor (slice_index s.ends j) q.0.past v ∷ [] }) (ap (λ (c : Core). c.streams) q.0.after) (inr (refl, refl))
    (ap (λ (c : Core). slice_index c.gathered i) q.0.after) (ap (λ (c : Core). slice_index c.plv i) q.0.after)
spared set i (Persist j upto) s s' new spares q = record {
  moved = ap (λ (c : Core). (c.streams i).moved) q.0.after;
  stop = ap (λ (c : Core). (c.streams i).stop) q.0.after;
  gathered = ap (λ (c : Core). slice_index c.gathered i) q.0.after;
  plv = ap (λ (c : Core). slice_index c.plv i) q.0.after ∙ get_or-set_other s.plv j i upto 0 spares;
}
spared set i (Ack w v) s s' new spares q = same_all i s s' (ap (λ (c : Core). c.streams) q.0.after) (ap (λ (c : Core). c.gathered) q.0.after) (ap (λ (c : Core). c.plv) q.0.after)
spared set i (Stop j upto) s s' new spares q =
    same_at i j s s' (record (s.streams j) { stop = Some upto }) (ap (λ (c : Core). c.streams) q.0.after) (inl spares) (ap (λ (c : Core). slice_index c.gathered i) q.0.after) (ap (λ (c : Core). slice_index c.plv i) q.0.after)
spared set i (Resume w) s s' new spares q = same_all i s s' (ap (λ (c : Core). c.streams) q.0.after) (ap (λ (c : Core). c.gathered) q.0.after) (ap (λ (c : Core). c.plv) q.0.after)
