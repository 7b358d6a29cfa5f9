-- The core that the head puts together stands.
use Rattle.std.proofs.Common.{ℕ, ◌+◌, ◌-◌, ◌<◌, ◌≤◌, ◌==◌, ◌≡◌, inl, inr, false, List, [], ◌∷◌, length, refl, sym, ap, subst, ◌∙◌, Option, arith, ne_eqb}
use Rattle.std.specs.Prelude.{Some, None, map, slice_get, slice_index}
use Rattle.std.specs.Option.{option_map}
use Rattle.std.proofs.lemmas.Bool.Decides.{leb_tells}
use Rattle.std.proofs.lemmas.Option.{slice_get-map}
use Rattle.std.proofs.lemmas.List.{ext_get_or}
use Rattle.atomic_table.specs.Table.{Final, Seen as SeenBy}
use Rattle.tau_shown.proofs.Steps.{Closes, closes_all}
use Rattle.tau_base.specs.declared.limits.TheConstants.{SHARDS}
use Rattle.tau_model.specs.History.{Act}
use Rattle.tau_machine.specs.Hands.{Hand, Txn, act_of}
use Rattle.tau_machine.specs.Invariant.{Invariant}
use Rattle.tau_machine.specs.Reports.{in_turn}
use Rattle.tau_machine.specs.State.{Core, Item, start_of, past_of}
use Rattle.tau_machine.specs.Worker.{Worker}
use Rattle.tau_outbox.specs.declared.Piece.{Piece}
use Rattle.tau_outbox.specs.Pieces.{bytes_of}
use Rattle.tau_shard.specs.Plain.{PlainShard}
use Rattle.tau_shard.specs.Read.{shard_of}
use Rattle.tau_txn.specs.Txn.{hand_in}
use Rattle.tau_core.specs.declared.state.Load.{Load}
use Rattle.tau_core.specs.Plain.{PlainSeat, PlainStream}
use Rattle.tau_core.specs.State.{Plain}
use Rattle.tau_core.specs.View.{setting_of, committed_by, seat_worker, tickets}
use Rattle.tau_core.specs.Pieces.{IsPieceOf, Paired, Spelled}
use Rattle.tau_core.specs.Parts.{no_shard, nobody, anchors_of, without_hand, Shows, AreShown, IsOfParts, hidden_of}
use Rattle.tau_core.proofs.Merged.{in_turn_listed}
use Rattle.tau_occ.specs.declared.style.Style.{Style}
use Rattle.tau_rule.specs.Role.{Managed, Share, Working, Managing, Clerking, Role}
use Rattle.tau_rule.specs.Knows.{Knows}
use Rattle.tau_rule.specs.Rule.{Now, Rule, anchors_at, IsOutbox, IsPart, IsShare, IsManaged, IsRole, Sees, Meets, has, hand_of, outbox_part, part_count, manager_role, word_of}
use Rattle.tau_rule.proofs.Turns.{reached_invariant}
use Rattle.tau_desk.specs.Close.{IsShardOf, IsBoxOf}
use Rattle.tau_desk.proofs.PutTogether.{IsStreamOf, PutTogether}
use Rattle.tau_desk.specs.Ends.{HasAll, IsClosing}
use Rattle.tau_rule.specs.declared.part.Part.{Part}
use Rattle.tau_rule.specs.declared.part.Part.TheVariants as part
use Rattle.tau_base.proofs.Lists.{some_at}
use Rattle.tau_core.proofs.Rested.{hand_free}

-- what is known of the state
pub record Known (l : Load) (K : List (Act Txn)) (s : Core) : Type 0 where
  pub inv : Invariant (setting_of l) K s
  pub going : (j : ℕ) → (s.streams j).stop ≡ None
  pub beyond : (u : ℕ) → l.workers ≤ u → s.workers u ≡ nobody
  pub shards : (i : ℕ) → SHARDS ≤ i → s.shards i ≡ no_shard
  pub streams : (j : ℕ) → l.streams ≤ j → (s.streams j).anchors ≡ []

known_of : (p : Plain) {style : Style} (c : Now) (m : Meets p style c) → Known p.load m.reached.joined c.core
known_of p c m = record {
  inv = reached_invariant p c.core m.reached;
  going = m.going;
  beyond = m.beyond;
  shards = m.shards;
  streams = m.streams;
}

pub word_ends : (l : Load) (c : Now) (j : ℕ) → j < l.streams → word_of l j c ≡ slice_index c.core.ends j
word_ends l c j lt =
    let a : (j == l.streams + l.streams) ≡ false = ne_eqb j (l.streams + l.streams) (λ e. omega (arith, e, lt)) in
    rw a (elim (leb_tells (j + 1) l.streams) [
      | inl b ↦ rw b.0 refl
      | inr b ↦ absurd (let h = b.1 in omega (arith, h, lt))
    ])

pub word_plv : (l : Load) (c : Now) (j : ℕ) → j < l.streams → word_of l (l.streams + j) c ≡ slice_index c.core.plv j
word_plv l c j lt =
    let a : (l.streams + j == l.streams + l.streams) ≡ false = ne_eqb (l.streams + j) (l.streams + l.streams) (λ e. omega (arith, e, lt)) in
    let back : (l.streams + j) - l.streams ≡ j = omega arith in
    rw a (elim (leb_tells (l.streams + j + 1) l.streams) [
      | inl b ↦ absurd (let h = b.1 in omega (arith, h))
      | inr b ↦ rw b.0 (ap (slice_index c.core.plv) back)
    ])

-- the bytes of gathered pieces are the spelling of what was moved
pub pieces_spelled : (l : Load) (anchors : ℕ → List (List ℕ)) (pieces : List Piece) (items : List Item) → Paired (IsPieceOf l anchors) pieces items → Spelled l anchors items (bytes_of pieces)
pieces_spelled l anchors [] [] pair = refl
pieces_spelled l anchors [] (x ∷ items) pair = absurd pair
pieces_spelled l anchors (p ∷ pieces) [] pair = absurd pair
pieces_spelled l anchors (p ∷ pieces) (x ∷ items) pair =
    let past : start_of x + length p.bytes ≡ past_of x = ap (λ (n : ℕ). n + length p.bytes) (sym pair.0.start) ∙ pair.0.past in
    (p.bytes, bytes_of pieces, refl, past, pair.0.bytes, pieces_spelled l anchors pieces items pair.1)

module _ (q : Plain) (c : Now) (taken : ℕ → List ℕ) (K : List (Act Txn)) (k : Known q.load K c.core) (t : PutTogether q c taken) where
  shard_is_that : (i : ℕ) (x : PlainShard) (y : Part) → IsPart q.load i y c → IsShardOf y x → c.core.shards i ≡ shard_of x
  shard_is_that i x (part.Shard b) h e = h.1 ∙ ap shard_of e
  shard_is_that i x (part.Outbox o p) h e = absurd e
  shard_is_that i x (part.Anchor number lv) h e = absurd e

  box_is : (w : ℕ) (x : PlainSeat) (y : Part) → IsPart q.load (outbox_part w) y c → IsBoxOf y x → IsOutbox q.load x.outbox x.pending (anchors_at c.core) (c.core.outboxes w)
  box_is w x (part.Shard b) h e = absurd e
  box_is w x (part.Outbox o p) h e =
      let same : h.0 ≡ w = (let a = h.1 in omega (arith, a)) in
      let box : IsOutbox q.load o.value p.value (anchors_at c.core) (c.core.outboxes w) = subst (λ (u : ℕ). IsOutbox q.load o.value p.value (anchors_at c.core) (c.core.outboxes u)) same h.3 in
      record {
        posted = subst (λ z. Paired (IsPieceOf q.load (anchors_at c.core)) z.pieces (c.core.outboxes w).posted) (sym e.0) box.posted;
        pending = box.pending ∙ ap (λ z. tickets z.calls) (sym e.1);
      }
  box_is w x (part.Anchor number lv) h e = absurd e

  managed_is : (j : ℕ) (g : Managed) → IsShare q.load (manager_role q.load j) (Managing g) c → IsManaged q.load j g c
  managed_is j g h = (let same : h.0 ≡ j = (let a = h.1 in omega (arith, a)) in subst (λ (i : ℕ). IsManaged q.load i g c) same h.3)

  stream_is : (j : ℕ) (x : PlainStream) → slice_get q.streams j ≡ Some x → (r : IsStreamOf q.load j c q.gathered (taken j) x) × IsManaged q.load j r.managed c
  stream_is j x e = (let r = t.streams j x e in (r, managed_is j r.managed r.share))

  pub shown : Shows q c.core taken
  shown = record {
    shards = λ i x e. (let r = t.shards i x e in shard_is_that i x r.0 r.1 r.2);
    workers = λ w x e. (let r = t.seats w x e in r.share.1 ∙ r.own ∙ ap (λ (wk : Worker). seat_worker q.load x wk.committed) (sym r.share.1));
    committed = λ w lt. ap (committed_by q.load.workers w) t.committed ∙ in_turn_listed q.load K c.core k.inv w lt;
    posted = λ w x e. (let r = t.seats w x e in (box_is w x r.box r.part r.of_box).posted);
    pending = λ w x e. (let r = t.seats w x e in (box_is w x r.box r.part r.of_box).pending);
    own = λ j x e. (let r = stream_is j x e in subst (λ (l : List Piece). Paired (IsPieceOf q.load (anchors_of c.core)) l (c.core.streams j).posted) (sym r.0.own) r.1.own);
    anchors = λ j x e. (let r = stream_is j x e in r.1.anchors ∙ sym r.0.anchors);
    stops = λ j x e. (let r = stream_is j x e in k.going j ∙ sym r.0.going);
    moved = λ j x e. (let r = stream_is j x e in subst (Spelled q.load (anchors_of c.core) (c.core.streams j).moved) (sym r.0.bytes) (pieces_spelled q.load (anchors_of c.core) r.0.managed.taken (c.core.streams j).moved r.1.moved));
    ends = ext_get_or 0 c.core.ends q.ends (k.inv.agrees.good.good.order.count ∙ sym t.rests.ends)
        (λ j lt. (let low : j < q.load.streams = (let a = k.inv.agrees.good.good.order.count in omega (arith, a, lt)) in sym (t.ends j low ∙ word_ends q.load c j low)));
    gathered = ext_get_or 0 c.core.gathered q.gathered (k.inv.agrees.good.count_gathered ∙ sym t.rests.gathered)
        (λ j lt.
        let low : j < length q.streams = (let a = k.inv.agrees.good.count_gathered in let b = t.rests.streams in omega (arith, a, b, lt)) in
        let found = some_at q.streams j low in
        let r = stream_is j found.0 found.1 in
        r.1.gathered ∙ sym r.0.upto);
    plv = ext_get_or 0 c.core.plv q.plv (k.inv.agrees.good.count_plv ∙ sym t.rests.plv)
        (λ j lt. (let low : j < q.load.streams = (let a = k.inv.agrees.good.count_plv in omega (arith, a, lt)) in sym (t.plv j low ∙ word_plv q.load c j low)));
    no_shards = k.shards;
    no_workers = k.beyond;
    no_anchors = k.streams;
    no_stops = λ j high. k.going j;
  }

module _ (p : Plain) {style : Style} (c : Now) (m : Meets p style c) (q : Plain) (taken : ℕ → List ℕ) (same : q.load ≡ p.load) (t : PutTogether q c taken) where
  here : Known q.load m.reached.joined c.core
  here = subst (λ (l : Load). Known l m.reached.joined c.core) (sym same) (known_of p c m)

  -- what the making of the core asks
  pub asked : AreShown q
  asked = record { order = m.reached.joined; state = c.core; taken = taken; inv = here.inv; shows = shown q c taken m.reached.joined here t }

  boxed : (w : ℕ) (x : PlainSeat) (o : Option PlainSeat) → slice_get q.seats w ≡ o → option_map without_hand o ≡ Some x → IsOutbox q.load x.outbox x.pending (anchors_at c.core) (c.core.outboxes w)
  boxed w x None a b = absurd (let bad : None ≡ Some x = b in cc)
  boxed w x (Some y) a b =
      let r = t.seats w y a in
      let is : without_hand y ≡ x = (let e : Some (without_hand y) ≡ Some x = b in cc) in
      subst (λ (z : PlainSeat). IsOutbox q.load z.outbox z.pending (anchors_at c.core) (c.core.outboxes w)) is (box_is q c taken m.reached.joined here t w y r.box r.part r.of_box)

  free : (w : ℕ) (x : PlainSeat) → slice_get q.seats w ≡ Some x → (h : Hand) → (c.core.workers w).hand ≡ Some h → (act_of h.phase ≡ None) × (h.held ≡ [])
  free w x e h f =
      let r = t.seats w x e in
      let rest = t.rests.seat w x e in
      let is : (c.core.workers w).hand ≡ hand_in q.load.procs x.txn = ap (λ (k : Worker). k.hand) (r.share.1 ∙ r.own) in
      hand_free q.load.procs x.txn.worker x.txn.hand rest.joined rest.held h (sym is ∙ f)

  -- and what close says of it
  pub closed : (v : Knows) → Sees p c v → ((u : ℕ) (r : Role) → has u v ≡ Some r → IsRole p.load u r c) → HasAll p v → (result : Plain) → IsOfParts q result → IsClosing p style v result
  closed v sees roles all result is = record {
    state = c;
    meets = m;
    sees = sees;
    roles = roles;
    all = all;
    loose = λ w h f. elim (leb_tells (w + 1) q.load.workers) [
      | inl a ↦
          let low : w < length q.seats = (let b = a.1 in let n = t.rests.seats in omega (arith, b, n)) in
          let x = some_at q.seats w low in
          free w x.0 x.1 h f
      | inr b ↦
          let none : c.core.workers w ≡ nobody = here.beyond w (let d = b.1 in omega (arith, d)) in
          absurd (let bad : None ≡ Some h = sym (ap (λ (k : Worker). k.hand) none) ∙ f in cc)
    ];
    box = λ w x e.
        let seats : slice_get (map without_hand q.seats) w ≡ Some x = ap (λ (z : Plain). slice_get z.seats w) (sym is.after) ∙ e in
        subst (λ (l : Load). IsOutbox l x.outbox x.pending (anchors_at c.core) (c.core.outboxes w)) same
        (boxed w x (slice_get q.seats w) refl (sym (slice_get-map without_hand q.seats w) ∙ seats));
    load = ap (λ (z : Plain). z.load) is.after ∙ same;
    hidden = hidden_of c.core taken;
    stands = is.stands m.reached.joined c.core taken here.inv (shown q c taken m.reached.joined here t);
    core = is.core m.reached.joined c.core taken here.inv (shown q c taken m.reached.joined here t);
    committed = ap (λ (x : Plain). x.committed) is.after ∙ t.committed ∙ ap (λ (l : Load). in_turn l.workers (λ w. (c.core.workers w).committed)) same;
  }

-- a head that has each role has those of each state
pub in_range : (p : Plain) (c : Now) (u : ℕ) (share : Share) → IsShare p.load u share c → u < p.load.workers + p.load.streams + 1
in_range p c u (Working wk) h = (let a = h.0 in omega (arith, a))
in_range p c u (Managing g) h = (let a = h.1 in let b = h.2 in omega (arith, a, b))
in_range p c u (Clerking acked) h = (let a = h.0 in omega (arith, a))

-- the end of the table, of which the head knows this
abbrev pub ClosesAt : Plain → Style → Knows → List ℕ → List (Option Part) → Type 0
ClosesAt p style v ws xs = Closes (IsPart p.load) (IsRole p.load) (word_of p.load) hand_of has (Sees p) (Meets p style) (part_count p.load) (p.load.streams + p.load.streams + 1) v ws xs

-- at the end of the table every part is at home, and shows a state whose roles the head has
pub ends : (p : Plain) {style : Style} (id : ℕ) (v : Knows) (ws : List ℕ) (xs : List (Option Part)) → hand_of v ≡ None → HasAll p v → Final (SeenBy (Rule p style) id v) ws xs → ClosesAt p style v ws xs
ends p {style} id v ws xs idle all final =
    closes_all (IsPart p.load) (IsRole p.load) (word_of p.load) hand_of has (Sees p) (Meets p style) (part_count p.load) (p.load.streams + p.load.streams + 1) id v ws xs idle
    (λ c u x m sees r. all u (in_range p c u x.share r.0)) final
