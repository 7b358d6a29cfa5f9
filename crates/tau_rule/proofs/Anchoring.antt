-- A manager places an anchor: what names anchors goes on naming them.
use Rattle.std.proofs.Common.{◌≡◌, ℕ, ◌+◌, ◌-◌, ◌*◌, ◌%◌, ◌^◌, ◌<◌, ◌≤◌, inl, inr, List, [], ◌∷◌, ◌++◌, Option, length, refl, sym, ap, ◌∙◌, subst, arith, add-zero, length-append, get_or-set_same, get_or-set_other}
use Rattle.std.specs.Prelude.{Some, None, slice_get, slice_index, slice_set}
use Rattle.std.proofs.Math.Nat.{mod-eq_of_lt}
use Rattle.std.proofs.lemmas.List.{append-nil}
use Rattle.std.proofs.lemmas.Bool.{cases_eq}
use Rattle.atomic_table.specs.Table.{Step, Allows}
use Rattle.tau_shown.proofs.Steps.{words_step}
use Rattle.tau_shard.specs.Shard.{at}
use Rattle.tau_machine.specs.State.{Item, Record, Anchor, Stream}
use Rattle.tau_machine.specs.Events.{PlaceAnchor, Leads, with_stream}
use Rattle.tau_shard.proofs.At.{at_same, at_other}
use Rattle.tau_outbox.specs.declared.Piece.{Piece}
use Rattle.tau_core.specs.State.{Plain}
use Rattle.tau_core.specs.View.{setting_of}
use Rattle.tau_rule.specs.Role.{Share, Working, Managing, Clerking, Role, Managed}
use Rattle.tau_core.specs.Pieces.{Names, AreBytesOf, IsPieceOf, Paired, Spelled}
use Rattle.tau_occ.specs.declared.style.Style.{Style}
use Rattle.tau_rule.specs.Knows.{Knows}
use Rattle.tau_rule.specs.Rule.{Now, Rule, IsPart, IsShare, IsManaged, IsRole, Sees, Meets, MAX_ANCHOR, anchors_at, word_of, hand_of, has, part_count, manager_role, LONGEST}
use Rattle.tau_rule.specs.Steps.{Sat}
use Rattle.tau_rule.specs.Places.{got_place}
use Rattle.tau_rule.specs.Anchoring.{anchored, IsToAnchor}
use Rattle.tau_rule.specs.declared.part.Part.{Part}
use Rattle.tau_rule.specs.declared.part.Part.TheVariants as part
use Rattle.tau_rule.proofs.Turns.{reached_invariant, Turn, reached_on, stored_on, one_role, role_alone, alone}
use Rattle.tau_rule.proofs.Numbers.{few_joined}
use Rattle.tau_rule.proofs.Boxes.{paired_snoc}
use Rattle.tau_rule.proofs.Placing.{word_alloc, word_other, room}
use Rattle.tau_base.proofs.Lists.{got_front}
use Rattle.tau_core.specs.declared.state.Load.{Load}

abbrev pub anchored_view : Load → ℕ → Role → Managed → List ℕ → Knows → ℕ → Knows
anchored_view l j x g bytes v start = record v { roles = (manager_role l j, record x { share = Managing (anchored g v.seen bytes start) }) ∷ [] }

-- each list of anchors begins with the one before
abbrev Grows : (ℕ → List (List ℕ)) → (ℕ → List (List ℕ)) → Type 0
Grows f g = (i : ℕ) → (more : List (List ℕ)) × (g i ≡ f i ++ more)

module _ (origin : Plain) (f g : ℕ → List (List ℕ)) (grows : Grows f g) where
  pub names_grow : (j number : ℕ) (base : List ℕ) → Names origin.load j (f j) number base → Names origin.load j (g j) number base
  names_grow j number base (inl e) = inl e
  names_grow j number base (inr e) = inr (e.0, e.1, subst (λ (z : List (List ℕ)). slice_get z e.0 ≡ Some base) (sym (grows j).1) (got_front (f j) (grows j).0 e.0 base e.2))

  bytes_grow : (i : Item) (bytes : List ℕ) → AreBytesOf origin.load f i bytes → AreBytesOf origin.load g i bytes
  bytes_grow (Record t) bytes h = record { base = h.base; named = names_grow t.call.place.stream t.call.anchor h.base h.named; spelled = h.spelled }
  bytes_grow (Anchor start past v) bytes h = h

  pub paired_grow : (ps : List Piece) (is : List Item) → Paired (IsPieceOf origin.load f) ps is → Paired (IsPieceOf origin.load g) ps is
  paired_grow [] [] h = tt
  paired_grow [] (i ∷ is) h = absurd h
  paired_grow (p ∷ ps) [] h = absurd h
  paired_grow (p ∷ ps) (i ∷ is) h = (record { start = h.0.start; past = h.0.past; bytes = bytes_grow i p.bytes h.0.bytes }, paired_grow ps is h.1)

  pub spelled_grow : (is : List Item) (bytes : List ℕ) → Spelled origin.load f is bytes → Spelled origin.load g is bytes
  spelled_grow [] bytes h = h
  spelled_grow (i ∷ is) bytes h = (h.0, h.1, h.2, h.3, bytes_grow i h.0 h.4, spelled_grow is h.1 h.5)

module _ (origin : Plain) (j : ℕ) (m : Sat) (bytes : List ℕ) (p : IsToAnchor origin j m bytes) where
  abbrev role : Role
  role = p.is.role

  abbrev str_then : Now → Stream
  str_then c = record (c.core.streams j) {
    anchors = (c.core.streams j).anchors ++ m.0.seen ∷ [];
    posted = (c.core.streams j).posted ++ Anchor (slice_index c.core.ends j) (slice_index c.core.ends j + length bytes) m.0.seen ∷ [];
  }

  abbrev pub then_anchored : Now → Now
  then_anchored c = record {
    core = record (with_stream c.core j (str_then c)) { ends = slice_set c.core.ends j (slice_index c.core.ends j + length bytes) };
    raised = c.raised;
    spare = c.spare;
    stored = c.stored;
  }

  module _ {style : Style} (c : Now) (meets : Meets origin style c) (mine : IsRole origin.load (manager_role origin.load j) role c) (sees : Sees origin c m.0) where
    managed_is : IsManaged origin.load j p.managed c
    managed_is =
        let h = subst (λ (x : Share). IsShare origin.load (manager_role origin.load j) x c) p.is.share mine.0 in
        subst (λ (i : ℕ). IsManaged origin.load i p.managed c) (let e = h.1 in omega arith) h.3

    here : (then_anchored c).core.streams j ≡ str_then c
    here = at_same j (str_then c) c.core.streams

    grown : Grows (anchors_at c.core) (anchors_at (then_anchored c).core)
    grown i = elim (cases_eq i j) [
      | inl is ↦ (m.0.seen ∷ [], subst (λ (k : ℕ). (at j (str_then c) c.core.streams k).anchors ≡ (c.core.streams k).anchors ++ m.0.seen ∷ []) (sym is) (ap (λ (x : Stream). x.anchors) here))
      | inr ne ↦ ([], ap (λ (x : Stream). x.anchors) (at_other j (str_then c) c.core.streams i ne) ∙ sym (append-nil (c.core.streams i).anchors))
    ]

    pub leads : Leads (setting_of origin.load) (PlaceAnchor j m.0.seen) c.core (then_anchored c).core []
    leads = (
      record {
        there = p.is.there;
        going = meets.going j;
        room = subst (λ (a : List (List ℕ)). slice_index origin.load.opening.anchors.items j + length a < 2 ^ 32 - 1) (sym managed_is.anchors) p.room;
        covered = sees.low;
        narrow = (let e = sees.wide (manager_role origin.load j) role (one_role m.0 (manager_role origin.load j) role p.is.roles) in omega arith);
        past = slice_index c.core.ends j + length bytes;
        past_start = (let e = p.low in omega arith);
        after = refl;
      },
      refl,
    )

    parts_stay : (k : ℕ) (q : Part) → IsPart origin.load k q c → IsPart origin.load k q (then_anchored c)
    parts_stay k (part.Shard b) h = h
    parts_stay k (part.Outbox a b) h = (h.0, h.1, h.2, record { posted = paired_grow origin (anchors_at c.core) (anchors_at (then_anchored c).core) grown a.value.pieces (c.core.outboxes h.0).posted h.3.posted; pending = h.3.pending }, h.4, h.5)
    parts_stay k (part.Anchor number lv) h = (h.0, h.1, h.2, names_grow origin (anchors_at c.core) (anchors_at (then_anchored c).core) grown h.0 number lv.value h.3, h.4)

    shares_stay : (u : ℕ) (x : Share) → (u ≡ manager_role origin.load j → ⊥) → IsShare origin.load u x c → IsShare origin.load u x (then_anchored c)
    shares_stay u (Working x) apart h = h
    shares_stay u (Managing g) apart h =
        let other : h.0 ≡ j → ⊥ = (λ e. apart (h.1 ∙ ap (manager_role origin.load) e)) in
        let same = at_other j (str_then c) c.core.streams h.0 other in (
          h.0,
          h.1,
          h.2,
          record {
            moved = subst (λ (z : List Item). Paired (IsPieceOf origin.load (anchors_at (then_anchored c).core)) g.taken z) (ap (λ (x : Stream). x.moved) (sym same)) (paired_grow origin (anchors_at c.core) (anchors_at (then_anchored c).core) grown g.taken (c.core.streams h.0).moved h.3.moved);
            gathered = h.3.gathered;
            anchors = ap (λ (x : Stream). x.anchors) same ∙ h.3.anchors;
            own = subst (λ (z : List Item). Paired (IsPieceOf origin.load (anchors_at (then_anchored c).core)) g.own z) (ap (λ (x : Stream). x.posted) (sym same)) (paired_grow origin (anchors_at c.core) (anchors_at (then_anchored c).core) grown g.own (c.core.streams h.0).posted h.3.own);
            stored = h.3.stored;
          },
        )
    shares_stay u (Clerking acked) apart h = h

    sees_stay : (v : Knows) → Sees origin c v → Sees origin (then_anchored c) v
    sees_stay v h = record {
      opened = h.opened;
      wide = h.wide;
      low = h.low;
      own = h.own;
      read = λ u r lt e. names_grow origin (anchors_at c.core) (anchors_at (then_anchored c).core) grown ((setting_of origin.load).stream_of u) v.read.0 v.read.1 (h.read u r lt e);
      found = h.found;
    }

    anchor_managed : IsManaged origin.load j (anchored p.managed m.0.seen bytes (slice_index c.core.ends j)) (then_anchored c)
    anchor_managed = record {
      moved = subst (λ (z : List Item). Paired (IsPieceOf origin.load (anchors_at (then_anchored c).core)) p.managed.taken z) (ap (λ (x : Stream). x.moved) (sym here)) (paired_grow origin (anchors_at c.core) (anchors_at (then_anchored c).core) grown p.managed.taken (c.core.streams j).moved managed_is.moved);
      gathered = managed_is.gathered;
      anchors = ap (λ (x : Stream). x.anchors) here ∙ ap (λ (a : List (List ℕ)). a ++ m.0.seen ∷ []) managed_is.anchors;
      own = subst (λ (z : List Item). Paired (IsPieceOf origin.load (anchors_at (then_anchored c).core)) (p.managed.own ++ record { start = slice_index c.core.ends j; bytes = bytes } ∷ []) z) (ap (λ (x : Stream). x.posted) (sym here))
          (paired_snoc (IsPieceOf origin.load (anchors_at (then_anchored c).core)) p.managed.own (c.core.streams j).posted (record { start = slice_index c.core.ends j; bytes = bytes }) (Anchor (slice_index c.core.ends j) (slice_index c.core.ends j + length bytes) m.0.seen)
          (paired_grow origin (anchors_at c.core) (anchors_at (then_anchored c).core) grown p.managed.own (c.core.streams j).posted managed_is.own) (record { start = refl; past = refl; bytes = p.spelled }));
      stored = managed_is.stored;
    }

    few : length (c.core.streams j).anchors + 1 < 2 ^ 32
    few = (let a = ap (length {A = List ℕ}) managed_is.anchors in let b = p.room in omega arith)

    next_length : length ((then_anchored c).core.streams j).anchors ≡ length (c.core.streams j).anchors + 1
    next_length = ap (λ (x : Stream). length x.anchors) here ∙ length-append (c.core.streams j).anchors (m.0.seen ∷ [])

    wide : j < length c.core.ends
    wide =
        let inv = reached_invariant origin c.core meets.reached in
        let count : length c.core.ends ≡ origin.load.streams = inv.agrees.good.good.order.count in
        let low = p.is.there in
        omega arith

    count_same : length (meets.reached.joined ++ []) ≡ length meets.reached.joined
    count_same = length-append meets.reached.joined [] ∙ add-zero (length meets.reached.joined)

    up_to : slice_index c.core.ends j + length bytes ≤ slice_index origin.load.opening.ends j + LONGEST * length meets.reached.joined + MAX_ANCHOR * (length (c.core.streams j).anchors + 1)
    up_to = (let f = meets.fits j p.is.there in let h = p.high in omega arith)

    pub small : slice_index c.core.ends j + length bytes < 2 ^ 62
    small =
        let many = few_joined origin c.core meets.reached in
        let calls = meets.limited.few in
        room (slice_index c.core.ends j + length bytes) (slice_index origin.load.opening.ends j) (length meets.reached.joined) (MAX_ANCHOR * (length (c.core.streams j).anchors + 1)) (length (c.core.streams j).anchors + 1)
        (meets.limited.low j p.is.there) (omega (arith, many, calls)) refl few up_to

    fits_on : (i : ℕ) → i < origin.load.streams → slice_index (slice_set c.core.ends j (slice_index c.core.ends j + length bytes)) i ≤ slice_index origin.load.opening.ends i + LONGEST * length (meets.reached.joined ++ []) + MAX_ANCHOR * length ((then_anchored c).core.streams i).anchors
    fits_on i low = elim (cases_eq i j) [
      | inl is ↦ subst (λ (z : ℕ). slice_index (slice_set c.core.ends j (slice_index c.core.ends j + length bytes)) z ≤ slice_index origin.load.opening.ends z + LONGEST * length (meets.reached.joined ++ []) + MAX_ANCHOR * length ((then_anchored c).core.streams z).anchors) (sym is)
          (subst (λ (z : (ℕ × ℕ) × ℕ). z.0.0 ≤ slice_index origin.load.opening.ends j + LONGEST * z.0.1 + MAX_ANCHOR * z.1) (λ k. ((sym (get_or-set_same c.core.ends j (slice_index c.core.ends j + length bytes) 0 wide) k, sym count_same k), sym next_length k)) up_to)
      | inr ne ↦ subst (λ (z : (ℕ × ℕ) × List (List ℕ)). z.0.0 ≤ slice_index origin.load.opening.ends i + LONGEST * z.0.1 + MAX_ANCHOR * length z.1)
          (λ k. ((sym (get_or-set_other c.core.ends j i (slice_index c.core.ends j + length bytes) 0 ne) k, sym count_same k), ap (λ (x : Stream). x.anchors) (sym (at_other j (str_then c) c.core.streams i ne)) k)) (meets.fits i low)
    ]

    few_on : (i : ℕ) → i < origin.load.streams → length ((then_anchored c).core.streams i).anchors < 2 ^ 32
    few_on i low = elim (cases_eq i j) [
      | inl is ↦ subst (λ (z : ℕ). length ((then_anchored c).core.streams z).anchors < 2 ^ 32) (sym is) (subst (λ (n : ℕ). n < 2 ^ 32) (sym next_length) few)
      | inr ne ↦ subst (λ (z : List (List ℕ)). length z < 2 ^ 32) (ap (λ (x : Stream). x.anchors) (sym (at_other j (str_then c) c.core.streams i ne))) (meets.anchors i low)
    ]

    no_stop : (i : ℕ) → ((then_anchored c).core.streams i).stop ≡ None
    no_stop i = elim (cases_eq i j) [
      | inl is ↦ subst (λ (k : ℕ). (at j (str_then c) c.core.streams k).stop ≡ None) (sym is) (ap (λ (x : Stream). x.stop) here ∙ meets.going j)
      | inr ne ↦ ap (λ (x : Stream). x.stop) (at_other j (str_then c) c.core.streams i ne) ∙ meets.going i
    ]

    pub anchor_turn : Turn origin style c (then_anchored c) (part_count origin.load) (manager_role origin.load j) (record role { share = Managing (anchored p.managed m.0.seen bytes (slice_index c.core.ends j)) })
    anchor_turn = record {
      parts = λ k q low apart h. parts_stay k q h;
      mine = ((j, refl, p.is.there, anchor_managed), mine.1, mine.2);
      others = λ u x apart h. (shares_stay u x.share apart h.0, h.1, h.2);
      sight = λ v lacks h. sees_stay v h;
      kept = record {
        reached = reached_on origin (PlaceAnchor j m.0.seen) c.core (then_anchored c).core [] meets.reached leads tt;
        stored = stored_on c.stored meets.reached.events (PlaceAnchor j m.0.seen) meets.stored tt;
        going = no_stop;
        fits = fits_on;
        anchors = few_on;
        opened = meets.opened;
        limited = meets.limited;
        beyond = meets.beyond;
        shards = meets.shards;
        streams = λ i low. ap (λ (x : Stream). x.anchors) (at_other j (str_then c) c.core.streams i (λ e. let a = p.is.there in omega arith)) ∙ meets.streams i low;
      };
    }

  -- the manager places an anchor that holds what it has seen
  pub anchors : {style : Style} (id : ℕ) (st : Step (Option Part)) → st.first ≡ length bytes → Allows (Rule origin style) (part_count origin.load) id m (8 * (part_count origin.load + j)) (λ n. (n + length bytes) % 2 ^ 64) (got_place (anchored_view origin.load j role p.managed bytes m.0) st m)
  anchors {style} id st first =
      let u : ℕ = manager_role origin.load j in
      let y : ℕ → Role = (λ (start : ℕ). record role { share = Managing (anchored p.managed m.0.seen bytes start) }) in
      let is : has u m.0 ≡ Some role = one_role m.0 u role p.is.roles in
      words_step (IsPart origin.load) (IsRole origin.load) (word_of origin.load) hand_of has (Sees origin) (Meets origin style) (part_count origin.load) (origin.load.streams + origin.load.streams + 1) id j m.0 m.1 u role (let a = p.is.there in omega arith) is
      (λ n. (n + length bytes) % 2 ^ 64) (anchored_view origin.load j role p.managed bytes m.0) y (λ start. refl) (λ start. role_alone u (y start)) (λ start k z h. alone u (y start) k z h)
      (λ c meets mine sees.
      let at_word : word_of origin.load j c ≡ slice_index c.core.ends j = word_alloc origin j c p.is.there in
      let less = small c meets mine sees in
      let after = sees_stay c meets mine sees m.0 sees in (
        then_anchored c,
        subst (λ (n : ℕ). Turn origin style c (then_anchored c) (part_count origin.load) u (y n)) (sym at_word) (anchor_turn c meets mine sees),
        record {
          opened = λ k r e. p.is.opened;
          wide = λ k r e. after.wide u role is;
          low = after.low;
          own = λ i r lt e. let same = alone u (y (word_of origin.load j c)) (manager_role origin.load i) r e in after.own i role lt (ap (λ (n : ℕ). has n m.0) same ∙ is);
          read = λ w r lt e. absurd (let a = alone u (y (word_of origin.load j c)) w r e in omega arith);
          found = after.found;
        },
        word_alloc origin j (then_anchored c) p.is.there ∙ get_or-set_same c.core.ends j (slice_index c.core.ends j + length bytes) 0 (wide c meets mine sees)
            ∙ sym (mod-eq_of_lt (omega arith)) ∙ ap (λ (n : ℕ). (n + length bytes) % 2 ^ 64) (sym at_word),
        (λ i lt apart. word_other origin j c (then_anchored c).core (slice_index c.core.ends j + length bytes) refl refl i apart),
      ))
      (got_place (anchored_view origin.load j role p.managed bytes m.0) st m)
      (λ c meets mine sees.
      let at_word : word_of origin.load j c ≡ slice_index c.core.ends j = word_alloc origin j c p.is.there in
      let less = small c meets mine sees in
      (refl, omega (arith, at_word, first, less)))
