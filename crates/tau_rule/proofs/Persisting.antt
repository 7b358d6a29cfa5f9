-- Loads and stores of the words of persisted positions.
use Rattle.std.proofs.Common.{◌≡◌, ℕ, zero, suc, ◌+◌, ◌-◌, ◌*◌, ◌^◌, ◌<◌, ◌≤◌, ◌⊎◌, inl, inr, false, Bool, List, [], ◌∷◌, ◌++◌, Option, length, refl, sym, ap, ◌∙◌, subst, arith, length-set, get_or-set_same, get_or-set_other, length-append, add-zero}
use Rattle.std.specs.Prelude.{Some, ◌==◌, if◌then◌else◌, slice_index, slice_set, nat_le}
use Rattle.std.proofs.lemmas.Bool.{cases_eq, ne_eqb, lt-leb}
use Rattle.std.proofs.lemmas.Bool.Decides.{leb_tells}
use mathlib.Core.Option.{none}
use Rattle.atomic_table.specs.Table.{Step, step, Allows}
use Rattle.tau_shown.proofs.Steps.{words_step, loads_word}
use Rattle.tau_machine.specs.Events.{Event, Persist, Leads}
use Rattle.tau_shard.specs.Shard.{at}
use Rattle.tau_shard.proofs.At.{at_same, at_other}
use Rattle.tau_machine.proofs.Snoc.{member_last, member_snoc}
use Rattle.tau_model.specs.History.{Member}
use Rattle.tau_model.proofs.Orders.{member_front}
use Rattle.tau_core.specs.State.{Plain}
use Rattle.tau_core.specs.View.{setting_of}
use Rattle.tau_rule.specs.Role.{Managed, Share, Working, Managing, Clerking, Role, managed_in_share}
use Rattle.tau_occ.specs.declared.style.Style.{Style}
use Rattle.tau_rule.specs.Knows.{Knows}
use Rattle.tau_rule.specs.Rule.{HavePersisted, MAX_ANCHOR, Now, Rule, IsPart, IsShare, IsManaged, IsRole, Sees, Meets, word_of, hand_of, has, part_count, manager_role, number_if, is_raised, LONGEST}
use Rattle.tau_rule.specs.Steps.{Sat, first_role}
use Rattle.tau_rule.specs.Positions.{plv_word, sees_to, storing, stores_to, looked, stored, IsManager}
use Rattle.tau_rule.specs.declared.part.Part.{Part}
use Rattle.tau_rule.specs.declared.part.Part.TheVariants as part
use Rattle.tau_rule.proofs.Gives.{one_origin}
use Rattle.tau_rule.proofs.Numbers.{few_joined}
use Rattle.tau_rule.proofs.Placing.{room}
use Rattle.tau_rule.proofs.Turns.{reached_invariant, Turn, reached_on, alone, one_role, role_alone}
use Rattle.tau_base.specs.declared.limits.TheConstants.{MAX_CALLS}

same_beyond : (xs : List ℕ) (j y : ℕ) → length xs ≤ j → slice_set xs j y ≡ xs
same_beyond [] j y e = refl
same_beyond (x ∷ xs) zero y e = absurd (omega arith)
same_beyond (x ∷ xs) (suc j) y e = ap (λ (xs : List ℕ). x ∷ xs) (same_beyond xs j y (omega arith))

-- where a vector is set, it is what was set, or beyond its end as it was
set_at : (xs : List ℕ) (j y : ℕ) → (slice_index (slice_set xs j y) j ≡ y) ⊎ (slice_index (slice_set xs j y) j ≡ slice_index xs j)
set_at xs j y = elim (leb_tells (length xs) j) [
  | inl beyond ↦ inr (ap (λ (v : List ℕ). slice_index v j) (same_beyond xs j y beyond.1))
  | inr within ↦ inl (get_or-set_same xs j y 0 within.1)
]

-- the words of persisted positions
pub word_plv : (origin : Plain) (j : ℕ) (c : Now) → j < origin.load.streams → word_of origin.load (origin.load.streams + j) c ≡ slice_index c.core.plv j
word_plv origin j c low =
    let a : (origin.load.streams + j == origin.load.streams + origin.load.streams) ≡ false = ne_eqb (origin.load.streams + j) (origin.load.streams + origin.load.streams) (λ e. omega arith) in
    let b : nat_le (origin.load.streams + j + 1) origin.load.streams ≡ false = lt-leb (origin.load.streams + j + 1) origin.load.streams (omega arith) in
    let d : origin.load.streams + j - origin.load.streams ≡ j = omega arith in
    ap (λ (z : Bool). if z then number_if (is_raised (origin.load.workers + origin.load.streams + 1) c.raised) else (if nat_le (origin.load.streams + j + 1) origin.load.streams then slice_index c.core.ends (origin.load.streams + j) else slice_index c.core.plv (origin.load.streams + j - origin.load.streams))) a
    ∙ ap (λ (z : Bool). if z then slice_index c.core.ends (origin.load.streams + j) else slice_index c.core.plv (origin.load.streams + j - origin.load.streams)) b
    ∙ ap (slice_index c.core.plv) d

seen_more : (origin : Plain) (c : Now) (v : Knows) (j : ℕ) → Sees origin c v → Sees origin c (sees_to j (slice_index c.core.plv j) v)
seen_more origin c v j h = record {
  opened = h.opened;
  wide = λ u r e. length-set v.seen j (slice_index c.core.plv j) ∙ h.wide u r e;
  low = λ i. elim (cases_eq i j) [
    | inl is ↦ subst (λ (z : ℕ). slice_index (slice_set v.seen j (slice_index c.core.plv j)) z ≤ slice_index c.core.plv z) (sym is) (elim (set_at v.seen j (slice_index c.core.plv j)) [
      | inl here ↦ omega arith
      | inr was ↦ (let b = h.low j in omega arith)
    ])
    | inr ne ↦ (let e = get_or-set_other v.seen j i (slice_index c.core.plv j) 0 ne in let b = h.low i in omega arith)
  ];
  own = λ i r lt e. elim (cases_eq i j) [
    | inl is ↦ subst (λ (z : ℕ). slice_index v.seen z ≡ slice_index c.core.plv z → slice_index (slice_set v.seen j (slice_index c.core.plv j)) z ≡ slice_index c.core.plv z) (sym is)
        (λ was. elim (set_at v.seen j (slice_index c.core.plv j)) [ inl here ↦ here | inr same ↦ same ∙ was ]) (h.own i r lt e)
    | inr ne ↦ get_or-set_other v.seen j i (slice_index c.core.plv j) 0 ne ∙ h.own i r lt e
  ];
  read = h.read;
  found = h.found;
}

-- no position wraps
pub small_end : (origin : Plain) {style : Style} (c : Now) → Meets origin style c → (j : ℕ) → j < origin.load.streams → slice_index c.core.ends j < 2 ^ 62
small_end origin c meets j low =
    let few = few_joined origin c.core meets.reached in
    let calls = meets.limited.few in
    let all : length meets.reached.joined ≤ MAX_CALLS = omega (arith, few, calls) in
    room (slice_index c.core.ends j) (slice_index origin.load.opening.ends j) (length meets.reached.joined) (MAX_ANCHOR * length (c.core.streams j).anchors) (length (c.core.streams j).anchors)
    (meets.limited.low j low) all refl (meets.anchors j low) (meets.fits j low)

pub small_plv : (origin : Plain) {style : Style} (c : Now) → Meets origin style c → (j : ℕ) → j < origin.load.streams → slice_index c.core.plv j < 2 ^ 62
small_plv origin c meets j low =
    let behind : slice_index c.core.plv j ≤ slice_index c.core.ends j = (reached_invariant origin c.core meets.reached).agrees.good.good.order.behind j in
    let ends = small_end origin c meets j low in
    omega (arith, behind, ends)

pub small_gathered : (origin : Plain) {style : Style} (c : Now) → Meets origin style c → (j : ℕ) → j < origin.load.streams → slice_index c.core.gathered j < 2 ^ 62
small_gathered origin c meets j low =
    let behind : slice_index c.core.gathered j ≤ slice_index c.core.ends j = (reached_invariant origin c.core meets.reached).agrees.good.gathered j in
    let ends = small_end origin c meets j low in
    omega (arith, behind, ends)

-- the stream whose persisted position is this word
stream_at : (origin o : Plain) (j i : ℕ) → Some origin ≡ Some o → plv_word origin.load j ≡ plv_word o.load i → i ≡ j
stream_at origin o j i e at =
    let same : origin ≡ o = one_origin origin o e in
    let b : plv_word o.load i ≡ plv_word origin.load i = ap (λ (x : Plain). plv_word x.load i) (sym same) in
    let d : plv_word origin.load j ≡ plv_word origin.load i = at ∙ b in
    omega arith

-- any seat loads the persisted position of a stream
pub loads_plv : (origin : Plain) {style : Style} (id j : ℕ) (m : Sat) (st : Step (Option Part)) → m.0.opened ≡ Some origin → j < origin.load.streams → st.word ≡ plv_word origin.load j → Allows (Rule origin style) (part_count origin.load) id m (plv_word origin.load j) (λ n. n) (looked st m)
loads_plv origin {style} id j m st opened low word =
    loads_word (IsPart origin.load) (IsRole origin.load) (word_of origin.load) hand_of has (Sees origin) (Meets origin style) (part_count origin.load) (origin.load.streams + origin.load.streams + 1) id (origin.load.streams + j) m.0 m.1 (omega arith)
    (λ n. sees_to j n m.0) (λ n. refl) (λ n u. refl)
    (λ c meets h. subst (λ (n : ℕ). Sees origin c (sees_to j n m.0)) (sym (word_plv origin j c low)) (seen_more origin c m.0 j h))
    (looked st m)
    (λ c meets h o its i at.
    let is = word_plv origin j c low in
    let same : i ≡ j = stream_at origin o j i (sym opened ∙ its) (sym word ∙ at) in
    let me : Sat = (sees_to j (word_of origin.load (origin.load.streams + j) c) m.0, m.1) in
    subst (λ (z : ℕ). (slice_index m.0.seen z ≤ word_of origin.load (origin.load.streams + j) c) × (word_of origin.load (origin.load.streams + j) c < 2 ^ 62) × (me ≡ (sees_to z (word_of origin.load (origin.load.streams + j) c) m.0, m.1))) (sym same)
    ((let b = h.low j in omega arith), (let b = small_plv origin c meets j low in omega arith), refl))

-- the stream and the position of a Persist
abbrev persisted_by : Event → ℕ × ℕ
persisted_by (Persist j upto) = (j, upto)
persisted_by _ = (0, 0)

module _ (origin : Plain) (j : ℕ) (m : Sat) (managed : Managed) (new : ℕ) (p : IsManager origin j m managed) (up : slice_index m.0.seen j ≤ new) (high : new ≤ managed.gathered) where
  -- what the manager has then
  abbrev role_then : Role
  role_then = record p.role { share = Managing (storing new managed) }

  abbrev view_then : Knows
  view_then = record (sees_to j new m.0) { roles = (manager_role origin.load j, role_then) ∷ [] }

  told_is : stores_to j new m.0 ≡ view_then
  told_is = λ i. record (sees_to j new m.0) { roles = ((first_role (p.roles i)).0, record (first_role (p.roles i)).1 { share = Managing (storing new ((ap (λ (r : List (ℕ × Role)). managed_in_share (first_role r).1.share) p.roles ∙ ap managed_in_share p.share) i)) }) ∷ [] }

  abbrev pub then_persisted : Now → Now
  then_persisted c = record { core = record c.core { plv = slice_set c.core.plv j new }; raised = c.raised; spare = c.spare; stored = at j (c.stored j ++ new ∷ []) c.stored }

  module _ {style : Style} (c : Now) (meets : Meets origin style c) (mine : IsRole origin.load (manager_role origin.load j) p.role c) (sees : Sees origin c m.0) where
    managing : (i : ℕ) × (manager_role origin.load j ≡ manager_role origin.load i) × (i < origin.load.streams) × IsManaged origin.load i managed c
    managing = subst (λ (x : Share). IsShare origin.load (manager_role origin.load j) x c) p.share mine.0

    gathered_is : slice_index c.core.gathered j ≡ managed.gathered
    gathered_is = subst (λ (z : ℕ). slice_index c.core.gathered z ≡ managed.gathered) (let e = managing.1 in omega arith) managing.3.gathered

    now_is : slice_index m.0.seen j ≡ slice_index c.core.plv j
    now_is = sees.own j p.role p.there (one_role m.0 (manager_role origin.load j) p.role p.roles)

    wide_plv : j < length c.core.plv
    wide_plv =
        let inv = reached_invariant origin c.core meets.reached in
        let count : length c.core.plv ≡ origin.load.streams = inv.agrees.good.count_plv in
        let low = p.there in
        omega arith

    leads : Leads (setting_of origin.load) (Persist j new) c.core (then_persisted c).core []
    leads = (
      record {
        there = p.there;
        going = meets.going j;
        low = (let e = now_is in omega arith);
        high = (let e = gathered_is in omega arith);
        after = refl;
      },
      refl,
    )

    parts_stay : (k : ℕ) (q : Part) → IsPart origin.load k q c → IsPart origin.load k q (then_persisted c)
    parts_stay k (part.Shard b) h = h
    parts_stay k (part.Outbox o b) h = h
    parts_stay k (part.Anchor number lv) h = h

    shares_stay : (u : ℕ) (x : Share) → (u ≡ manager_role origin.load j → ⊥) → IsShare origin.load u x c → IsShare origin.load u x (then_persisted c)
    shares_stay u (Working x) apart h = h
    shares_stay u (Managing g) apart h =
        let other : h.0 ≡ j → ⊥ = (λ e. apart (h.1 ∙ ap (manager_role origin.load) e)) in
        (h.0, h.1, h.2, record { moved = h.3.moved; gathered = h.3.gathered; anchors = h.3.anchors; own = h.3.own; stored = at_other j (c.stored j ++ new ∷ []) c.stored h.0 other ∙ h.3.stored })
    shares_stay u (Clerking acked) apart h = h

    managed_is : IsManaged origin.load j managed c
    managed_is = subst (λ (i : ℕ). IsManaged origin.load i managed c) (let e = managing.1 in omega arith) managing.3

    persist_managed : IsManaged origin.load j (storing new managed) (then_persisted c)
    persist_managed = record {
      moved = managed_is.moved;
      gathered = managed_is.gathered;
      anchors = managed_is.anchors;
      own = managed_is.own;
      stored = at_same j (c.stored j ++ new ∷ []) c.stored ∙ ap (λ (xs : List ℕ). xs ++ new ∷ []) managed_is.stored;
    }

    -- the list of the stream has the new position too
    has_persisted : HavePersisted (then_persisted c).stored (meets.reached.events ++ Persist j new ∷ [])
    has_persisted i upto m = elim (member_snoc meets.reached.events (Persist j new) (Persist i upto) m) [
      | inl was ↦ elim (cases_eq i j) [
        | inl is ↦ subst (λ (k : ℕ). Member upto (at j (c.stored j ++ new ∷ []) c.stored k)) (sym is)
            (subst (Member upto) (sym (at_same j (c.stored j ++ new ∷ []) c.stored)) (member_front upto (c.stored j) (new ∷ []) (subst (λ (k : ℕ). Member upto (c.stored k)) is (meets.stored i upto was))))
        | inr ne ↦ subst (Member upto) (sym (at_other j (c.stored j ++ new ∷ []) c.stored i ne)) (meets.stored i upto was)
      ]
      | inr same ↦
          let both : (j, new) ≡ (i, upto) = ap persisted_by same in
          subst (λ (p : ℕ × ℕ). Member p.1 (at j (c.stored j ++ new ∷ []) c.stored p.0)) both
          (subst (Member new) (sym (at_same j (c.stored j ++ new ∷ []) c.stored)) (member_last (c.stored j) new))
    ]

    rises : (i : ℕ) → slice_index c.core.plv i ≤ slice_index (slice_set c.core.plv j new) i
    rises i = elim (cases_eq i j) [
      | inl is ↦ subst (λ (z : ℕ). slice_index c.core.plv z ≤ slice_index (slice_set c.core.plv j new) z) (sym is) (let e = get_or-set_same c.core.plv j new 0 wide_plv in let n = now_is in omega arith)
      | inr ne ↦ (let e = get_or-set_other c.core.plv j i new 0 ne in omega arith)
    ]

    sight_stays : (v : Knows) → ((r : Role) → has (manager_role origin.load j) v ≡ Some r → ⊥) → Sees origin c v → Sees origin (then_persisted c) v
    sight_stays v lacks h = record {
      opened = h.opened;
      wide = h.wide;
      low = λ i. (let a = h.low i in let b = rises i in omega arith);
      own = λ i r lt e. elim (cases_eq i j) [
        | inl is ↦ absurd (lacks r (subst (λ (z : ℕ). has (manager_role origin.load z) v ≡ Some r) is e))
        | inr ne ↦ h.own i r lt e ∙ sym (get_or-set_other c.core.plv j i new 0 ne)
      ];
      read = h.read;
      found = h.found;
    }

    pub persist_turn : Turn origin style c (then_persisted c) (part_count origin.load) (manager_role origin.load j) role_then
    persist_turn = record {
      parts = λ k q low apart h. parts_stay k q h;
      mine = ((j, refl, p.there, persist_managed), mine.1, mine.2);
      others = λ u x apart h. (shares_stay u x.share apart h.0, h.1, h.2);
      sight = sight_stays;
      kept = record {
        reached = reached_on origin (Persist j new) c.core (then_persisted c).core [] meets.reached leads tt;
        stored = has_persisted;
        going = meets.going;
        fits = subst (λ (k : ℕ). (i : ℕ) → i < origin.load.streams → slice_index c.core.ends i ≤ slice_index origin.load.opening.ends i + LONGEST * k + MAX_ANCHOR * length (c.core.streams i).anchors) (sym (length-append meets.reached.joined [] ∙ add-zero (length meets.reached.joined))) meets.fits;
        anchors = meets.anchors;
        opened = meets.opened;
        limited = meets.limited;
        beyond = meets.beyond;
        shards = meets.shards;
        streams = meets.streams;
      };
    }

    own_sees : Sees origin (then_persisted c) view_then
    own_sees = record {
      opened = λ u r e. p.opened;
      wide = λ u r e. length-set m.0.seen j new ∙ sees.wide (manager_role origin.load j) p.role (one_role m.0 (manager_role origin.load j) p.role p.roles);
      low = λ i. elim (cases_eq i j) [
        | inl is ↦ subst (λ (z : ℕ). slice_index (slice_set m.0.seen j new) z ≤ slice_index (slice_set c.core.plv j new) z) (sym is)
            (let e = get_or-set_same c.core.plv j new 0 wide_plv in let f = get_or-set_same m.0.seen j new 0 wide_seen in omega arith)
        | inr ne ↦ (let e = get_or-set_other c.core.plv j i new 0 ne in let f = get_or-set_other m.0.seen j i new 0 ne in let a = sees.low i in omega arith)
      ];
      own = λ i r lt e. elim (cases_eq i j) [
        | inl is ↦ subst (λ (z : ℕ). slice_index (slice_set m.0.seen j new) z ≡ slice_index (slice_set c.core.plv j new) z) (sym is)
            (get_or-set_same m.0.seen j new 0 wide_seen ∙ sym (get_or-set_same c.core.plv j new 0 wide_plv))
        | inr ne ↦ absurd (ne (let a = alone (manager_role origin.load j) role_then (manager_role origin.load i) r e in omega arith))
      ];
      read = λ w r lt e. absurd (let a = alone (manager_role origin.load j) role_then w r e in omega arith);
      found = sees.found;
    }
      where
        wide_seen : j < length m.0.seen
        wide_seen = (let e = sees.wide (manager_role origin.load j) p.role (one_role m.0 (manager_role origin.load j) p.role p.roles) in let low = p.there in omega arith)

  words_same : (c : Now) (i : ℕ) → i < origin.load.streams + origin.load.streams + 1 → (i ≡ origin.load.streams + j → ⊥) → word_of origin.load i (then_persisted c) ≡ word_of origin.load i c
  words_same c i lt apart = elim (leb_tells (i + 1) origin.load.streams) [
    | inl low ↦ ap (λ (b : Bool). if i == origin.load.streams + origin.load.streams then number_if (is_raised (origin.load.workers + origin.load.streams + 1) c.raised) else (if b then slice_index c.core.ends i else slice_index (slice_set c.core.plv j new) (i - origin.load.streams))) low.0
        ∙ sym (ap (λ (b : Bool). if i == origin.load.streams + origin.load.streams then number_if (is_raised (origin.load.workers + origin.load.streams + 1) c.raised) else (if b then slice_index c.core.ends i else slice_index c.core.plv (i - origin.load.streams))) low.0)
    | inr high ↦
        let ne : i - origin.load.streams ≡ j → ⊥ = (λ e. let h = high.1 in apart (omega arith)) in
        ap (λ (n : ℕ). if i == origin.load.streams + origin.load.streams then number_if (is_raised (origin.load.workers + origin.load.streams + 1) c.raised) else (if nat_le (i + 1) origin.load.streams then slice_index c.core.ends i else n)) (get_or-set_other c.core.plv j (i - origin.load.streams) new 0 ne)
  ]

  -- the manager stores how far its disk is
  pub persists : {style : Style} (id : ℕ) (st : Step (Option Part)) → st.first ≡ new → st.word ≡ plv_word origin.load j → Allows (Rule origin style) (part_count origin.load) id m (plv_word origin.load j) (λ _. new) (λ _. stored st m new)
  persists {style} id st first word =
      words_step (IsPart origin.load) (IsRole origin.load) (word_of origin.load) hand_of has (Sees origin) (Meets origin style) (part_count origin.load) (origin.load.streams + origin.load.streams + 1) id (origin.load.streams + j) m.0 m.1 (manager_role origin.load j) p.role (let low = p.there in omega arith) (one_role m.0 (manager_role origin.load j) p.role p.roles)
      (λ _. new) (λ _. view_then) (λ _. role_then) (λ _. refl) (λ _. role_alone (manager_role origin.load j) role_then) (λ n u z h. alone (manager_role origin.load j) role_then u z h)
      (λ c meets mine sees. (
        then_persisted c,
        persist_turn c meets mine sees,
        own_sees c meets mine sees,
        word_plv origin j (then_persisted c) p.there ∙ get_or-set_same c.core.plv j new 0 (wide_plv c meets mine sees),
        words_same c,
      ))
      (λ _. stored st m new)
      (λ c meets mine sees o its i at.
      let same : i ≡ j = stream_at origin o j i (sym p.opened ∙ its) (sym word ∙ at) in
      ap (λ (v : Knows). (v, m.1)) (sym told_is) ∙ (λ k. (stores_to (sym same k) (sym first k) m.0, m.1)))

pub persists_as : (origin : Plain) {style : Style} (slots id j word new : ℕ) (m : Sat) (managed : Managed) → IsManager origin j m managed → slice_index m.0.seen j ≤ new → new ≤ managed.gathered → slots ≡ part_count origin.load → word ≡ plv_word origin.load j
    → Allows (Rule origin style) slots id m word (λ _. new) (λ _. stored (step slots word new 0 none) m new)
persists_as origin {style} slots id j word new m managed p up high es is =
    subst (λ (z : ℕ × ℕ). Allows (Rule origin style) z.0 id m z.1 (λ _. new) (λ _. stored (step z.0 z.1 new 0 none) m new)) (λ i. (sym es i, sym is i))
    (persists origin j m managed new p up high id (step (part_count origin.load) (plv_word origin.load j) new 0 none) refl refl)
