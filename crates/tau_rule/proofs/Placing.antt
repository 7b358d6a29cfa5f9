-- A call gets its place by adding to the word of its stream.
use Rattle.std.proofs.Common.{◌≡◌, ℕ, zero, ◌+◌, ◌-◌, ◌*◌, ◌%◌, ◌^◌, ◌<◌, ◌≤◌, ◌⊎◌, inl, inr, true, false, Bool, List, [], ◌∷◌, ◌++◌, Option, length, refl, sym, ap, ◌∙◌, subst, arith, length-append, get_or-set_same, get_or-set_other}
use Rattle.std.specs.Prelude.{None, Some, ◌==◌, if◌then◌else◌, replicate, slice_get, slice_index, slice_set, nat_le}
use Rattle.std.proofs.Math.Nat.{mod-eq_of_lt}
use Rattle.std.proofs.lemmas.Bool.{cases_eq, ne_eqb, le-leb}
use mathlib.Core.Option.{none}
use lib.ListN.{length-replicate}
use Rattle.atomic_table.specs.Table.{Step, step, Allows}
use Rattle.tau_shown.proofs.Steps.{words_step}
use Rattle.tau_base.specs.declared.limits.TheConstants.{MAX_CALLS}
use Rattle.tau_base.specs.Vectors.{join}
use Rattle.tau_model.specs.History.{Act, Numbered}
use Rattle.tau_machine.specs.Hands.{Txn, Hand, Placed, committed_of}
use Rattle.tau_machine.specs.Worker.{Worker, begun, begun_by, fresh, hand_joined}
use Rattle.tau_machine.specs.Shapes.{WorkerShape}
use Rattle.tau_machine.specs.State.{Core, Setting}
use Rattle.tau_machine.specs.Events.{Commit, Leads, with_worker}
use Rattle.tau_shard.proofs.At.{at_same, at_other}
use Rattle.tau_machine.proofs.Commits.{begun_committed}
use Rattle.tau_txn.specs.Read.{effect_in}
use Rattle.tau_txn.specs.Next.{act_at}
use Rattle.tau_txn.specs.Txn.{PlainTxn, RunsBy, hand_in, bytes_in, anchor_in}
use Rattle.tau_core.specs.State.{Plain}
use Rattle.tau_core.specs.View.{setting_of}
use Rattle.tau_rule.specs.Role.{Share, Working, Managing, Clerking, Role}
use Rattle.tau_core.specs.Pieces.{Names}
use Rattle.tau_occ.specs.declared.style.Style.{Style}
use Rattle.tau_rule.specs.Knows.{Knows}
use Rattle.tau_rule.specs.Rule.{Now, Rule, IsPart, IsShare, IsRole, Sees, Meets, MAX_ANCHOR, anchors_at, word_of, hand_of, has, part_count, manager_role, number_if, is_raised, LONGEST}
use Rattle.tau_rule.specs.Steps.{Sat, IsWorker, working, first_role, worker_in_share}
use Rattle.tau_rule.specs.Places.{IsToPlace, placed_by, placed_worker, placed, got_place}
use Rattle.tau_rule.specs.declared.part.Part.{Part}
use Rattle.tau_rule.specs.declared.part.Part.TheVariants as part
use Rattle.tau_rule.proofs.Turns.{reached_invariant, Turn, reached_on, stored_on, more, role_alone, alone, one_role, share_worker}
use Rattle.tau_rule.proofs.Numbers.{few_joined}
use Rattle.tau_base.proofs.Vectors.{join_none}
use Rattle.tau_core.proofs.CommitLeads.{join_zero}

-- the call in hand is the worker's
pub record IsAfter (origin : Plain) (w : ℕ) (m : Sat) (t : PlainTxn) : Type 0 where
  pub role : Role
  pub worker : Worker
  pub seat : IsWorker origin m w role
  pub share : role.share ≡ Working worker
  pub there : w < origin.load.workers
  pub number : t.worker ≡ w
  pub width : t.width ≡ origin.load.streams
  pub runs : RunsBy origin.load.procs t
  pub agrees : worker.hand ≡ hand_in origin.load.procs t

-- the anchor as the machine names it: none, or one of this run
record NamedSo (origin : Plain) (anchors : List (List ℕ)) (j number : ℕ) (dep base : List ℕ) : Type 0 where
  anchor : List ℕ
  named : ((number ≡ 0) × (anchor ≡ [])) ⊎ ((i : ℕ) × (number ≡ slice_index origin.load.opening.anchors.items j + i + 1) × (slice_get anchors i ≡ Some anchor))
  dep_is : join dep base ≡ join dep anchor

named_so : (origin : Plain) (anchors : List (List ℕ)) (j number : ℕ) (dep base : List ℕ) → length dep ≡ origin.load.streams → Names origin.load j anchors number base → NamedSo origin anchors j number dep base
named_so origin anchors j number dep base wide (inl e) = record {
  anchor = [];
  named = inl (e.0, refl);
  dep_is = ap (join dep) e.1 ∙ join_zero dep origin.load.streams wide ∙ sym (join_none dep);
}
named_so origin anchors j number dep base wide (inr e) = record { anchor = base; named = inr e; dep_is = refl }

names_of : (origin : Plain) (anchors : List (List ℕ)) (j number : ℕ) (base : List ℕ) (read : ℕ × List ℕ) → ((number ≡ 0) × (base ≡ replicate origin.load.streams 0)) ⊎ ((number ≡ read.0) × (base ≡ read.1)) → Names origin.load j anchors read.0 read.1 → Names origin.load j anchors number base
names_of origin anchors j number base read (inl e) known = inl e
names_of origin anchors j number base read (inr e) known = subst (λ (z : ℕ × List ℕ). Names origin.load j anchors z.0 z.1) (λ i. (sym e.0 i, sym e.1 i)) known

-- the words after the turns
pub word_alloc : (origin : Plain) (j : ℕ) (c : Now) → j < origin.load.streams → word_of origin.load j c ≡ slice_index c.core.ends j
word_alloc origin j c low =
    let a : (j == origin.load.streams + origin.load.streams) ≡ false = ne_eqb j (origin.load.streams + origin.load.streams) (λ e. omega arith) in
    let b : nat_le (j + 1) origin.load.streams ≡ true = le-leb (j + 1) origin.load.streams (omega arith) in
    ap (λ (z : Bool). if z then number_if (is_raised (origin.load.workers + origin.load.streams + 1) c.raised) else (if nat_le (j + 1) origin.load.streams then slice_index c.core.ends j else slice_index c.core.plv (j - origin.load.streams))) a
    ∙ ap (λ (z : Bool). if z then slice_index c.core.ends j else slice_index c.core.plv (j - origin.load.streams)) b

pub word_other : (origin : Plain) (j : ℕ) (c : Now) (s : Core) (past : ℕ) → s.plv ≡ c.core.plv → s.ends ≡ slice_set c.core.ends j past → (i : ℕ) → (i ≡ j → ⊥) → word_of origin.load i (record { core = s; raised = c.raised; spare = c.spare; stored = c.stored }) ≡ word_of origin.load i c
word_other origin j c s past plv ends i apart = λ k. if i == origin.load.streams + origin.load.streams then number_if (is_raised (origin.load.workers + origin.load.streams + 1) c.raised)
    else (if nat_le (i + 1) origin.load.streams then (ap (λ (v : List ℕ). slice_index v i) ends ∙ get_or-set_other c.core.ends j i past 0 apart) k else slice_index (plv k) (i - origin.load.streams))

-- the records and anchors of a stream end below 2^62
pub room : (e o a b r : ℕ) → o ≤ 2 ^ 61 → a ≤ MAX_CALLS → b ≡ MAX_ANCHOR * r → r < 2 ^ 32 → e ≤ o + LONGEST * a + b → e < 2 ^ 62
room e o a b r low few is anchors h = omega arith

grown : (now was o a b r size : ℕ) → now ≡ was + size → was ≤ o + LONGEST * a + r → b ≡ a + 1 → size ≤ LONGEST → now ≤ o + LONGEST * b + r
grown now was o a b r size is low next small = omega arith

-- a call in hand has a position for each stream, whether it had begun or begins
begun_wide : (set : Setting) (wk : Worker) (h : Hand) → WorkerShape set wk → (begun set.width wk).hand ≡ Some h → length h.dep ≡ set.width
begun_wide set wk h p e = by_case wk.hand wk.waiting refl e
  where
    by_case : (o : Option Hand) (cs : List Numbered) → wk.hand ≡ o → (begun_by set.width wk o cs).hand ≡ Some h → length h.dep ≡ set.width
    by_case (Some x) cs is f = (p.hand h f).1
    by_case None [] is f = (p.hand h f).1
    by_case None (c ∷ cs) is f =
        let same : fresh set.width c 0 ≡ h = cc in
        ap (λ (x : Hand). length x.dep) (sym same) ∙ length-replicate set.width zero

module _ (origin : Plain) (w : ℕ) (m : Sat) (t : PlainTxn) (p : IsToPlace origin w m t) where
  abbrev j : ℕ
  j = (setting_of origin.load).stream_of w

  abbrev raised_hand : Hand
  raised_hand = record p.hand { dep = join p.hand.dep p.base }

  -- the state after the place
  abbrev pub then_placed : Now → Now
  then_placed c = record {
    core = record (with_worker c.core w (placed_worker origin.load p.worker t (slice_index c.core.ends j))) { ends = slice_set c.core.ends j (slice_index c.core.ends j + length (bytes_in t)) };
    raised = c.raised;
    spare = c.spare;
    stored = c.stored;
  }

  abbrev act : Now → Act Txn
  act c = act_at origin.load.procs t (slice_index c.core.ends j) raised_hand

  module _ {style : Style} (c : Now) (meets : Meets origin style c) (mine : c.core.workers w ≡ p.worker) (sees : Sees origin c m.0) where
    start : ℕ
    start = slice_index c.core.ends j

    wide_dep : length p.hand.dep ≡ origin.load.streams
    wide_dep = begun_wide (setting_of origin.load) p.worker p.hand (subst (WorkerShape (setting_of origin.load)) mine ((reached_invariant origin c.core meets.reached).shapes.workers w)) p.is

    so : NamedSo origin (anchors_at c.core j) j (anchor_in t) p.hand.dep p.base
    so = named_so origin (anchors_at c.core j) j (anchor_in t) p.hand.dep p.base wide_dep (names_of origin (anchors_at c.core j) j (anchor_in t) p.base m.0.read p.named (sees.read w p.role p.there (one_role m.0 w p.role p.seat.roles)))

    pub leads : Leads (setting_of origin.load) (Commit w) c.core (then_placed c).core (act c ∷ [])
    leads = (
      act c,
      record {
        hand = p.hand;
        effect = p.effect;
        number = anchor_in t;
        anchor = so.anchor;
        past = slice_index c.core.ends j + length (bytes_in t);
        is = ap (λ (x : Worker). (begun origin.load.streams x).hand) mine ∙ p.is;
        phase = p.phase;
        ended = p.ended;
        locked = p.locked;
        updates = p.updates;
        named = so.named;
        past_start = (let e = p.size_low in omega arith);
        act = λ i. record {
          call = record {
            call = p.hand.call;
            worker = p.number i;
            place = record { stream = (p.number i) % (p.width i); start = slice_index c.core.ends j; past = slice_index c.core.ends j + length (bytes_in t); dep = so.dep_is i };
            anchor = anchor_in t;
          };
          effect = ap effect_in p.ended i;
        };
        after =
            (λ i. record (with_worker c.core w (placed_by origin.load (begun origin.load.streams p.worker) t (slice_index c.core.ends j) (p.shown i))) { ends = slice_set c.core.ends j (slice_index c.core.ends j + length (bytes_in t)) })
            ∙ (λ i. record (with_worker c.core w (record (begun origin.load.streams (sym mine i)) { hand = Some (hand_joined p.hand (Placed (act c)) (act c).call.place.dep); committed = (begun_committed origin.load.streams p.worker ∙ ap (λ (x : Worker). x.committed) (sym mine)) i ++ committed_of (act c) ∷ [] }))
            { ends = slice_set c.core.ends j (slice_index c.core.ends j + length (bytes_in t)) });
      },
      refl,
    )

    -- the placed end of the stream is a word, and no word wraps
    small : slice_index c.core.ends j + length (bytes_in t) < 2 ^ 62
    small =
        let low : j < origin.load.streams = meets.reached.run.opens.small w in
        let went = reached_on origin (Commit w) c.core (then_placed c).core (act c ∷ []) meets.reached leads tt in
        let few = few_joined origin (then_placed c).core went in
        let more_by : length (meets.reached.joined ++ act c ∷ []) ≡ length meets.reached.joined + 1 = length-append meets.reached.joined (act c ∷ []) in
        let size = p.size_high in
        let calls = meets.limited.few in
        room (slice_index c.core.ends j + length (bytes_in t)) (slice_index origin.load.opening.ends j) (length meets.reached.joined + 1) (MAX_ANCHOR * length (c.core.streams j).anchors) (length (c.core.streams j).anchors)
        (meets.limited.low j low) (let f : length (meets.reached.joined ++ act c ∷ []) ≤ length origin.load.calls = few in omega arith) refl (meets.anchors j low) (let f = meets.fits j low in omega arith)

    wide : j < length c.core.ends
    wide =
        let low : j < origin.load.streams = meets.reached.run.opens.small w in
        let inv = reached_invariant origin c.core meets.reached in
        let count : length c.core.ends ≡ origin.load.streams = inv.agrees.good.good.order.count in
        omega arith

    parts_stay : (k : ℕ) (q : Part) → IsPart origin.load k q c → IsPart origin.load k q (then_placed c)
    parts_stay k (part.Shard b) h = h
    parts_stay k (part.Outbox o b) h = h
    parts_stay k (part.Anchor number lv) h = h

    shares_stay : (u : ℕ) (x : Share) → (u ≡ w → ⊥) → IsShare origin.load u x c → IsShare origin.load u x (then_placed c)
    shares_stay u (Working x) apart h = (h.0, at_other w (placed_worker origin.load p.worker t (slice_index c.core.ends j)) c.core.workers u apart ∙ h.1)
    shares_stay u (Managing g) apart h = (h.0, h.1, h.2, record { moved = h.3.moved; gathered = h.3.gathered; anchors = h.3.anchors; own = h.3.own; stored = h.3.stored })
    shares_stay u (Clerking acked) apart h = h

    sight_stays : (v : Knows) → Sees origin c v → Sees origin (then_placed c) v
    sight_stays v h = record { opened = h.opened; wide = h.wide; low = h.low; own = h.own; read = h.read; found = h.found }

    fits_on : (i : ℕ) → i < origin.load.streams → slice_index (slice_set c.core.ends j (slice_index c.core.ends j + length (bytes_in t))) i ≤ slice_index origin.load.opening.ends i + LONGEST * length (meets.reached.joined ++ act c ∷ []) + MAX_ANCHOR * length (c.core.streams i).anchors
    fits_on i low = elim (cases_eq i j) [
      | inl is ↦ subst (λ (z : ℕ). slice_index (slice_set c.core.ends j (slice_index c.core.ends j + length (bytes_in t))) z ≤ slice_index origin.load.opening.ends z + LONGEST * length (meets.reached.joined ++ act c ∷ []) + MAX_ANCHOR * length (c.core.streams z).anchors) (sym is)
          (let here = get_or-set_same c.core.ends j (slice_index c.core.ends j + length (bytes_in t)) 0 wide in
          let f = meets.fits j (meets.reached.run.opens.small w) in
          let a = length-append meets.reached.joined (act c ∷ []) in
          let size = p.size_high in
          grown _ _ _ _ _ _ _ here f a size)
      | inr ne ↦ (let there = get_or-set_other c.core.ends j i (slice_index c.core.ends j + length (bytes_in t)) 0 ne in
          let f = more (slice_index c.core.ends i) (slice_index origin.load.opening.ends i) (length meets.reached.joined) (length (meets.reached.joined ++ act c ∷ [])) (MAX_ANCHOR * length (c.core.streams i).anchors) (meets.fits i low) (let a = length-append meets.reached.joined (act c ∷ []) in omega arith) in
          subst (λ (z : ℕ). z ≤ slice_index origin.load.opening.ends i + LONGEST * length (meets.reached.joined ++ act c ∷ []) + MAX_ANCHOR * length (c.core.streams i).anchors) (sym there) f)
    ]

    pub kept : Meets origin style (then_placed c)
    kept = record {
      reached = reached_on origin (Commit w) c.core (then_placed c).core (act c ∷ []) meets.reached leads tt;
      stored = stored_on c.stored meets.reached.events (Commit w) meets.stored tt;
      going = meets.going;
      fits = fits_on;
      anchors = meets.anchors;
      opened = meets.opened;
      limited = meets.limited;
      beyond = λ u low. at_other w (placed_worker origin.load p.worker t (slice_index c.core.ends j)) c.core.workers u (λ e. let b = p.there in omega arith) ∙ meets.beyond u low;
      shards = meets.shards;
      streams = meets.streams;
    }

    pub place_turn : c.raised w ≡ p.role.raised → c.spare w ≡ p.role.spare → Turn origin style c (then_placed c) (part_count origin.load) w (working p.role (placed_worker origin.load p.worker t (slice_index c.core.ends j)))
    place_turn raised spare = record {
      parts = λ k q low apart h. parts_stay k q h;
      mine = ((p.there, at_same w (placed_worker origin.load p.worker t (slice_index c.core.ends j)) c.core.workers), raised, spare);
      others = λ u x apart h. (shares_stay u x.share apart h.0, h.1, h.2);
      sight = λ v none h. sight_stays v h;
      kept = kept;
    }

  -- what the seat knows then
  abbrev pub knows_then : ℕ → Knows
  knows_then start = record m.0 { roles = (w, working p.role (placed_worker origin.load p.worker t start)) ∷ [] }

  knows_sees : (c : Now) (start : ℕ) → Sees origin c m.0 → Sees origin c (knows_then start)
  knows_sees c start h = record {
    opened = λ u r e. p.seat.opened;
    wide = λ u r e. h.wide w p.role (one_role m.0 w p.role p.seat.roles);
    low = h.low;
    own = λ i r lt e. absurd (let a = alone w (working p.role (placed_worker origin.load p.worker t start)) (manager_role origin.load i) r e in let b = p.there in omega arith);
    read = λ u r lt e. subst (λ (n : ℕ). n < origin.load.workers → Names origin.load ((setting_of origin.load).stream_of n) (anchors_at c.core ((setting_of origin.load).stream_of n)) m.0.read.0 m.0.read.1)
        (sym (alone w (working p.role (placed_worker origin.load p.worker t start)) u r e)) (λ q. h.read w p.role q (one_role m.0 w p.role p.seat.roles)) lt;
    found = h.found;
  }

  abbrev size : ℕ
  size = length (bytes_in t)

  pub places : {style : Style} (id : ℕ) (st : Step (Option Part)) → st.first ≡ length (bytes_in t) → j < origin.load.streams → Allows (Rule origin style) (part_count origin.load) id m (8 * (part_count origin.load + j)) (λ n. (n + length (bytes_in t)) % 2 ^ 64) (got_place knows_then st m)
  places {style} id st first low =
      words_step (IsPart origin.load) (IsRole origin.load) (word_of origin.load) hand_of has (Sees origin) (Meets origin style) (part_count origin.load) (origin.load.streams + origin.load.streams + 1) id j m.0 m.1 w p.role (omega arith) (one_role m.0 w p.role p.seat.roles)
      (λ n. (n + length (bytes_in t)) % 2 ^ 64) knows_then (λ start. working p.role (placed_worker origin.load p.worker t start)) (λ start. refl) (λ start. role_alone w (working p.role (placed_worker origin.load p.worker t start)))
      (λ start u z h. alone w (working p.role (placed_worker origin.load p.worker t start)) u z h)
      (λ c meets mine sees.
      let worker = share_worker origin w p.role.share p.worker c p.share mine.0 in
      let is : word_of origin.load j c ≡ slice_index c.core.ends j = word_alloc origin j c low in
      let less = small c meets worker.1 sees in (
        then_placed c,
        subst (λ (n : ℕ). Turn origin style c (then_placed c) (part_count origin.load) w (working p.role (placed_worker origin.load p.worker t n))) (sym is) (place_turn c meets worker.1 sees mine.1 mine.2),
        knows_sees (then_placed c) (word_of origin.load j c) (sight_stays c meets worker.1 sees m.0 sees),
        word_alloc origin j (then_placed c) low ∙ get_or-set_same c.core.ends j (slice_index c.core.ends j + length (bytes_in t)) 0 (wide c meets worker.1 sees)
            ∙ sym (mod-eq_of_lt (omega arith)) ∙ ap (λ (n : ℕ). (n + length (bytes_in t)) % 2 ^ 64) (sym is),
        (λ i lt apart. word_other origin j c (then_placed c).core (slice_index c.core.ends j + length (bytes_in t)) refl refl i apart),
      ))
      (got_place knows_then st m)
      (λ c meets mine sees.
      let worker = share_worker origin w p.role.share p.worker c p.share mine.0 in
      let is : word_of origin.load j c ≡ slice_index c.core.ends j = word_alloc origin j c low in
      let less = small c meets worker.1 sees in
      (refl, omega (arith, is, first, less)))

  pub placed_is : (start : ℕ) → placed origin.load m.0 t start ≡ knows_then start
  placed_is start = λ i. record m.0 { roles = ((first_role (p.seat.roles i)).0, working (first_role (p.seat.roles i)).1 (placed_worker origin.load ((ap (λ (r : List (ℕ × Role)). worker_in_share (first_role r).1.share) p.seat.roles ∙ ap worker_in_share p.share) i) t start)) ∷ [] }

pub places_as : (origin : Plain) {style : Style} (slots id w k size word : ℕ) (me : Sat) (t : PlainTxn) (p : IsToPlace origin w me t) (told : ℕ → Knows) → slots ≡ part_count origin.load → k ≡ w % origin.load.streams → k < origin.load.streams → word ≡ 8 * (part_count origin.load + k) → size ≡ length (bytes_in t) → told ≡ placed origin.load me.0 t
    → Allows (Rule origin style) slots id me word (λ n. (n + size) % 2 ^ 64) (got_place told (step slots word size 0 none) me)
places_as origin {style} slots id w k _ word me t p told es is low at_word sized same =
    let knows : told ≡ knows_then origin w me t p = same ∙ (λ i start. placed_is origin w me t p start i) in
    let at' : word ≡ 8 * (part_count origin.load + w % origin.load.streams) = at_word ∙ ap (λ (z : ℕ). 8 * (part_count origin.load + z)) is in
    subst (λ (z : ℕ × ℕ × ℕ × (ℕ → Knows)). Allows (Rule origin style) z.0 id me z.1 (λ n. (n + z.2) % 2 ^ 64) (got_place z.3 (step z.0 z.1 z.2 0 none) me)) (λ i. (sym es i, sym at' i, sym sized i, sym knows i))
    (places origin w me t p id (step (part_count origin.load) (8 * (part_count origin.load + w % origin.load.streams)) (length (bytes_in t)) 0 none) refl (subst (λ (z : ℕ). z < origin.load.streams) is low))

-- the call in hand has its place
pub placed_after : (origin : Plain) (w : ℕ) (m : Sat) (t t' : PlainTxn) (start : ℕ) (p : IsToPlace origin w m t) → t'.worker ≡ t.worker → t'.width ≡ t.width → RunsBy origin.load.procs t' →
    ((h : Hand) → hand_in origin.load.procs t ≡ Some h → hand_in origin.load.procs t' ≡ Some (hand_joined h (Placed (act_at origin.load.procs t start h)) h.dep)) → IsAfter origin w (placed origin.load m.0 t start, m.1) t'
placed_after origin w m t t' start p number width runs shown =
    subst (λ (v : Knows). IsAfter origin w (v, m.1) t') (sym (placed_is origin w m t p start)) (record {
      role = working p.role (placed_worker origin.load p.worker t start);
      worker = placed_worker origin.load p.worker t start;
      seat = record { opened = p.seat.opened; roles = refl; idle = p.seat.idle; none = p.seat.none };
      share = refl;
      there = p.there;
      number = number ∙ p.number;
      width = width ∙ p.width;
      runs = runs;
      agrees = ap (λ (o : Option Hand). (placed_by origin.load (begun origin.load.streams p.worker) t start o).hand) p.shown ∙ sym (shown (record p.hand { dep = join p.hand.dep p.base }) p.shown);
    })
