-- The slots of a core that has just opened have its parts, and the head has what its actors have.
use Rattle.std.proofs.Common.{ℕ, zero, suc, ◌+◌, ◌-◌, ◌*◌, ◌^◌, ◌<◌, ◌≤◌, ◌==◌, ◌≡◌, inl, inr, cond, true, false, Bool, List, [], ◌∷◌, ◌++◌, length, refl, sym, ap, subst, ◌∙◌, Option, arith, eq-eqb, ne_eqb, length-append}
use Rattle.std.specs.Prelude.{Some, None, is_some, if◌then◌else◌, replicate, slice_get, slice_index}
use Rattle.std.proofs.lemmas.Bool.{cases_eq}
use Rattle.std.proofs.lemmas.Bool.Decides.{leb_tells}
use Rattle.std.proofs.lemmas.Option.{slice_get_within}
use lib.ListN.{length-replicate}
use Rattle.tau_base.specs.declared.limits.TheConstants.{MAX_CATALOGUE, SHARDS}
use Rattle.tau_model.specs.declared.committed.Committed.{Committed}
use Rattle.tau_outbox.specs.declared.Piece.{Piece}
use Rattle.tau_shard.specs.Plain.{PlainShard}
use Rattle.tau_shard.specs.Read.{shard_of}
use Rattle.tau_txn.specs.Hand.{PlainHand}
use Rattle.tau_txn.specs.Txn.{hand_in, held_by, joined_of}
use Rattle.tau_txn.specs.Next.{next_action, next_of}
use Rattle.tau_txn.specs.declared.action.Action.TheVariants as action
use Rattle.tau_core.specs.Plain.{PlainSeat, PlainStream}
use Rattle.tau_core.specs.State.{Plain}
use Rattle.tau_core.specs.declared.opening.Opening.{Opening}
use Rattle.tau_core.specs.Opens.{IsFresh, Opened, catalogue_size, nothing}
use Rattle.tau_core.specs.Pieces.{IsPieceOf, Paired}
use Rattle.tau_core.specs.View.{anchors_in, committed_by, core_of, pending_in, seat_worker, shard_in, tickets, worker_at, worker_in}
use Rattle.tau_occ.specs.declared.style.Style.{Style}
use Rattle.tau_rule.specs.declared.part.Part.{Part}
use Rattle.tau_rule.specs.declared.part.Part.TheVariants as part
use Rattle.tau_rule.specs.First.{clerk_share, first_view, manager_share, outer_share, role_at, roles_below, share_at, worker_share}
use Rattle.tau_rule.specs.Role.{role_in}
use Rattle.tau_rule.specs.Rule.{IsPart, Rule, anchors_at, number_if, part_count, word_of}
use Rattle.atomic_table.specs.Table.{opening}
use Rattle.tau_rule.proofs.Opening.{begins, limited, now, none_raised}
use Rattle.tau_desk.proofs.Closing.{word_ends, word_plv}
use Rattle.tau_desk.specs.Close.{IsBoxOf, IsShardOf}
use Rattle.tau_desk.specs.Ends.{AreResting}
use Rattle.tau_desk.specs.Laid.{AreUnbegun, AreFirstWords, AreLaid, EachOf, HasAnchor, HasBox, HasShard, IsFirstAnchor, IsItsStock, IsItsWork, stock_at, work_of}
use Rattle.tau_desk.specs.Seats.{HasClerk, HasStock, HasWork, IsHead, PlainHead}
use Rattle.tau_desk.specs.Shares.{PlainStock, PlainWork}
use Rattle.tau_desk.specs.declared.mark.Mark.{Mark}
use Rattle.tau_desk.proofs.Slots.{got_elem}
use Rattle.tau_core.proofs.Firsts.{none_some}
use Rattle.tau_base.proofs.Lists.{some_at, got_front, get_behind}

-- the role of this number is among those below n
pub role_below : (origin : Plain) (n u : ℕ) → u < n → role_in u (roles_below origin n) ≡ Some (role_at origin u)
role_below origin zero u lt = absurd (omega arith)
role_below origin (suc n) u lt = elim (cases_eq n u) [
  | inl is ↦ ap (λ b. cond b (Some (role_at origin n)) (role_in u (roles_below origin n))) (eq-eqb n u is) ∙ ap (λ (k : ℕ). Some (role_at origin k)) is
  | inr ne ↦ ap (λ b. cond b (Some (role_at origin n)) (role_in u (roles_below origin n))) (ne_eqb n u ne) ∙ role_below origin n u (omega (arith, lt, ne))
]

none_paired : {B : Type 0} (R : Piece → B → Type 0) (xs : List Piece) → Paired R xs [] → xs ≡ []
none_paired R [] h = refl
none_paired R (x ∷ xs) h = absurd h

-- nothing is posted of a call that is not in hand
no_post : (o : Option PlainHand) → o ≡ None → next_of o ≡ action.Post → ⊥
no_post None e h = (let bad : action.Nothing ≡ action.Post = h in cc)
no_post (Some x) e h = (let bad : Some x ≡ None = e in cc)

module _ (origin : Plain) (q : Opened origin.load origin) where
  shard_part : (k : ℕ) → k < SHARDS → (x : PlainShard) → slice_get origin.shards k ≡ Some x → (p : Part) → IsShardOf p x → IsPart origin.load k p (now origin q)
  shard_part k low x e (part.Shard b) h = (low, ap shard_in e ∙ ap shard_of (sym h))
  shard_part k low x e (part.Outbox o p) h = absurd h
  shard_part k low x e (part.Anchor number lv) h = absurd h

  box_part : (w k : ℕ) → k ≡ SHARDS + w → w < origin.load.workers → (x : PlainSeat) → slice_get origin.seats w ≡ Some x → (p : Part) → IsBoxOf p x → IsPart origin.load k p (now origin q)
  box_part w k at low x e (part.Shard b) h = absurd h
  box_part w k at low x e (part.Outbox o p) h = (
    w,
    at,
    low,
    record {
      posted = (let none : x.outbox.pieces ≡ [] = none_paired (IsPieceOf origin.load (anchors_at (core_of origin nothing))) x.outbox.pieces (q.stands.posted w x e) in
          subst (λ (l : List Piece). Paired (IsPieceOf origin.load (anchors_at (core_of origin nothing))) l []) (sym none ∙ ap (λ z. z.pieces) h.0) tt);
      pending = ap pending_in e ∙ ap (λ z. tickets z.calls) h.1;
    },
    omega arith,
    omega arith,
  )
  box_part w k at low x e (part.Anchor number lv) h = absurd h

  part_of_anchor : (j k : ℕ) → k ≡ SHARDS + origin.load.workers + j → j < origin.load.streams → (n : ℕ) → n ≡ origin.load.streams → (p : Part) → IsFirstAnchor n p → IsPart origin.load k p (now origin q)
  part_of_anchor j k at low n is (part.Shard b) h = absurd h
  part_of_anchor j k at low n is (part.Outbox o p) h = absurd h
  part_of_anchor j k at low n is (part.Anchor number lv) h = (j, at, low, inl (h.0, h.1 ∙ ap (λ (m : ℕ). replicate m 0) is), ap length h.1 ∙ length-replicate n 0 ∙ is)

  module _ (n : ℕ) (wide : n ≡ origin.load.streams) (shards boxes anchors : List (Option Part)) (a : EachOf HasShard origin.shards shards) (b : EachOf HasBox origin.seats boxes) (c : EachOf (HasAnchor n) origin.streams anchors) where
    abbrev pub slots : List (Option Part)
    slots = (shards ++ boxes) ++ anchors

    shard_count : length shards ≡ SHARDS
    shard_count = a.count ∙ q.stands.sound.shards

    box_count : length boxes ≡ origin.load.workers
    box_count = b.count ∙ q.stands.sound.seats

    anchor_count : length anchors ≡ origin.load.streams
    anchor_count = c.count ∙ q.stands.sound.streams

    front_count : length (shards ++ boxes) ≡ SHARDS + origin.load.workers
    front_count = (let e = length-append shards boxes in let f = shard_count in let g = box_count in omega (arith, e, f, g))

    pub slot_count : length slots ≡ part_count origin.load
    slot_count = (let e = length-append (shards ++ boxes) anchors in let f = front_count in let g = anchor_count in omega (arith, e, f, g))

    abbrev AtHome : ℕ → Type 0
    AtHome k = (p : Part) × (slice_get slots k ≡ Some (Some p)) × IsPart origin.load k p (now origin q)

    shard_at : (k : ℕ) → k < SHARDS → AtHome k
    shard_at k low =
        let y = some_at shards k (let f = shard_count in omega (arith, f, low)) in
        let h = a.each k y.0 y.1 in
        let x = h.0 in
        let p = h.2.0 in
        (p, got_front (shards ++ boxes) anchors k (Some p) (got_front shards boxes k (Some p) (y.1 ∙ ap Some h.2.1)), shard_part k low x h.1 p h.2.2)

    box_at : (w : ℕ) → w < origin.load.workers → AtHome (SHARDS + w)
    box_at w low =
        let y = some_at boxes w (let f = box_count in omega (arith, f, low)) in
        let h = b.each w y.0 y.1 in
        let x = h.0 in
        let p = h.2.0 in
        let at : slice_get (shards ++ boxes) (SHARDS + w) ≡ Some (Some p) = ap (λ (m : ℕ). slice_get (shards ++ boxes) (m + w)) (sym shard_count) ∙ get_behind shards boxes w ∙ y.1 ∙ ap Some h.2.1 in
        (p, got_front (shards ++ boxes) anchors (SHARDS + w) (Some p) at, box_part w (SHARDS + w) refl low x h.1 p h.2.2)

    anchor_at : (j : ℕ) → j < origin.load.streams → AtHome (SHARDS + origin.load.workers + j)
    anchor_at j low =
        let y = some_at anchors j (let f = anchor_count in omega (arith, f, low)) in
        let h = c.each j y.0 y.1 in
        let p = h.2.0 in
        let at : slice_get slots (SHARDS + origin.load.workers + j) ≡ Some (Some p) = ap (λ (m : ℕ). slice_get slots (m + j)) (sym front_count) ∙ get_behind (shards ++ boxes) anchors j ∙ y.1 ∙ ap Some h.2.1 in
        (p, at, part_of_anchor j (SHARDS + origin.load.workers + j) refl low n wide p h.2.2)

    pub slot_at : (k : ℕ) → k < part_count origin.load → AtHome k
    slot_at k high = elim (leb_tells (k + 1) SHARDS) [
      | inl low ↦ shard_at k (let h = low.1 in omega (arith, h))
      | inr up ↦ elim (leb_tells (k + 1) (SHARDS + origin.load.workers)) [
        | inl low ↦ (let u = up.1 in let h = low.1 in let e : SHARDS + (k - SHARDS) ≡ k = omega (arith, u) in subst AtHome e (box_at (k - SHARDS) (omega (arith, u, h))))
        | inr far ↦ (let h = far.1 in let e : SHARDS + origin.load.workers + (k - (SHARDS + origin.load.workers)) ≡ k = omega (arith, h) in
            subst AtHome e (anchor_at (k - (SHARDS + origin.load.workers)) (omega (arith, h, high))))
      ]
    ]

  -- what the head has
  work_is : (w : ℕ) (x : PlainSeat) (room : ℕ) → w < origin.load.workers → slice_get origin.seats w ≡ Some x → HasWork origin (first_view origin) w (work_of x room)
  work_is w x room low e =
      let g = q.stands.sound.seat w x e in
      let cs : List Committed = committed_by origin.load.workers w origin.committed in
      let shown : hand_in origin.load.procs x.txn ≡ None = sym (ap (λ (s : Option PlainSeat). (worker_in origin.load s cs).hand) e) ∙ q.opening.hands w in
      let none : x.txn.hand ≡ None = none_some x.txn.hand (g.txn.stays ∙ ap is_some shown) in
      let empty : cs ≡ [] = ap (λ (s : Option PlainSeat). (worker_in origin.load s cs).committed) (sym e) ∙ q.opening.committed w in
      let lacks : is_some x.txn.hand ≡ true → ⊥ = λ h. (let bad : false ≡ true = sym (ap is_some none) ∙ h in cc) in
      let quiet : next_action x.txn ≡ action.Post → ⊥ = λ h. no_post x.txn.hand none h in
      let no_mark : (k : Mark) → None ≡ Some k → ⊥ = λ k h. cc in
      record {
        role = role_at origin w;
        is = role_below origin (origin.load.workers + origin.load.streams + 1) w (omega (arith, low));
        work = record {
          worker = worker_at origin w;
          share = (let t = leb_tells (w + 1) origin.load.workers in elim t [
            | inl a ↦ ap (λ (b : Bool). if b then worker_share origin w else outer_share origin w) a.0
            | inr b ↦ absurd (let h = b.1 in omega (arith, h, low))
          ]);
          there = low;
          shows = ap (λ (s : Option PlainSeat). worker_in origin.load s cs) e ∙ ap (seat_worker origin.load x) empty;
          fits = record {
            worker = g.txn.worker;
            width = g.txn.width;
            mode = g.txn.mode;
            runs = g.txn.runs;
            stays = g.txn.stays;
            call = g.txn.call;
            low = g.store.low;
            high = g.store.high;
            again = g.store.again;
            mark = λ k h. absurd (no_mark k h);
            left = g.store.left;
            leaves = λ h. absurd (lacks h);
            ends = λ h. absurd (lacks h);
            posts = λ h. absurd (quiet h);
            commits = λ h _. absurd (lacks h);
          };
          spare = refl;
        };
        rests = quiet;
      }

  -- no worker has begun a call
  pub all_unbegun : (works : List (Option PlainWork)) → EachOf IsItsWork origin.seats works → AreUnbegun works
  all_unbegun works a w o e =
      let h = a.each w (Some o) e in
      let x : PlainSeat = h.0 in
      let same : o ≡ work_of x h.2.0 = inside o (work_of x h.2.0) h.2.1 in
      let cs : List Committed = committed_by origin.load.workers w origin.committed in
      let shown : hand_in origin.load.procs x.txn ≡ None = sym (ap (λ (s : Option PlainSeat). (worker_in origin.load s cs).hand) h.1) ∙ q.opening.hands w in
      let none : x.txn.hand ≡ None = none_some x.txn.hand ((q.stands.sound.seat w x h.1).txn.stays ∙ ap is_some shown) in
      (ap (λ (y : PlainWork). y.txn.hand) same ∙ none, ap (λ (y : PlainWork). y.mark) same)
    where
      inside : (y z : PlainWork) → Some y ≡ Some z → y ≡ z
      inside y z f = cc f

  stock_is : ((i : ℕ) → i < origin.load.streams → slice_index origin.load.opening.ends i ≤ 2 ^ 61) → (j : ℕ) (x : PlainStream) (room end : ℕ) → j < origin.load.streams → slice_get origin.streams j ≡ Some x → end ≡ slice_index origin.ends j → HasStock origin (first_view origin) j (stock_at x end room)
  stock_is short j x room end low e is =
      let none : [] ≡ x.anchors = sym (q.opening.anchors j) ∙ ap anchors_in e in
      let u : ℕ = origin.load.workers + j in
      let up : share_at origin u ≡ manager_share origin u = elim (leb_tells (u + 1) origin.load.workers) [
        | inl a ↦ absurd (let h = a.1 in omega (arith, h))
        | inr b ↦ ap (λ (z : Bool). if z then worker_share origin u else outer_share origin u) b.0 ∙ elim (leb_tells (u + 1) (origin.load.workers + origin.load.streams)) [
          | inl a ↦ ap (λ (z : Bool). if z then manager_share origin u else clerk_share origin) a.0
          | inr c ↦ absurd (let h = c.1 in omega (arith, h, low))
        ]
      ] in
      let back : u - origin.load.workers ≡ j = omega arith in
      record {
        role = role_at origin u;
        is = role_below origin (origin.load.workers + origin.load.streams + 1) u (omega (arith, low));
        stock = record {
          managed = record { taken = []; gathered = slice_index origin.load.opening.ends (u - origin.load.workers); anchors = []; own = []; stored = [] };
          share = up;
          there = low;
          anchors = none;
          own = sym (none_paired (IsPieceOf origin.load (anchors_at (core_of origin nothing))) x.own.pieces (q.stands.own j x e));
          small = (let s = short j low in let e = ap (λ (v : List ℕ). slice_index v j) q.opening.ends in omega (arith, s, e, is));
          gathered = ap (slice_index origin.load.opening.ends) back ∙ ap (λ (v : List ℕ). slice_index v j) (sym q.opening.ends) ∙ sym is;
          wide = (q.stands.sound.wide j x e).0;
        };
      }

  clerk_is_there : HasClerk origin (first_view origin)
  clerk_is_there =
      let u : ℕ = origin.load.workers + origin.load.streams in
      record {
        role = role_at origin u;
        acked = replicate origin.load.workers [];
        is = role_below origin (origin.load.workers + origin.load.streams + 1) u (omega arith);
        share = elim (leb_tells (u + 1) origin.load.workers) [
          | inl a ↦ absurd (let h = a.1 in let s = q.stands.sound.streams_low in omega (arith, h, s))
          | inr b ↦ ap (λ (z : Bool). if z then worker_share origin u else outer_share origin u) b.0 ∙ elim (leb_tells (u + 1) (origin.load.workers + origin.load.streams)) [
            | inl a ↦ absurd (let h = a.1 in omega (arith, h))
            | inr c ↦ ap (λ (z : Bool). if z then manager_share origin u else clerk_share origin) c.0
          ]
        ];
        wide = length-replicate origin.load.workers [];
      }

  pub head_is : ((i : ℕ) → i < origin.load.streams → slice_index origin.load.opening.ends i ≤ 2 ^ 61) → (works : List (Option PlainWork)) (stocks : List (Option PlainStock)) → EachOf IsItsWork origin.seats works → EachOf (IsItsStock origin.ends) origin.streams stocks → IsHead (first_view origin, []) works stocks true origin.ends
  head_is short works stocks a b = record {
    origin = origin;
    opened = refl;
    idle = refl;
    none = refl;
    read = refl;
    seen_is = sym q.opening.ends;
    seen_wide = q.stands.sound.ends;
    worker_count = a.count ∙ q.stands.sound.seats;
    manager_count = b.count ∙ q.stands.sound.streams;
    worker = λ w o e.
        let h = a.each w (Some o) e in
        let same : o ≡ work_of h.0 h.2.0 = some_same o (work_of h.0 h.2.0) h.2.1 in
        subst (HasWork origin (first_view origin) w) (sym same) (work_is w h.0 h.2.0 (inside origin.seats w h.0 origin.load.workers q.stands.sound.seats h.1) h.1);
    manager = λ j o e.
        let h = b.each j (Some o) e in
        let same : o ≡ stock_at h.0 (slice_index origin.ends j) h.2.0 = some_same o (stock_at h.0 (slice_index origin.ends j) h.2.0) h.2.1 in
        subst (HasStock origin (first_view origin) j) (sym same) (stock_is short j h.0 h.2.0 (slice_index origin.ends j) (inside origin.streams j h.0 origin.load.streams q.stands.sound.streams h.1) h.1 refl);
    clerk_is = λ _. clerk_is_there;
  }
    where
      some_same : {A : Type 0} (x y : A) → Some x ≡ Some y → x ≡ y
      some_same x y e = cc

      inside : {A : Type 0} (xs : List A) (k : ℕ) (x : A) (n : ℕ) → length xs ≡ n → slice_get xs k ≡ Some x → k < n
      inside xs k x n len e = (let h = slice_get_within xs k x e in omega (arith, h, len))

  abbrev part_or : Part → Option (Option Part) → Part
  part_or d None = d
  part_or d (Some None) = d
  part_or d (Some (Some p)) = p

  -- the table at the beginning shows the opening
  pub begins_so : {style : Style} → ((j : ℕ) → j < origin.load.streams → slice_index origin.load.opening.ends j ≤ 2 ^ 61) → (n : ℕ) → n ≡ origin.load.streams → (shards boxes anchors : List (Option Part)) (a : EachOf HasShard origin.shards shards) (b : EachOf HasBox origin.seats boxes) (c : EachOf (HasAnchor n) origin.streams anchors) →
      (ws : List ℕ) (xs : List (Option Part)) (parts : ℕ) → xs ≡ (shards ++ boxes) ++ anchors → parts ≡ length xs → AreFirstWords parts origin.ends origin.plv ws → Rule origin style (opening ws xs (first_view origin))
  begins_so short n wide shards boxes anchors a b c ws xs parts is many w =
      let count : parts ≡ part_count origin.load = many ∙ ap length is ∙ slot_count n wide shards boxes anchors a b c in
      let all : (k : ℕ) → k < part_count origin.load → (p : Part) × (slice_get xs k ≡ Some (Some p)) × IsPart origin.load k p (now origin q) =
      (λ k lt. let h = slot_at n wide shards boxes anchors a b c k lt in (h.0, ap (λ (l : List (Option Part)). slice_get l k) is ∙ h.1, h.2)) in
      let d : Part = (all 0 (omega arith)).0 in
      let streams : length origin.ends ≡ origin.load.streams = q.stands.sound.ends in
      let first : AreFirstWords (part_count origin.load) origin.ends origin.plv ws = subst (λ (m : ℕ). AreFirstWords m origin.ends origin.plv ws) count w in
      begins origin q ws xs (λ k. part_or d (slice_get xs k)) (limited origin q short)
      (let e = first.count in omega (arith, e, streams))
      (sym many ∙ count)
      first.free
      (λ k lt. let h = all k lt in got_elem xs k (Some (part_or d (slice_get xs k))) (h.1 ∙ ap (λ (o : Option (Option Part)). Some (Some (part_or d o))) (sym h.1)))
      (λ i lt. first_word i lt first streams)
      (λ k lt. let h = all k lt in subst (λ (o : Option (Option Part)). IsPart origin.load k (part_or d o) (now origin q)) (sym h.1) h.2)
    where
      first_word : (i : ℕ) → i < origin.load.streams + origin.load.streams + 1 → AreFirstWords (part_count origin.load) origin.ends origin.plv ws → length origin.ends ≡ origin.load.streams → slice_index ws (8 * (part_count origin.load + i)) ≡ word_of origin.load i (now origin q)
      first_word i lt f same = elim (leb_tells (i + 1) origin.load.streams) [
        | inl a ↦ f.ends_are i (let h = a.1 in omega (arith, h, same)) ∙ sym (word_ends origin.load (now origin q) i (let h = a.1 in omega (arith, h)))
        | inr b ↦ elim (leb_tells (i + 1) (origin.load.streams + origin.load.streams)) [
          | inl a ↦
              let j : ℕ = i - origin.load.streams in
              let u = b.1 in
              let h = a.1 in
              let at : i ≡ origin.load.streams + j = omega (arith, u) in
              let here : j < length origin.plv = (let r = q.stands.sound.plv in omega (arith, u, h, r)) in
              let word : slice_index ws (8 * (part_count origin.load + i)) ≡ slice_index ws (8 * (part_count origin.load + length origin.ends + j)) = ap (λ (m : ℕ). slice_index ws (8 * m)) (omega (arith, u, same)) in
              word ∙ f.plv_are j here ∙ sym (word_plv origin.load (now origin q) j (omega (arith, u, h))) ∙ ap (λ (m : ℕ). word_of origin.load m (now origin q)) (sym at)
          | inr c ↦
              let h = c.1 in
              let at : i ≡ origin.load.streams + origin.load.streams = omega (arith, h, lt) in
              let word : slice_index ws (8 * (part_count origin.load + i)) ≡ slice_index ws (8 * (part_count origin.load + (length origin.ends + length origin.ends))) = ap (λ (m : ℕ). slice_index ws (8 * m)) (omega (arith, at, same)) in
              word ∙ f.stop ∙ sym (ap (λ (m : ℕ). word_of origin.load m (now origin q)) at ∙ word_stop)
        ]
      ]
        where
          word_stop : word_of origin.load (origin.load.streams + origin.load.streams) (now origin q) ≡ 0
          word_stop = (let e : (origin.load.streams + origin.load.streams == origin.load.streams + origin.load.streams) ≡ true = eq-eqb (origin.load.streams + origin.load.streams) (origin.load.streams + origin.load.streams) refl in
              rw e (ap number_if (none_raised (origin.load.workers + origin.load.streams + 1))))

-- the parts of a core that are laid in slots: how many they are, and that the table begins with them
pub laid_count : (origin : Plain) → Opened origin.load origin → (parts_in : List (Option Part)) (works : List (Option PlainWork)) (stocks : List (Option PlainStock)) → AreLaid origin.ends origin.shards origin.seats origin.streams parts_in works stocks → length parts_in ≡ part_count origin.load
laid_count origin q parts_in works stocks l =
    ap (λ (xs : List (Option Part)). length xs) l.slots_are ∙ slot_count origin q (length origin.ends) q.stands.sound.ends l.shard_slots l.box_slots l.anchor_slots l.have_shards l.have_boxes l.have_anchors

pub laid_begins : (origin : Plain) {style : Style} → Opened origin.load origin → ((j : ℕ) → j < origin.load.streams → slice_index origin.load.opening.ends j ≤ 2 ^ 61) → (parts_in : List (Option Part)) (works : List (Option PlainWork)) (stocks : List (Option PlainStock)) →
    AreLaid origin.ends origin.shards origin.seats origin.streams parts_in works stocks → (ws : List ℕ) (parts : ℕ) → parts ≡ length parts_in → AreFirstWords parts origin.ends origin.plv ws → Rule origin style (opening ws parts_in (first_view origin))
laid_begins origin q short parts_in works stocks l ws parts many first =
    begins_so origin q short (length origin.ends) q.stands.sound.ends l.shard_slots l.box_slots l.anchor_slots l.have_shards l.have_boxes l.have_anchors ws parts_in parts l.slots_are many first

pub all_work : (xs : List PlainSeat) (works : List (Option PlainWork)) → EachOf IsItsWork xs works → (w : ℕ) → slice_get works w ≡ Some None → ⊥
all_work xs works a w e = (let h = a.each w None e in let bad : None ≡ Some (work_of h.0 h.2.0) = h.2.1 in cc)

pub all_stock : (ends : List ℕ) (xs : List PlainStream) (stocks : List (Option PlainStock)) → EachOf (IsItsStock ends) xs stocks → (j : ℕ) → slice_get stocks j ≡ Some None → ⊥
all_stock ends xs stocks a j e = (let h = a.each j None e in let bad : None ≡ Some (stock_at h.0 (slice_index ends j) h.2.0) = h.2.1 in cc)

at_most : (n x k : ℕ) → slice_index (replicate n x) k ≤ x
at_most zero x k = omega arith
at_most (suc n) x zero = omega arith
at_most (suc n) x (suc k) = at_most n x k

-- the catalogue's record leaves room in each stream
pub fresh_short : (n : ℕ) (text : List ℕ) (o : Opening) → IsFresh n (catalogue_size text) o → length text ≤ MAX_CATALOGUE → (j : ℕ) → slice_index o.ends j ≤ 2 ^ 61
fresh_short n text o f few j =
    let e : slice_index o.ends j ≡ slice_index (replicate n (catalogue_size text)) j = ap (λ (l : List ℕ). slice_index l j) f.ends in
    let low = at_most n (catalogue_size text) j in
    let long : catalogue_size text ≡ suc (suc (suc (suc (suc (length text))))) = refl in
    omega (arith, e, low, long, few)

-- no anchor of its own waits with a manager
pub none_own : (origin : Plain) → Opened origin.load origin → (j : ℕ) (s : PlainStream) → slice_get origin.streams j ≡ Some s → s.own.pieces ≡ []
none_own origin q j s e = none_paired (IsPieceOf origin.load (anchors_at (core_of origin nothing))) s.own.pieces (q.stands.own j s e)

-- where no call is in hand, all rest
pub unbegun_rests : (h : PlainHead) → AreUnbegun h.workers → AreResting h
unbegun_rests h unbegun = λ w o e. let none = (unbegun w o e).0 in (ap held_by none, ap joined_of none)
