-- Events from the commit on.
use Rattle.std.proofs.Common.{ℕ, ◌≤◌, ◌<◌, true, false, ◌≡◌, inl, inr, List, [], ◌∷◌, ◌++◌, length, map, refl, sym, ap, subst, ◌∙◌, Option, arith, get_or-set_other, get_or-set_same, length-set}
use Rattle.std.specs.Prelude.{Some, None, ◌==◌, slice_index, slice_set}
use Rattle.std.specs.List.{filter}
use Rattle.std.proofs.lemmas.List.{append-nil, get_or_past}
use Rattle.std.proofs.lemmas.List.Elements.{filter-append}
use Rattle.std.proofs.lemmas.Bool.{both_ways, cases_eq, cases_lt, eq-eqb, ne_eqb}
use Rattle.tau_base.specs.declared.value.Key.{Key}
use Rattle.tau_base.specs.declared.value.Value.{Value}
use Rattle.tau_base.specs.declared.value.Mode.{Mode}
use Rattle.tau_base.specs.declared.value.Mode.TheVariants.{Write}
use Rattle.tau_model.specs.History.{Numbered, Act, Member, updates, updating}
use Rattle.tau_proc.specs.Effect.{Effect, has_key}
use Rattle.tau_base.specs.Vectors.{AtMost}
use Rattle.tau_model.proofs.Orders.{member_front}
use Rattle.tau_machine.specs.Stage.{Stage, Ends, stage}
use Rattle.tau_model.specs.declared.committed.Committed.{Committed}
use Rattle.tau_machine.specs.Hands.{Txn, unplaced_at, committed_of, Phase, Running, Placed, Freeing, Hand, mode_of, held_in, act_in, act_of}
use Rattle.tau_machine.specs.Good.{Runs, Joined, InPhase}
use Rattle.tau_shard.specs.Shard.{at}
use Rattle.tau_machine.specs.Worker.{Worker, begun_by, begun, unlocked, write_want, lock_of, hand_joined}
use Rattle.tau_machine.specs.State.{Setting, Core, sight, hand_of}
use Rattle.tau_machine.specs.Invariant.{CoreGood}
use Rattle.tau_machine.specs.Events.{with_worker, lock_next, act_placed, act_reading}
use Rattle.tau_base.proofs.Vectors.{at_most_trans, at_most_itself, join_left, join_wide, join_below}
use Rattle.tau_machine.proofs.Snoc.{member_snoc}
use Rattle.tau_shard.proofs.At.{at_same, at_other}
use Rattle.tau_machine.proofs.Own.{own, alone_before, alone_less}
use Rattle.tau_machine.proofs.Locks.{join_cause}
use Rattle.tau_machine.proofs.Join.{Joins, join_good, in_hand}
use Rattle.tau_machine.proofs.States.{hands_at, hand_at, worker_moved}
use Rattle.tau_machine.proofs.Turns.{unlocked_none}
use Rattle.tau_base.proofs.Lists.{map_append}

pub begun_committed : (width : ℕ) (wk : Worker) → (begun width wk).committed ≡ wk.committed
begun_committed width wk = at' wk.hand wk.waiting
  where
    at' : (o : Option Hand) (cs : List Numbered) → (begun_by width wk o cs).committed ≡ wk.committed
    at' (Some h) cs = refl
    at' None [] = refl
    at' None (c ∷ cs) = refl

-- a vector with one component raised
pub set_up : (v : List ℕ) (j a : ℕ) → slice_index v j ≤ a → AtMost v (slice_set v j a)
set_up v j a low i = elim (cases_eq i j) [
  | inl is ↦ elim (cases_lt j (length v)) [
    | inl lt ↦ let e = get_or-set_same v j a 0 lt in rw is (omega arith)
    | inr out ↦ let e = get_or_past v j 0 out in rw is (omega arith)
  ]
  | inr ne ↦ let e = get_or-set_other v j i a 0 ne in omega arith
]

pub set_below : (v z : List ℕ) (j a : ℕ) → j < length v → AtMost v z → a ≤ slice_index z j → AtMost (slice_set v j a) z
set_below v z j a lt h low i = elim (cases_eq i j) [
  | inl is ↦ let e = get_or-set_same v j a 0 lt in rw is (omega arith)
  | inr ne ↦ let e = get_or-set_other v j i a 0 ne in let b = h i in omega arith
]

module _ (set : Setting) (K : List (Act Txn)) (s : Core) (g : CoreGood set K s) (w : ℕ) (wk : Worker) (h : Hand) (is : s.workers w ≡ wk) (now : wk.hand ≡ Some h) where
  was : hand_of s w ≡ Some h
  was = ap (λ (k : Worker). k.hand) is ∙ now

  abbrev joined_worker : Phase → Act Txn → Worker
  joined_worker p t = record wk { hand = Some (hand_joined h p t.call.place.dep); committed = wk.committed ++ committed_of t ∷ [] }

  -- a call joins the committed ones
  joined_good : (p : Phase) (t : Act Txn) (ends : List ℕ) → Joins set.procs set.width K (sight set s) (hand_of s) (λ u. (at w (joined_worker p t) s.workers u).hand) w h t ends →
      (updates t.effect ≡ true → t.call.place.stream ≡ set.stream_of w) → (updates t.effect ≡ false → t.call.place ≡ unplaced_at t.call.place.dep) →
      CoreGood set (K ++ t ∷ []) (record (with_worker s w (joined_worker p t)) { ends = ends })
  joined_good p t ends q stream bare = record {
    good = join_good set.procs set.width set.base K (sight set s) (hand_of s) (λ u. (at w (joined_worker p t) s.workers u).hand) g.good w h t ends q;
    locks = λ u y. elim (cases_eq u w) [
      | inl same ↦ g.locks u y ∙ ap (λ (k : ℕ). held_in (hand_of s k) y) same ∙ ap (λ (o : Option Hand). held_in o y) was
          ∙ sym (ap (λ (o : Option Hand). held_in o y) (ap (λ (k : ℕ). (at w (joined_worker p t) s.workers k).hand) same ∙ hand_at s.workers w (joined_worker p t)))
      | inr ne ↦ g.locks u y ∙ sym (ap (λ (o : Option Hand). held_in o y) (hands_at s.workers w (joined_worker p t) u ne))
    ];
    small = g.small;
    floors = g.floors;
    persisted = g.persisted;
    gathered = at_most_trans s.gathered s.ends ends g.gathered q.ends_up;
    count_gathered = g.count_gathered;
    count_plv = g.count_plv;
    members = λ u. elim (cases_eq u w) [
      | inl same ↦ subst (λ (k : ℕ). (at w (joined_worker p t) s.workers k).committed ≡ map committed_of (filter (λ (x : Act Txn). x.call.worker == k) (K ++ t ∷ []))) (sym same)
          (ap (λ (k : Worker). k.committed) (at_same w (joined_worker p t) s.workers) ∙ ap (λ (l : List Committed). l ++ committed_of t ∷ []) (ap (λ (k : Worker). k.committed) (sym is) ∙ g.members w)
          ∙ sym (ap (map committed_of) (filter-append (λ (x : Act Txn). x.call.worker == w) K (t ∷ []) ∙ ap (λ (l : List (Act Txn)). filter (λ (x : Act Txn). x.call.worker == w) K ++ l) own_filter)
          ∙ map_append committed_of (filter (λ (x : Act Txn). x.call.worker == w) K) (t ∷ [])))
      | inr ne ↦ ap (λ (k : Worker). k.committed) (at_other w (joined_worker p t) s.workers u ne) ∙ g.members u
          ∙ ap (map committed_of) (sym (filter-append (λ (x : Act Txn). x.call.worker == u) K (t ∷ []) ∙ ap (λ (l : List (Act Txn)). filter (λ (x : Act Txn). x.call.worker == u) K ++ l) (other_filter u ne) ∙ append-nil (filter (λ (x : Act Txn). x.call.worker == u) K)))
    ];
    streams = λ r m up. elim (member_snoc K t r m) [
      | inl o ↦ g.streams r o up
      | inr e ↦ subst (λ (x : Act Txn). x.call.place.stream ≡ set.stream_of x.call.worker) e
          (stream (subst (λ (x : Act Txn). updates x.effect ≡ true) (sym e) up) ∙ ap set.stream_of (sym q.whose))
    ];
    unplaced = λ r m no'. elim (member_snoc K t r m) [
      | inl o ↦ g.unplaced r o no'
      | inr e ↦ subst (λ (x : Act Txn). x.call.place ≡ unplaced_at x.call.place.dep) e (bare (subst (λ (x : Act Txn). updates x.effect ≡ false) (sym e) no'))
    ];
    anchors = g.anchors;
    pending = λ u k m. let (t', there, e) = g.pending u k m in (t', member_front t' K (t ∷ []) there, e);
    acked = λ u k m. let (low, c) = g.acked u k m in (low, (c.0, member_front c.0 K (t ∷ []) c.1, c.2));
  }
    where
      own_filter : filter (λ (x : Act Txn). x.call.worker == w) (t ∷ []) ≡ t ∷ []
      own_filter = let e : (t.call.worker == w) ≡ true = eq-eqb t.call.worker w q.whose in rw e refl

      other_filter : (u : ℕ) → (u ≡ w → ⊥) → filter (λ (x : Act Txn). x.call.worker == u) (t ∷ []) ≡ []
      other_filter u ne = let e : (t.call.worker == u) ≡ false = ne_eqb t.call.worker u (λ p. ne (sym p ∙ q.whose)) in rw e refl

  lock_done : (e : Effect) → stage set.procs h.call.call h.seen ≡ Ends e → lock_next set h ≡ None → (x : Key) → has_key x e.writes ≡ true → mode_of x h.held ≡ Some Write
  lock_done e ends none = unlocked_none e.writes h.held (at' (unlocked e.writes h.held) refl (subst (λ (t : Stage). lock_of t h.held ≡ None) ends none))
    where
      at' : (o : Option Key) → unlocked e.writes h.held ≡ o → write_want o ≡ None → unlocked e.writes h.held ≡ None
      at' None p q = p
      at' (Some x) p q = cc

  running : h.phase ≡ Running → Runs set.procs set.width K (sight set s) h
  running phase = subst (λ (p : Phase). InPhase set.procs set.width K (sight set s) w h p) phase (g.good.hands w h was)

  -- an updating call gets its place
  pub commit_good : (e : Effect) (number : ℕ) (anchor : List ℕ) (past : ℕ) → h.phase ≡ Running → stage set.procs h.call.call h.seen ≡ Ends e → lock_next set h ≡ None → updating e.writes ≡ true →
      AtMost anchor s.plv → slice_index s.ends (set.stream_of w) < past →
      let t : Act Txn = act_placed set w h e number anchor (slice_index s.ends (set.stream_of w)) past in
      CoreGood set (K ++ t ∷ []) (record (with_worker s w (joined_worker (Placed t) t)) { ends = slice_set s.ends (set.stream_of w) past })
  commit_good e number anchor past phase ends none up low goes =
      let t : Act Txn = act_placed set w h e number anchor (slice_index s.ends (set.stream_of w)) past in
      let r = running phase in
      let small : set.stream_of w < length s.ends = (let a = g.good.order.count in let b = g.small w in omega arith) in
      joined_good (Placed t) t (slice_set s.ends (set.stream_of w) past) (record {
        is = was;
        phase = phase;
        ended = ends;
        locked = lock_done e ends none;
        call = refl;
        whose = refl;
        dep = join_left h.dep anchor;
        dep_wide = join_wide h.dep anchor;
        dep_ends = join_below h.dep anchor s.ends r.below (at_most_trans anchor s.plv s.ends low g.good.order.behind);
        dep_light = λ j lt. elim (join_cause h.dep anchor j) [ inl same ↦ same | inr other ↦ absurd (let a = low j in omega arith) ];
        ends_up = set_up s.ends (set.stream_of w) past (omega arith);
        ends_count = length-set s.ends (set.stream_of w) past;
        start = λ u. refl;
        past = λ u. let a = get_or-set_same s.ends (set.stream_of w) past 0 small in omega arith;
        goes_on = λ u. goes;
        stream = λ u. g.small w;
        after = hand_joined h (Placed t) t.call.place.dep;
        now = hand_at s.workers w (joined_worker (Placed t) t);
        act = refl;
        held = refl;
        call' = refl;
        other = λ u ne. hands_at s.workers w (joined_worker (Placed t) t) u ne;
      }) (λ u. refl) (λ u. absurd (both_ways (updating e.writes) u up))

  -- a read-only call that has finished joins
  pub reading_good : (e : Effect) → h.phase ≡ Running → stage set.procs h.call.call h.seen ≡ Ends e → e.writes ≡ [] →
      let t : Act Txn = act_reading set w h e in
      CoreGood set (K ++ t ∷ []) (with_worker s w (joined_worker (Freeing t) t))
  reading_good e phase ends none =
      let t : Act Txn = act_reading set w h e in
      let r = running phase in
      let no_update : updates e ≡ true → ⊥ = (λ u. both_ways false refl (subst (λ (l : List (Key × Value)). updating l ≡ true) none u)) in
      joined_good (Freeing t) t s.ends (record {
        is = was;
        phase = phase;
        ended = ends;
        locked = λ x p. absurd (both_ways false refl (subst (λ (l : List (Key × Value)). has_key x l ≡ true) none p));
        call = refl;
        whose = refl;
        dep = at_most_itself h.dep;
        dep_wide = omega arith;
        dep_ends = r.below;
        dep_light = λ j lt. refl;
        ends_up = at_most_itself s.ends;
        ends_count = refl;
        start = λ u. absurd (no_update u);
        past = λ u. absurd (no_update u);
        goes_on = λ u. absurd (no_update u);
        stream = λ u. absurd (no_update u);
        after = hand_joined h (Freeing t) t.call.place.dep;
        now = hand_at s.workers w (joined_worker (Freeing t) t);
        act = refl;
        held = refl;
        call' = refl;
        other = λ u ne. hands_at s.workers w (joined_worker (Freeing t) t) u ne;
      }) (λ u. absurd (no_update u)) (λ u. refl)

  -- the committed call goes on, and holds what it held, or has nothing left to hold
  on_good : (wk' : Worker) (t : Act Txn) → wk'.committed ≡ wk.committed → act_of h.phase ≡ Some t → ((y : Key) → held_in wk'.hand y ≡ mode_of y h.held) →
      ((x : Key) (m : Mode) → mode_of x h.held ≡ Some m → act_in wk'.hand ≡ Some t) → ((r : Act Txn) → act_in wk'.hand ≡ Some r → t ≡ r) →
      ((j : Hand) → wk'.hand ≡ Some j → InPhase set.procs set.width K (sight set s) w j j.phase) → CoreGood set K (with_worker s w wk')
  on_good wk' t kept act held still back fine =
      let at' : (at w wk' s.workers w).hand ≡ wk'.hand = hand_at s.workers w wk' in
      let own_act : act_in (hand_of s w) ≡ Some t = ap act_in was ∙ act in
      let same : (y : Key) → held_in wk'.hand y ≡ held_in (hand_of s w) y = (λ y. held y ∙ sym (ap (λ (o : Option Hand). held_in o y) was)) in
      worker_moved set K s g w wk' (kept ∙ ap (λ (k : Worker). k.committed) (sym is)) same
      (own set.procs set.width set.base K (sight set s) (hand_of s) (λ u. (at w wk' s.workers u).hand) w (λ u ne. hands_at s.workers w wk' u ne) g.good
      (λ r x b. let e : t ≡ r = (let p : Some t ≡ Some r = sym own_act ∙ b.act in cc) in
      let m : held_in wk'.hand x ≡ Some b.mode = same x ∙ b.held in
      record { mode = b.mode; act = ap act_in at' ∙ still x b.mode (sym (held x) ∙ m) ∙ ap (λ (a : Act Txn). Some a) e; held = ap (λ (o : Option Hand). held_in o x) at' ∙ m })
      (λ r x b. let e : t ≡ r = back r (sym (ap act_in at') ∙ b.act) in
      record { mode = b.mode; act = own_act ∙ ap (λ (a : Act Txn). Some a) e; held = sym (same x) ∙ (sym (ap (λ (o : Option Hand). held_in o x) at') ∙ b.held) })
      (alone_less (hand_of s) w (at w wk' s.workers w).hand (alone_before (hand_of s) w g.good.apart)
      (λ x m e. sym (same x) ∙ (sym (ap (λ (o : Option Hand). held_in o x) at') ∙ e)))
      (λ j e. fine j (sym at' ∙ e)))

  joined_is : (t : Act Txn) → act_of h.phase ≡ Some t → Joined set.procs set.width K h w t
  joined_is t act =
      let (i, e, j) = in_hand set.procs set.width set.base K (sight set s) (hand_of s) g.good w t (ap act_in was ∙ act) in
      let same : i ≡ h = (let p : Some i ≡ Some h = sym e ∙ was in cc) in
      subst (λ (k : Hand). Joined set.procs set.width K k w t) same j

  pub post_good : (t : Act Txn) → h.phase ≡ Placed t → CoreGood set K (with_worker s w (record wk { hand = Some (record h { phase = Freeing t }) }))
  post_good t phase = on_good (record wk { hand = Some (record h { phase = Freeing t }) }) t refl (ap act_of phase) (λ y. refl) (λ x m e. refl) (λ r e. cc)
      (λ j e. let same : ◌≡◌ {A = Hand} (record h { phase = Freeing t }) j = cc in
      let a = joined_is t (ap act_of phase) in
      let b : Joined set.procs set.width K (record h { phase = Freeing t }) w t = record { there = a.there; whose = a.whose; call = a.call; modes = a.modes; touched = a.touched } in
      subst (λ (k : Hand). InPhase set.procs set.width K (sight set s) w k k.phase) same b)

  pub finish_good : (t : Act Txn) → h.phase ≡ Freeing t → h.held ≡ [] → CoreGood set K (with_worker s w (record wk { hand = None })) × Member t K
  finish_good t phase empty = (
    on_good (record wk { hand = None }) t refl (ap act_of phase) (λ y. sym (ap (λ (l : List (Key × Mode)). mode_of y l) empty))
        (λ x m e. absurd (let bad : None ≡ Some m = sym (ap (λ (l : List (Key × Mode)). mode_of x l) empty) ∙ e in cc)) (λ r e. cc) (λ j e. cc),
    (joined_is t (ap act_of phase)).there,
  )
