-- A committed call frees a key.
use Rattle.std.proofs.Common.{ℕ, ◌<◌, Bool, true, false, ◌≡◌, ◌⊎◌, inl, inr, List, refl, sym, ap, subst, ◌∙◌, Option, get_or-set_other, get_or-set_same}
use Rattle.std.specs.Prelude.{Some, None, slice_index}
use Rattle.std.proofs.lemmas.Bool.{cases_Bool, both_ways, cases_eq}
use Rattle.tau_base.specs.declared.value.Key.{Key}
use Rattle.tau_base.specs.declared.value.Value.{Value}
use Rattle.tau_base.specs.declared.value.Mode.{Mode}
use Rattle.tau_base.specs.declared.value.Mode.TheVariants.{Write}
use Rattle.tau_proc.specs.declared.proc.Proc.{Proc}
use Rattle.tau_base.specs.Database.{Db, same_key, written}
use Rattle.tau_proc.specs.Effect.{has_key}
use Rattle.tau_model.specs.History.{Act, Member, updates}
use Rattle.tau_base.specs.Vectors.{AtMost, join}
use Rattle.tau_model.specs.Logged.{lv}
use Rattle.tau_base.proofs.Keys.{same_key_itself}
use Rattle.tau_model.proofs.Dbs.{written_same}
use Rattle.tau_machine.specs.Hands.{Txn, lv_of, Phase, Running, Quitting, Placed, Freeing, Hand, mode_of, without, held_in, act_in, act_of, Holds}
use Rattle.tau_machine.specs.Sight.{Sight}
use Rattle.tau_machine.specs.Good.{Reaches, Runs, Joined, InPhase, Order, KeyGood, Good}
use Rattle.tau_base.proofs.Vectors.{at_most_trans, join_left, join_right, join_below}
use Rattle.tau_shard.proofs.At.{cases_key}
use Rattle.tau_machine.proofs.Modes.{without_same, without_other}
use Rattle.tau_machine.proofs.Own.{holds_moved, key_moved, apart_moved, alone_before, alone_less}
use Rattle.tau_machine.proofs.Locks.{join_cause}
use Rattle.tau_machine.proofs.Join.{agrees_like, in_hand}
use Rattle.tau_machine.proofs.Lists.{either_way}

-- which key is freed by which call, and what it leaves
pub record Frees (v : Sight) (hand hand' : ℕ → Option Hand) (w : ℕ) (h : Hand) (t : Act Txn) (x : Key) (row : Key → Value) (write_lv read_lv : Key → List ℕ) : Type 0 where
  pub is : hand w ≡ Some h
  pub act : act_of h.phase ≡ Some t
  pub mode : Mode
  pub held : mode_of x h.held ≡ Some mode
  pub after : Hand
  pub now : hand' w ≡ Some after
  pub act' : act_of after.phase ≡ Some t
  pub held' : after.held ≡ without x h.held
  pub call' : after.call ≡ h.call
  pub other : (u : ℕ) → (u ≡ w → ⊥) → hand' u ≡ hand u
  -- a written key
  pub written_row : has_key x t.effect.writes ≡ true → row x ≡ written t.effect.writes (v.row) x
  pub written_write_lv : has_key x t.effect.writes ≡ true → write_lv x ≡ join (v.write_lv x) (lv_of t)
  pub written_read_lv : has_key x t.effect.writes ≡ true → read_lv x ≡ v.read_lv x
  -- a key only read
  pub read_row : has_key x t.effect.writes ≡ false → row x ≡ v.row x
  pub read_write_lv : has_key x t.effect.writes ≡ false → write_lv x ≡ v.write_lv x
  pub read_read_lv : has_key x t.effect.writes ≡ false → read_lv x ≡ join (v.read_lv x) (lv_of t)
  -- the other keys
  pub same_row : (y : Key) → same_key y x ≡ false → row y ≡ v.row y
  pub same_write_lv : (y : Key) → same_key y x ≡ false → write_lv y ≡ v.write_lv y
  pub same_read_lv : (y : Key) → same_key y x ≡ false → read_lv y ≡ v.read_lv y

module _ (procs : List Proc) (width : ℕ) (base : Db) (K : List (Act Txn)) (ends plv : List ℕ) (o : Order procs width base K ends plv) (t : Act Txn) (m : Member t K) where
  -- the vector of a committed call
  pub lv_below : AtMost (lv_of t) ends
  lv_below = by_case (updates t.effect) refl
    where
      by_case : (b : Bool) → updates t.effect ≡ b → AtMost (lv b t.call.place) ends
      by_case false e j = o.logged.places.ended t m j
      by_case true e j = elim (cases_eq j t.call.place.stream) [
        | inl is ↦
            let p = o.logged.places.placed t m e in
            let at = get_or-set_same t.call.place.dep t.call.place.stream t.call.place.past 0 p.1 in
            let below = o.pasts t m e in
            rw is (rw at below)
        | inr ne ↦
            let same = get_or-set_other t.call.place.dep t.call.place.stream j t.call.place.past 0 ne in
            rw same (o.logged.places.ended t m j)
      ]

  pub lv_reaches : (j : ℕ) → slice_index plv j < slice_index (lv_of t) j → Reaches K j (slice_index (lv_of t) j) t
  lv_reaches = by_case (updates t.effect) refl
    where
      from_dep : (j : ℕ) → slice_index plv j < slice_index t.call.place.dep j → Reaches K j (slice_index t.call.place.dep j) t
      from_dep j lt = let b = o.light t m j lt in record { last = b.last; up = b.up; stream = b.stream; past = b.past; how = inr b.how }

      by_case : (b : Bool) → updates t.effect ≡ b → (j : ℕ) → slice_index plv j < slice_index (lv b t.call.place) j → Reaches K j (slice_index (lv b t.call.place) j) t
      by_case false e j lt = from_dep j lt
      by_case true e j lt = elim (cases_eq j t.call.place.stream) [
        | inl is ↦
            let p = o.logged.places.placed t m e in
            let at : slice_index (lv true t.call.place) j ≡ t.call.place.past = ap (slice_index (lv true t.call.place)) is ∙ get_or-set_same t.call.place.dep t.call.place.stream t.call.place.past 0 p.1 in
            rw at (record { last = t; up = e; stream = sym is; past = refl; how = inl refl })
        | inr ne ↦
            let same : slice_index (lv true t.call.place) j ≡ slice_index t.call.place.dep j = get_or-set_other t.call.place.dep t.call.place.stream j t.call.place.past 0 ne in
            rw same (from_dep j (rw same at lt))
      ]

key_like : (base : Db) (K : List (Act Txn)) (hand : ℕ → Option Hand) (ends plv : List ℕ) (x : Key) (row row' : Value) (write_lv write_lv' read_lv read_lv' : List ℕ) →
    row' ≡ row → write_lv' ≡ write_lv → read_lv' ≡ read_lv → KeyGood base K hand ends plv x row write_lv read_lv → KeyGood base K hand ends plv x row' write_lv' read_lv'
key_like base K hand ends plv x row row' write_lv write_lv' read_lv read_lv' a b c g =
    subst (λ (i : Value). KeyGood base K hand ends plv x i write_lv' read_lv') (sym a)
    (subst (λ (i : List ℕ). KeyGood base K hand ends plv x row i read_lv') (sym b)
    (subst (λ (i : List ℕ). KeyGood base K hand ends plv x row write_lv i) (sym c) g))

module _ (procs : List Proc) (width : ℕ) (base : Db) (K : List (Act Txn)) (v : Sight) (hand hand' : ℕ → Option Hand) (g : Good procs width base K hand v)
    (w : ℕ) (h : Hand) (t : Act Txn) (x : Key) (row : Key → Value) (write_lv read_lv : Key → List ℕ) (q : Frees v hand hand' w h t x row write_lv read_lv) where
  own_act : act_in (hand w) ≡ Some t
  own_act = subst (λ (o : Option Hand). act_in o ≡ Some t) (sym q.is) q.act

  own_held : held_in (hand w) x ≡ Some q.mode
  own_held = subst (λ (o : Option Hand). held_in o x ≡ Some q.mode) (sym q.is) q.held

  own_joined : Joined procs width K h w t
  own_joined =
      let (i, is, j) = in_hand procs width base K v hand g w t own_act in
      let same : i ≡ h = (let a : Some i ≡ Some h = sym is ∙ q.is in cc) in
      subst (λ (a : Hand). Joined procs width K a w t) same j

  there : Member t K
  there = own_joined.there

  own_holds : Holds hand t x
  own_holds = record { worker = w; mode = q.mode; act = own_act; held = own_held }

  -- what the hand of w holds now it held, and the freed key it does not hold
  was_held : (y : Key) (m : Mode) → held_in (hand' w) y ≡ Some m → (same_key y x ≡ false) × (held_in (hand w) y ≡ Some m)
  was_held y m e =
      let now : mode_of y (without x h.held) ≡ Some m = subst (λ (l : List (Key × Mode)). mode_of y l ≡ Some m) q.held' (subst (λ (o : Option Hand). held_in o y ≡ Some m) q.now e) in
      elim (cases_key y x) [
        | inl is ↦ absurd (let at : mode_of x (without x h.held) ≡ Some m = subst (λ (k : Key). mode_of k (without x h.held) ≡ Some m) is now in
            let bad : None ≡ Some m = sym (without_same x h.held) ∙ at in cc)
        | inr ne ↦ (ne, subst (λ (o : Option Hand). held_in o y ≡ Some m) (sym q.is) (sym (without_other y x h.held ne) ∙ now))
      ]

  still_held : (y : Key) (m : Mode) → same_key y x ≡ false → held_in (hand w) y ≡ Some m → held_in (hand' w) y ≡ Some m
  still_held y m ne e =
      let old : mode_of y h.held ≡ Some m = subst (λ (o : Option Hand). held_in o y ≡ Some m) q.is e in
      subst (λ (o : Option Hand). held_in o y ≡ Some m) (sym q.now)
      (subst (λ (l : List (Key × Mode)). mode_of y l ≡ Some m) (sym q.held') (without_other y x h.held ne ∙ old))

  now_act : act_in (hand' w) ≡ Some t
  now_act = subst (λ (o : Option Hand). act_in o ≡ Some t) (sym q.now) q.act'

  is_own : (u : Act Txn) → act_in (hand w) ≡ Some u → t ≡ u
  is_own u e = let a : Some t ≡ Some u = sym own_act ∙ e in cc

  holds_back : (u : Act Txn) (y : Key) → Holds hand' u y → Holds hand u y
  holds_back u y = holds_moved hand' hand w u y (λ k ne. sym (q.other k ne))
      (λ b. let same : Some t ≡ Some u = sym now_act ∙ b.act in let e : t ≡ u = cc in
      record { worker = w; mode = b.mode; act = own_act ∙ same; held = (was_held y b.mode b.held).1 })

  holds_other : (u : Act Txn) (y : Key) → same_key y x ≡ false → Holds hand u y → Holds hand' u y
  holds_other u y ne = holds_moved hand hand' w u y q.other
      (λ b. record { worker = w; mode = b.mode; act = now_act ∙ (sym own_act ∙ b.act); held = still_held y b.mode ne b.held })

  -- who holds the key is t, or still holds it
  holds_key : (u : Act Txn) → Holds hand u x → (t ≡ u) ⊎ Holds hand' u x
  holds_key u o = elim (cases_eq o.worker w) [
    | inl is ↦ inl (is_own u (subst (λ (k : ℕ). act_in (hand k) ≡ Some u) is o.act))
    | inr ne ↦ inr (record {
      worker = o.worker;
      mode = o.mode;
      act = subst (λ (i : Option Hand). act_in i ≡ Some u) (sym (q.other o.worker ne)) o.act;
      held = subst (λ (i : Option Hand). held_in i x ≡ Some o.mode) (sym (q.other o.worker ne)) o.held;
    })
  ]

  -- another worker's keys keep their rows and vectors
  alone : (u : ℕ) (m : Mode) → (u ≡ w → ⊥) → held_in (hand u) x ≡ Some m → has_key x t.effect.writes ≡ true → ⊥
  alone u m ne e writes =
      let mode : q.mode ≡ Write = own_joined.modes x q.mode writes q.held in
      ne (sym (g.apart w u x m (subst (λ (k : Mode). held_in (hand w) x ≡ Some k) mode own_held) e))

  row_kept : (u : ℕ) (y : Key) (m : Mode) → (u ≡ w → ⊥) → held_in (hand u) y ≡ Some m → row y ≡ v.row y
  row_kept u y m ne e = elim (cases_key y x) [
    | inr apart ↦ q.same_row y apart
    | inl is ↦ elim (cases_Bool (has_key x t.effect.writes)) [
      | inl writes ↦ absurd (alone u m ne (subst (λ (k : Key). held_in (hand u) k ≡ Some m) is e) writes)
      | inr no' ↦ subst (λ (k : Key). row k ≡ v.row k) (sym is) (q.read_row no')
    ]
  ]

  write_lv_kept : (u : ℕ) (y : Key) (m : Mode) → (u ≡ w → ⊥) → held_in (hand u) y ≡ Some m → write_lv y ≡ v.write_lv y
  write_lv_kept u y m ne e = elim (cases_key y x) [
    | inr apart ↦ q.same_write_lv y apart
    | inl is ↦ elim (cases_Bool (has_key x t.effect.writes)) [
      | inl writes ↦ absurd (alone u m ne (subst (λ (k : Key). held_in (hand u) k ≡ Some m) is e) writes)
      | inr no' ↦ subst (λ (k : Key). write_lv k ≡ v.write_lv k) (sym is) (q.read_write_lv no')
    ]
  ]

  read_lv_kept : (u : ℕ) (y : Key) → (u ≡ w → ⊥) → held_in (hand u) y ≡ Some Write → read_lv y ≡ v.read_lv y
  read_lv_kept u y ne e = elim (cases_key y x) [
    | inr apart ↦ q.same_read_lv y apart
    | inl is ↦ absurd (ne (g.apart u w x q.mode (subst (λ (k : Key). held_in (hand u) k ≡ Some Write) is e) own_held))
  ]

  runs_kept : (u : ℕ) (i : Hand) → (u ≡ w → ⊥) → hand u ≡ Some i → Runs procs width K v i → Runs procs width K (record v { row = row; write_lv = write_lv; read_lv = read_lv }) i
  runs_kept u i ne is r = record {
    wide = r.wide;
    below = r.below;
    agrees = agrees_like i.seen v.row row (λ y e. let (m, p) = r.kept y e in row_kept u y m ne (held y m p)) r.agrees;
    kept = r.kept;
    write_lv = λ y m e. subst (λ (a : List ℕ). AtMost a i.dep) (sym (write_lv_kept u y m ne (held y m e))) (r.write_lv y m e);
    read_lv = λ y e. subst (λ (a : List ℕ). AtMost a i.dep) (sym (read_lv_kept u y ne (held y Write e))) (r.read_lv y e);
    used = r.used;
    light = r.light;
  }
    where
      held : (y : Key) (m : Mode) → mode_of y i.held ≡ Some m → held_in (hand u) y ≡ Some m
      held y m e = subst (λ (o : Option Hand). held_in o y ≡ Some m) (sym is) e

  phase_kept : (u : ℕ) (i : Hand) (p : Phase) → (u ≡ w → ⊥) → hand u ≡ Some i → InPhase procs width K v u i p → InPhase procs width K (record v { row = row; write_lv = write_lv; read_lv = read_lv }) u i p
  phase_kept u i Running ne is r = runs_kept u i ne is r
  phase_kept u i Quitting ne is r = r
  phase_kept u i (Placed s) ne is r = r
  phase_kept u i (Freeing s) ne is r = r

  after_joined : Joined procs width K q.after w t
  after_joined = record {
    there = there;
    whose = own_joined.whose;
    call = own_joined.call ∙ sym q.call';
    modes = λ y m e a. own_joined.modes y m e (was y m a);
    touched = λ y m a. own_joined.touched y m (was y m a);
  }
    where
      was : (y : Key) (m : Mode) → mode_of y q.after.held ≡ Some m → mode_of y h.held ≡ Some m
      was y m a = subst (λ (o : Option Hand). held_in o y ≡ Some m) q.is (was_held y m (subst (λ (o : Option Hand). held_in o y ≡ Some m) (sym q.now) a)).1

  after_phase : (p : Phase) → act_of p ≡ Some t → InPhase procs width K (record v { row = row; write_lv = write_lv; read_lv = read_lv }) w q.after p
  after_phase Running e = cc
  after_phase Quitting e = cc
  after_phase (Placed u) e = let same : t ≡ u = cc in subst (λ (a : Act Txn). Joined procs width K q.after w a) same after_joined
  after_phase (Freeing u) e = let same : t ≡ u = cc in subst (λ (a : Act Txn). Joined procs width K q.after w a) same after_joined

  -- the call does not hold the key any more
  not_still : Holds hand' t x → ⊥
  not_still o = elim (cases_eq o.worker w) [
    | inl is ↦ absurd (both_ways (same_key x x) (was_held x o.mode (subst (λ (k : ℕ). held_in (hand' k) x ≡ Some o.mode) is o.held)).0 (same_key_itself x))
    | inr ne ↦
        let (i, e, j) = in_hand procs width base K v hand g o.worker t (subst (λ (i : Option Hand). act_in i ≡ Some t) (q.other o.worker ne) o.act) in
        ne (sym j.whose ∙ own_joined.whose)
  ]

  key_written : has_key x t.effect.writes ≡ true → KeyGood base K hand' v.ends v.plv x (written t.effect.writes v.row x) (join (v.write_lv x) (lv_of t)) (v.read_lv x)
  key_written writes = record {
    below_write_lv = join_below (v.write_lv x) (lv_of t) v.ends (g.keys x).below_write_lv (lv_below procs width base K v.ends v.plv g.order t there);
    below_read_lv = (g.keys x).below_read_lv;
    wrote = λ u m e. elim ((g.keys x).wrote u m e) [
      | inl o ↦ elim (holds_key u o) [
        | inl is ↦ inr (subst (λ (a : Act Txn). AtMost (lv_of a) (join (v.write_lv x) (lv_of t))) is (join_right (v.write_lv x) (lv_of t)))
        | inr p ↦ inl p
      ]
      | inr a ↦ inr (at_most_trans (lv_of u) (v.write_lv x) (join (v.write_lv x) (lv_of t)) a (join_left (v.write_lv x) (lv_of t)))
    ];
    read = λ u m e n. elim ((g.keys x).read u m e n) [
      | inl o ↦ elim (holds_key u o) [
        | inl is ↦ absurd (both_ways (has_key x u.effect.writes) n (subst (λ (a : Act Txn). has_key x a.effect.writes ≡ true) is writes))
        | inr p ↦ inl p
      ]
      | inr a ↦ inr a
    ];
    freed = λ none. (g.keys x).unfreed t own_holds writes ∙ written_same t.effect.writes base v.row x writes;
    unfreed = λ u o. (g.keys x).unfreed u (holds_back u x o);
    last = λ r o. (g.keys x).last r (holds_back r x o);
    row_of = λ r m e none later. elim (either_way r t K m there) [
      | inl is ↦ ap (λ (a : Act Txn). written a.effect.writes v.row x) (sym is) ∙ written_same r.effect.writes v.row base x e
      | inr b ↦ absurd (elim b [
        | inl c ↦ not_still (later t c writes)
        | inr c ↦ (g.keys x).last t own_holds writes r c e
      ])
    ];
    light_write_lv = λ j lt. elim (join_cause (v.write_lv x) (lv_of t) j) [
      | inl e ↦ rw e ((g.keys x).light_write_lv j (rw e at lt))
      | inr e ↦ rw e (record { by = t; there = there; because = writes; reaches = lv_reaches procs width base K v.ends v.plv g.order t there j (rw e at lt) })
    ];
    light_read_lv = (g.keys x).light_read_lv;
  }

  key_read : has_key x t.effect.writes ≡ false → KeyGood base K hand' v.ends v.plv x (v.row x) (v.write_lv x) (join (v.read_lv x) (lv_of t))
  key_read no' = record {
    below_write_lv = (g.keys x).below_write_lv;
    below_read_lv = join_below (v.read_lv x) (lv_of t) v.ends (g.keys x).below_read_lv (lv_below procs width base K v.ends v.plv g.order t there);
    wrote = λ u m e. elim ((g.keys x).wrote u m e) [
      | inl o ↦ elim (holds_key u o) [
        | inl is ↦ absurd (both_ways (has_key x t.effect.writes) no' (subst (λ (a : Act Txn). has_key x a.effect.writes ≡ true) (sym is) e))
        | inr p ↦ inl p
      ]
      | inr a ↦ inr a
    ];
    read = λ u m e n. elim ((g.keys x).read u m e n) [
      | inl o ↦ elim (holds_key u o) [
        | inl is ↦ inr (subst (λ (a : Act Txn). AtMost (lv_of a) (join (v.read_lv x) (lv_of t))) is (join_right (v.read_lv x) (lv_of t)))
        | inr p ↦ inl p
      ]
      | inr a ↦ inr (at_most_trans (lv_of u) (v.read_lv x) (join (v.read_lv x) (lv_of t)) a (join_left (v.read_lv x) (lv_of t)))
    ];
    freed = λ none. (g.keys x).freed (λ u o e. elim (holds_key u o) [
      | inl is ↦ both_ways (has_key x t.effect.writes) no' (subst (λ (a : Act Txn). has_key x a.effect.writes ≡ true) (sym is) e)
      | inr p ↦ none u p e
    ]);
    unfreed = λ u o. (g.keys x).unfreed u (holds_back u x o);
    last = λ r o. (g.keys x).last r (holds_back r x o);
    row_of = λ r m e none later. (g.keys x).row_of r m e (λ o. elim (holds_key r o) [
      | inl is ↦ both_ways (has_key x t.effect.writes) no' (subst (λ (a : Act Txn). has_key x a.effect.writes ≡ true) (sym is) e)
      | inr p ↦ none p
    ]) (λ u b f. holds_back u x (later u b f));
    light_write_lv = (g.keys x).light_write_lv;
    light_read_lv = λ j lt. elim (join_cause (v.read_lv x) (lv_of t) j) [
      | inl e ↦ rw e ((g.keys x).light_read_lv j (rw e at lt))
      | inr e ↦ rw e (record {
        by = t;
        there = there;
        because = own_joined.touched x q.mode q.held;
        reaches = lv_reaches procs width base K v.ends v.plv g.order t there j (rw e at lt);
      })
    ];
  }

  key_freed : KeyGood base K hand' v.ends v.plv x (row x) (write_lv x) (read_lv x)
  key_freed = elim (cases_Bool (has_key x t.effect.writes)) [
    | inl y ↦ key_like base K hand' v.ends v.plv x (written t.effect.writes v.row x) (row x) (join (v.write_lv x) (lv_of t)) (write_lv x) (v.read_lv x) (read_lv x)
        (q.written_row y) (q.written_write_lv y) (q.written_read_lv y) (key_written y)
    | inr n ↦ key_like base K hand' v.ends v.plv x (v.row x) (row x) (v.write_lv x) (write_lv x) (join (v.read_lv x) (lv_of t)) (read_lv x)
        (q.read_row n) (q.read_write_lv n) (q.read_read_lv n) (key_read n)
  ]

  key : (y : Key) → KeyGood base K hand' v.ends v.plv y (row y) (write_lv y) (read_lv y)
  key y = elim (cases_key y x) [
    | inl is ↦ subst (λ (k : Key). KeyGood base K hand' v.ends v.plv k (row k) (write_lv k) (read_lv k)) (sym is) key_freed
    | inr ne ↦ key_like base K hand' v.ends v.plv y (v.row y) (row y) (v.write_lv y) (write_lv y) (v.read_lv y) (read_lv y) (q.same_row y ne) (q.same_write_lv y ne) (q.same_read_lv y ne)
        (key_moved base K hand hand' v.ends v.plv y (v.row y) (v.write_lv y) (v.read_lv y) (λ u. holds_other u y ne) (λ u. holds_back u y) (g.keys y))
  ]

  pub free_good : Good procs width base K hand' (record v { row = row; write_lv = write_lv; read_lv = read_lv })
  free_good = record {
    order = g.order;
    hands = λ u i e. elim (cases_eq u w) [
      | inl is ↦
          let same : q.after ≡ i = (let a : hand' w ≡ Some i = subst (λ (k : ℕ). hand' k ≡ Some i) is e in let b : Some q.after ≡ Some i = sym q.now ∙ a in cc) in
          subst (λ (k : ℕ). InPhase procs width K (record v { row = row; write_lv = write_lv; read_lv = read_lv }) k i i.phase) (sym is)
          (subst (λ (a : Hand). InPhase procs width K (record v { row = row; write_lv = write_lv; read_lv = read_lv }) w a a.phase) same (after_phase q.after.phase q.act'))
      | inr ne ↦ let was : hand u ≡ Some i = sym (q.other u ne) ∙ e in phase_kept u i i.phase ne was (g.hands u i was)
    ];
    apart = apart_moved hand hand' w q.other g.apart (alone_less hand w (hand' w) (alone_before hand w g.apart) (λ y m e. (was_held y m e).1));
    keys = key;
  }
