-- A call joins the committed calls.
use Rattle.std.proofs.Common.{ℕ, ◌≤◌, ◌<◌, Bool, true, false, ◌≡◌, ◌⊎◌, inl, inr, List, [], ◌∷◌, ◌++◌, length, refl, sym, ap, subst, ◌∙◌, Option, arith, get_or-set_same}
use Rattle.std.specs.Prelude.{Some, None, slice_index}
use Rattle.std.proofs.lemmas.Bool.{cases_Bool, both_ways, cases_eq, or_cases}
use Rattle.tau_base.specs.declared.value.Key.{Key}
use Rattle.tau_base.specs.declared.value.Value.{Value}
use Rattle.tau_base.specs.declared.value.Mode.{Mode}
use Rattle.tau_base.specs.declared.value.Mode.TheVariants.{Read, Write}
use Rattle.tau_proc.specs.declared.proc.Proc.{Proc}
use Rattle.tau_model.specs.History.{Numbered, Act, Member, Before, Conflict, at_once, through, Depends, touches, updates, updating, redo}
use Rattle.tau_base.specs.Database.{Db, same_key, written}
use Rattle.tau_proc.specs.Effect.{has_key, Agrees}
use Rattle.tau_base.specs.Vectors.{AtMost}
use Rattle.tau_model.specs.Logged.{lv, Place, IsPlaced}
use Rattle.tau_model.proofs.Dbs.{written_apart, written_same}
use Rattle.tau_base.proofs.Keys.{same_key_itself}
use Rattle.tau_model.proofs.Orders.{trace_calls}
use Rattle.tau_machine.specs.Stage.{Stage, Ends, stage, reads_of, writes_of}
use Rattle.tau_machine.specs.Hands.{Txn, means, lv_of, Phase, Running, Quitting, Placed, Freeing, Hand, mode_of, held_in, act_in, act_of, Holds}
use Rattle.tau_machine.specs.Sight.{Sight}
use Rattle.tau_machine.specs.Good.{Light, Runs, Used, Joined, InPhase, Order, KeyGood, Good, Meets}
use Rattle.tau_base.proofs.Vectors.{at_most_trans}
use Rattle.tau_machine.proofs.Stages.{meaning_from_stage, reads_seen}
use Rattle.tau_machine.proofs.Snoc.{member_last, member_snoc, before_snoc, before_front, before_last, depends_front, redo_append, consistent_snoc, consistent_from}
use Rattle.tau_machine.proofs.Own.{holds_moved, apart_moved, alone_before, alone_less}
use Rattle.tau_machine.proofs.Grow.{cause_more, behind_more, in_phase_more}
use Rattle.tau_base.proofs.Logic.{or_true, or_left}
use Rattle.tau_model.proofs.Logged.{member_first, member_second}
use Rattle.tau_model.proofs.Reports.{writes_updates}

pub agrees_like : (seen : List (Key × Value)) (db other : Db) → ((x : Key) → has_key x seen ≡ true → other x ≡ db x) → Agrees seen db → Agrees seen other
agrees_like [] db other same h = tt
agrees_like (r ∷ rs) db other same h =
    (same r.0 (or_left (same_key r.0 r.0) (has_key r.0 rs) (same_key_itself r.0)) ∙ h.0, agrees_like rs db other (λ x e. same x (or_true (same_key x r.0) (has_key x rs) e)) h.1)

module _ (procs : List Proc) (width : ℕ) (base : Db) (K : List (Act Txn)) (v : Sight) (hand : ℕ → Option Hand) (g : Good procs width base K hand v) where
  -- a committed call in hand
  pub in_hand : (u : ℕ) (t : Act Txn) → act_in (hand u) ≡ Some t → (h : Hand) × (hand u ≡ Some h) × Joined procs width K h u t
  in_hand u t e = at (hand u) refl e
    where
      phased : (h : Hand) (p : Phase) → act_of p ≡ Some t → InPhase procs width K v u h p → Joined procs width K h u t
      phased h Running a j = cc
      phased h Quitting a j = cc
      phased h (Placed s) a j = let same : s ≡ t = cc in subst (λ (r : Act Txn). Joined procs width K h u r) same j
      phased h (Freeing s) a j = let same : s ≡ t = cc in subst (λ (r : Act Txn). Joined procs width K h u r) same j

      at : (o : Option Hand) → hand u ≡ o → act_in o ≡ Some t → (h : Hand) × (hand u ≡ Some h) × Joined procs width K h u t
      at None is a = cc
      at (Some h) is a = (h, is, phased h h.phase a (g.hands u h is))

  -- a key that a call holds which has not committed: no committed call in hand wrote it
  pub unwritten : (w : ℕ) (x : Key) (m : Mode) → act_in (hand w) ≡ None → held_in (hand w) x ≡ Some m →
      (t : Act Txn) → Holds hand t x → has_key x t.effect.writes ≡ true → ⊥
  unwritten w x m none held t h e =
      let (hu, is, j) = in_hand h.worker t h.act in
      let mode : h.mode ≡ Write = j.modes x h.mode e (subst (λ (o : Option Hand). held_in o x ≡ Some h.mode) is h.held) in
      let same : h.worker ≡ w = g.apart h.worker w x m (subst (λ (n : Mode). held_in (hand h.worker) x ≡ Some n) mode h.held) held in
      let bad : None ≡ Some t = sym none ∙ ap (λ (u : ℕ). act_in (hand u)) (sym same) ∙ h.act in cc

-- where and how a call joins
pub record Joins (procs : List Proc) (width : ℕ) (K : List (Act Txn)) (v : Sight) (hand hand' : ℕ → Option Hand) (w : ℕ) (h : Hand) (t : Act Txn) (ends : List ℕ) : Type 0 where
  pub is : hand w ≡ Some h
  pub phase : h.phase ≡ Running
  pub ended : stage procs h.call.call h.seen ≡ Ends t.effect
  pub locked : (x : Key) → has_key x t.effect.writes ≡ true → mode_of x h.held ≡ Some Write
  pub call : t.call.call ≡ h.call
  pub whose : t.call.worker ≡ w
  -- its vector: more than the dep only where PLV covers it
  pub dep : AtMost h.dep t.call.place.dep
  pub dep_wide : length h.dep ≤ length t.call.place.dep
  pub dep_ends : AtMost t.call.place.dep v.ends
  pub dep_light : (j : ℕ) → slice_index v.plv j < slice_index t.call.place.dep j → slice_index t.call.place.dep j ≡ slice_index h.dep j
  -- its place
  pub ends_up : AtMost v.ends ends
  pub ends_count : length ends ≡ length v.ends
  pub start : updates t.effect ≡ true → t.call.place.start ≡ slice_index v.ends t.call.place.stream
  pub past : updates t.effect ≡ true → t.call.place.past ≤ slice_index ends t.call.place.stream
  pub goes_on : updates t.effect ≡ true → t.call.place.start < t.call.place.past
  pub stream : updates t.effect ≡ true → t.call.place.stream < width
  -- the hand after it
  pub after : Hand
  pub now : hand' w ≡ Some after
  pub act : act_of after.phase ≡ Some t
  pub held : after.held ≡ h.held
  pub call' : after.call ≡ h.call
  pub other : (u : ℕ) → (u ≡ w → ⊥) → hand' u ≡ hand u

module _ (procs : List Proc) (width : ℕ) (base : Db) (K : List (Act Txn)) (v : Sight) (hand hand' : ℕ → Option Hand) (g : Good procs width base K hand v)
    (w : ℕ) (h : Hand) (t : Act Txn) (ends : List ℕ) (q : Joins procs width K v hand hand' w h t ends) where
  runs : Runs procs width K v h
  runs = subst (λ (p : Phase). InPhase procs width K v w h p) q.phase (g.hands w h q.is)

  idle : act_in (hand w) ≡ None
  idle = subst (λ (o : Option Hand). act_in o ≡ None) (sym q.is) (ap act_of q.phase)

  own_held : (x : Key) (m : Mode) → mode_of x h.held ≡ Some m → held_in (hand w) x ≡ Some m
  own_held x m e = subst (λ (o : Option Hand). held_in o x ≡ Some m) (sym q.is) e

  free_of : (x : Key) (m : Mode) → mode_of x h.held ≡ Some m → (u : Act Txn) → Holds hand u x → has_key x u.effect.writes ≡ true → ⊥
  free_of x m e = unwritten procs width base K v hand g w x m idle (own_held x m e)

  seen_of : (x : Key) → has_key x t.effect.reads ≡ true → has_key x h.seen ≡ true
  seen_of x e = reads_seen procs h.call.call h.seen x (subst (λ (s : Stage). has_key x (reads_of s) ≡ true) (sym q.ended) e)

  held_touched : (x : Key) → touches x t.effect ≡ true → (m : Mode) × (mode_of x h.held ≡ Some m)
  held_touched x e = elim (or_cases (has_key x t.effect.reads) (has_key x t.effect.writes) e) [
    | inl r ↦ runs.kept x (seen_of x r)
    | inr r ↦ (Write, q.locked x r)
  ]

  -- its values are those of the commit order
  agrees : Agrees h.seen (redo K base)
  agrees = agrees_like h.seen v.row (redo K base)
      (λ x e. let (m, p) = runs.kept x e in (g.keys x).freed (free_of x m p)) runs.agrees

  effect_is : means procs t.call (redo K base) ≡ t.effect
  effect_is = ap (λ (c : Numbered). means procs (record t.call { call = c }) (redo K base)) q.call ∙ meaning_from_stage procs h.call.call h.seen (redo K base) agrees t.effect q.ended

  -- an earlier call that conflicts
  ordered_last : (u : Act Txn) → Member u K → Conflict u.effect t.effect → AtMost (lv_of u) t.call.place.dep
  ordered_last u m (k, a, b, c) = elim (cases_Bool (has_key k u.effect.writes)) [
    | inl writes ↦ elim ((g.keys k).wrote u m writes) [
      | inl holds ↦ absurd (let (n, p) = held_touched k b in free_of k n p u holds writes)
      | inr covered ↦ let (n, p) = held_touched k b in
          at_most_trans (lv_of u) (v.write_lv k) t.call.place.dep covered (at_most_trans (v.write_lv k) h.dep t.call.place.dep (runs.write_lv k n p) q.dep)
    ]
    | inr no' ↦
        let by : has_key k t.effect.writes ≡ true = elim (or_cases (has_key k u.effect.writes) (has_key k t.effect.writes) c) [
          | inl y ↦ absurd (both_ways (has_key k u.effect.writes) no' y)
          | inr y ↦ y
        ] in
        let reads : has_key k u.effect.reads ≡ true = elim (or_cases (has_key k u.effect.reads) (has_key k u.effect.writes) a) [
          | inl y ↦ y
          | inr y ↦ absurd (both_ways (has_key k u.effect.writes) no' y)
        ] in
        elim ((g.keys k).read u m reads no') [
          | inl holds ↦ absurd (
              let same : w ≡ holds.worker = g.apart w holds.worker k holds.mode (own_held k Write (q.locked k by)) holds.held in
              let bad : None ≡ Some u = sym idle ∙ ap (λ (i : ℕ). act_in (hand i)) same ∙ holds.act in cc)
          | inr covered ↦ at_most_trans (lv_of u) (v.read_lv k) t.call.place.dep covered (at_most_trans (v.read_lv k) h.dep t.call.place.dep (runs.read_lv k (q.locked k by)) q.dep)
        ]
  ]

  abbrev place_of : Act Txn → Place
  place_of x = x.call.place

  old : IsPlaced place_of (λ x. updates x.effect) v.ends K
  old = g.order.logged.places

  places : IsPlaced place_of (λ x. updates x.effect) ends (K ++ t ∷ [])
  places = record {
    own = λ r m up. elim (member_snoc K t r m) [
      | inl o ↦ old.own r o up
      | inr e ↦ subst (λ (x : Act Txn). slice_index (place_of x).dep (place_of x).stream ≤ (place_of x).start) e
          (let a = q.dep_ends t.call.place.stream in let b = q.start (subst (λ (x : Act Txn). updates x.effect ≡ true) (sym e) up) in omega arith)
    ];
    later = λ s r b up. elim (before_snoc K t s r b) [
      | inl o ↦ old.later s r o up
      | inr p ↦ subst (λ (x : Act Txn). slice_index (place_of s).dep (place_of x).stream ≤ (place_of x).start) p.1
          (let a = old.ended s p.0 t.call.place.stream in let b = q.start (subst (λ (x : Act Txn). updates x.effect ≡ true) (sym p.1) up) in omega arith)
    ];
    starts = λ r s b ur us same. elim (before_snoc K t r s b) [
      | inl o ↦ old.starts r s o ur us same
      | inr p ↦
          let e : t.call.place.start ≡ slice_index v.ends t.call.place.stream = q.start (subst (λ (x : Act Txn). updates x.effect ≡ true) (sym p.1) us) in
          let below : r.call.place.past ≤ slice_index v.ends r.call.place.stream = g.order.pasts r p.0 ur in
          let goes : r.call.place.start < r.call.place.past = (old.placed r p.0 ur).2 in
          let at : r.call.place.stream ≡ t.call.place.stream = same ∙ ap (λ (x : Act Txn). x.call.place.stream) (sym p.1) in
          let there : slice_index v.ends r.call.place.stream ≡ slice_index v.ends t.call.place.stream = ap (slice_index v.ends) at in
          subst (λ (x : Act Txn). r.call.place.start < x.call.place.start) p.1 (omega arith)
    ];
    ended = λ s m. elim (member_snoc K t s m) [
      | inl o ↦ at_most_trans s.call.place.dep v.ends ends (old.ended s o) q.ends_up
      | inr e ↦ subst (λ (x : Act Txn). AtMost (place_of x).dep ends) e (at_most_trans t.call.place.dep v.ends ends q.dep_ends q.ends_up)
    ];
    placed = λ r m up. elim (member_snoc K t r m) [
      | inl o ↦ let p = old.placed r o up in let c = q.ends_count in let a = p.0 in (omega arith, p.1, p.2)
      | inr e ↦ subst (λ (x : Act Txn). ((place_of x).stream < length ends) × ((place_of x).stream < length (place_of x).dep) × ((place_of x).start < (place_of x).past)) e
          (let u : updates t.effect ≡ true = subst (λ (x : Act Txn). updates x.effect ≡ true) (sym e) up in
          let a = q.stream u in let b = q.goes_on u in let c = q.ends_count in let d = g.order.count in let i = wide' in (omega arith, omega arith, b))
    ];
  }
    where
      wide' : width ≤ length t.call.place.dep
      wide' = let a = q.dep_wide in let b = runs.wide in omega arith

  order : Order procs width base (K ++ t ∷ []) ends v.plv
  order = record {
    effects = trace_calls (means procs) (K ++ t ∷ []) base (consistent_snoc (means procs) K t base (consistent_from (means procs) K base g.order.effects) effect_is);
    logged = record {
      ordered = λ a b p c. elim (before_snoc K t a b p) [
        | inl o ↦ g.order.logged.ordered a b o c
        | inr e ↦ subst (λ (x : Act Txn). AtMost (lv_of a) x.call.place.dep) e.1
            (ordered_last a e.0 (subst (λ (x : Act Txn). Conflict a.effect x.effect) (sym e.1) c))
      ];
      places = places;
    };
    pasts = λ r m up. elim (member_snoc K t r m) [
      | inl o ↦ let a = g.order.pasts r o up in let b = q.ends_up r.call.place.stream in omega arith
      | inr e ↦ subst (λ (x : Act Txn). x.call.place.past ≤ slice_index ends x.call.place.stream) e
          (q.past (subst (λ (x : Act Txn). updates x.effect ≡ true) (sym e) up))
    ];
    light = λ r m. elim (member_snoc K t r m) [
      | inl o ↦ λ j lt. behind_more K (t ∷ []) j (slice_index r.call.place.dep j) r (g.order.light r o j lt)
      | inr e ↦ subst (λ (x : Act Txn). Light (K ++ t ∷ []) v.plv x.call.place.dep x) e last_light
    ];
    behind = at_most_trans v.plv v.ends ends g.order.behind q.ends_up;
    count = q.ends_count ∙ g.order.count;
  }
    where
      meets : (m : Mode) (k : Key) (u : Act Txn) → Used procs width m k h → Meets m k u.effect → Conflict u.effect t.effect
      meets Read k u used m =
          let reads : has_key k t.effect.reads ≡ true = subst (λ (s : Stage). has_key k (reads_of s) ≡ true) q.ended used in (
            k,
            or_true (has_key k u.effect.reads) (has_key k u.effect.writes) m,
            or_left (has_key k t.effect.reads) (has_key k t.effect.writes) reads,
            or_left (has_key k u.effect.writes) (has_key k t.effect.writes) m,
          )
      meets Write k u used m =
          let writes : has_key k t.effect.writes ≡ true = subst (λ (s : Stage). has_key k (writes_of s) ≡ true) q.ended used in
          (k, m, or_true (has_key k t.effect.reads) (has_key k t.effect.writes) writes, or_true (has_key k u.effect.writes) (has_key k t.effect.writes) writes)

      last_light : Light (K ++ t ∷ []) v.plv t.call.place.dep t
      last_light j lt =
          let e : slice_index t.call.place.dep j ≡ slice_index h.dep j = q.dep_light j lt in
          let c = runs.light j (rw e at lt) in
          let direct : Depends (K ++ t ∷ []) t c.cause.by = at_once (before_last K t c.cause.by c.cause.there) (meets c.mode c.key c.cause.by (runs.used c.key c.mode c.held) c.cause.because) in
          rw e (record {
            last = c.cause.reaches.last;
            up = c.cause.reaches.up;
            stream = c.cause.reaches.stream;
            past = c.cause.reaches.past;
            how = elim c.cause.reaches.how [
              | inl is ↦ subst (λ (x : Act Txn). Depends (K ++ t ∷ []) t x) is direct
              | inr d ↦ through direct (depends_front K (t ∷ []) c.cause.by c.cause.reaches.last d)
            ];
          })

  -- w holds in hand' what it held
  now_held : (x : Key) (m : Mode) → mode_of x h.held ≡ Some m → held_in (hand' w) x ≡ Some m
  now_held x m e = subst (λ (o : Option Hand). held_in o x ≡ Some m) (sym q.now) (subst (λ (l : List (Key × Mode)). mode_of x l ≡ Some m) (sym q.held) e)

  was_held : (x : Key) (m : Mode) → held_in (hand' w) x ≡ Some m → mode_of x h.held ≡ Some m
  was_held x m e = subst (λ (l : List (Key × Mode)). mode_of x l ≡ Some m) q.held (subst (λ (o : Option Hand). held_in o x ≡ Some m) q.now e)

  now_act : act_in (hand' w) ≡ Some t
  now_act = subst (λ (o : Option Hand). act_in o ≡ Some t) (sym q.now) q.act

  holds_last : (x : Key) (m : Mode) → mode_of x h.held ≡ Some m → Holds hand' t x
  holds_last x m e = record { worker = w; mode = m; act = now_act; held = now_held x m e }

  holds_still : (u : Act Txn) (x : Key) → Holds hand u x → Holds hand' u x
  holds_still u x = holds_moved hand hand' w u x q.other (λ b. absurd (let bad : None ≡ Some u = sym idle ∙ b.act in cc))

  -- who holds is t, or held
  who_holds : (u : Act Txn) (x : Key) → Holds hand' u x → (t ≡ u) ⊎ Holds hand u x
  who_holds u x o = elim (cases_eq o.worker w) [
    | inl is ↦ inl (let a : act_in (hand' w) ≡ Some u = subst (λ (i : ℕ). act_in (hand' i) ≡ Some u) is o.act in let b : Some t ≡ Some u = sym now_act ∙ a in cc)
    | inr ne ↦ inr (record {
      worker = o.worker;
      mode = o.mode;
      act = subst (λ (i : Option Hand). act_in i ≡ Some u) (q.other o.worker ne) o.act;
      held = subst (λ (i : Option Hand). held_in i x ≡ Some o.mode) (q.other o.worker ne) o.held;
    })
  ]

  -- the call is not among those that have committed
  not_yet : (x : Key) → has_key x t.effect.writes ≡ true → Member t K → ⊥
  not_yet x e m = elim ((g.keys x).wrote t m e) [
    | inl h ↦ free_of x Write (q.locked x e) t h e
    | inr covered ↦
        let up : updates t.effect ≡ true = writes_updates t.effect.writes x e in
        let p = old.placed t m up in
        let at = get_or-set_same t.call.place.dep t.call.place.stream t.call.place.past 0 p.1 in
        let raised : AtMost (lv true t.call.place) t.call.place.dep = subst (λ (b : Bool). AtMost (lv b t.call.place) t.call.place.dep) up
        (at_most_trans (lv_of t) (v.write_lv x) t.call.place.dep covered (at_most_trans (v.write_lv x) h.dep t.call.place.dep (runs.write_lv x Write (q.locked x e)) q.dep)) in
        let high : t.call.place.past ≤ slice_index t.call.place.dep t.call.place.stream = rw at at (raised t.call.place.stream) in
        let low = old.own t m up in
        let goes = p.2 in
        absurd (omega arith)
  ]

  key : (x : Key) → KeyGood base (K ++ t ∷ []) hand' ends v.plv x (v.row x) (v.write_lv x) (v.read_lv x)
  key x = record {
    below_write_lv = at_most_trans (v.write_lv x) v.ends ends (g.keys x).below_write_lv q.ends_up;
    below_read_lv = at_most_trans (v.read_lv x) v.ends ends (g.keys x).below_read_lv q.ends_up;
    wrote = λ u m e. elim (member_snoc K t u m) [
      | inl o ↦ elim ((g.keys x).wrote u o e) [ inl a ↦ inl (holds_still u x a) | inr a ↦ inr a ]
      | inr is ↦ inl (subst (λ (a : Act Txn). Holds hand' a x) is
          (holds_last x Write (q.locked x (subst (λ (a : Act Txn). has_key x a.effect.writes ≡ true) (sym is) e))))
    ];
    read = λ u m e n. elim (member_snoc K t u m) [
      | inl o ↦ elim ((g.keys x).read u o e n) [ inl a ↦ inl (holds_still u x a) | inr a ↦ inr a ]
      | inr is ↦ inl (let (m', p) = runs.kept x (seen_of x (subst (λ (a : Act Txn). has_key x a.effect.reads ≡ true) (sym is) e)) in
          subst (λ (a : Act Txn). Holds hand' a x) is (holds_last x m' p))
    ];
    freed = λ none. elim (cases_Bool (has_key x t.effect.writes)) [
      | inl writes ↦ absurd (none t (holds_last x Write (q.locked x writes)) writes)
      | inr no' ↦ redone ∙ written_apart t.effect.writes (redo K base) x no' ∙ (g.keys x).freed (λ u o. none u (holds_still u x o))
    ];
    unfreed = λ u o e. elim (who_holds u x o) [
      | inl is ↦
          let writes : has_key x t.effect.writes ≡ true = subst (λ (a : Act Txn). has_key x a.effect.writes ≡ true) (sym is) e in
          redone ∙ written_same t.effect.writes (redo K base) base x writes ∙ ap (λ (a : Act Txn). written a.effect.writes base x) is
      | inr p ↦ elim (cases_Bool (has_key x t.effect.writes)) [
        | inl writes ↦ absurd (free_of x Write (q.locked x writes) u p e)
        | inr no' ↦ redone ∙ written_apart t.effect.writes (redo K base) x no' ∙ (g.keys x).unfreed u p e
      ]
    ];
    last = λ r o e u b f. elim (who_holds r x o) [
      | inl is ↦
          let writes : has_key x t.effect.writes ≡ true = subst (λ (a : Act Txn). has_key x a.effect.writes ≡ true) (sym is) e in
          elim (before_snoc K t r u b) [
            | inl c ↦ not_yet x writes (subst (λ (a : Act Txn). Member a K) (sym is) (member_first r u K c))
            | inr c ↦ not_yet x writes (subst (λ (a : Act Txn). Member a K) (sym is) c.0)
          ]
      | inr p ↦ elim (before_snoc K t r u b) [
        | inl c ↦ (g.keys x).last r p e u c f
        | inr c ↦ free_of x Write (q.locked x (subst (λ (a : Act Txn). has_key x a.effect.writes ≡ true) (sym c.1) f)) r p e
      ]
    ];
    row_of = λ r m e none later. elim (member_snoc K t r m) [
      | inl o ↦ (g.keys x).row_of r o e (λ h. none (holds_still r x h)) (λ u b f. elim (who_holds u x (later u (before_front r u K (t ∷ []) b) f)) [
        | inl is ↦ absurd (not_yet x (subst (λ (a : Act Txn). has_key x a.effect.writes ≡ true) (sym is) f) (subst (λ (a : Act Txn). Member a K) (sym is) (member_second r u K b)))
        | inr p ↦ p
      ])
      | inr is ↦ absurd (none (subst (λ (a : Act Txn). Holds hand' a x) is (holds_last x Write (q.locked x (subst (λ (a : Act Txn). has_key x a.effect.writes ≡ true) (sym is) e)))))
    ];
    light_write_lv = λ j lt. cause_more K (t ∷ []) j (slice_index (v.write_lv x) j) (λ u. has_key x u.effect.writes ≡ true) ((g.keys x).light_write_lv j lt);
    light_read_lv = λ j lt. cause_more K (t ∷ []) j (slice_index (v.read_lv x) j) (λ u. touches x u.effect ≡ true) ((g.keys x).light_read_lv j lt);
  }
    where
      redone : redo (K ++ t ∷ []) base x ≡ written t.effect.writes (redo K base) x
      redone = ap (λ (d : Db). d x) (redo_append K (t ∷ []) base)

  joined : Joined procs width (K ++ t ∷ []) q.after w t
  joined = record {
    there = member_last K t;
    whose = q.whose;
    call = q.call ∙ sym q.call';
    modes = λ x m e a.
        let was : mode_of x h.held ≡ Some m = subst (λ (l : List (Key × Mode)). mode_of x l ≡ Some m) q.held a in
        let b : Some Write ≡ Some m = sym (q.locked x e) ∙ was in let c : Write ≡ m = cc in sym c;
    touched = λ x m a. by_mode x m (runs.used x m (subst (λ (l : List (Key × Mode)). mode_of x l ≡ Some m) q.held a));
  }
    where
      by_mode : (x : Key) (m : Mode) → Used procs width m x h → touches x t.effect ≡ true
      by_mode x Read u = or_left (has_key x t.effect.reads) (has_key x t.effect.writes) (subst (λ (s : Stage). has_key x (reads_of s) ≡ true) q.ended u)
      by_mode x Write u = or_true (has_key x t.effect.reads) (has_key x t.effect.writes) (subst (λ (s : Stage). has_key x (writes_of s) ≡ true) q.ended u)

  joined_phase : (p : Phase) → act_of p ≡ Some t → InPhase procs width (K ++ t ∷ []) (record v { ends = ends }) w q.after p
  joined_phase Running e = cc
  joined_phase Quitting e = cc
  joined_phase (Placed u) e = let same : t ≡ u = cc in subst (λ (a : Act Txn). Joined procs width (K ++ t ∷ []) q.after w a) same joined
  joined_phase (Freeing u) e = let same : t ≡ u = cc in subst (λ (a : Act Txn). Joined procs width (K ++ t ∷ []) q.after w a) same joined

  pub join_good : Good procs width base (K ++ t ∷ []) hand' (record v { ends = ends })
  join_good = record {
    order = order;
    hands = λ u i e. elim (cases_eq u w) [
      | inl is ↦
          let same : q.after ≡ i = (let a : hand' w ≡ Some i = subst (λ (k : ℕ). hand' k ≡ Some i) is e in let b : Some q.after ≡ Some i = sym q.now ∙ a in cc) in
          subst (λ (k : ℕ). InPhase procs width (K ++ t ∷ []) (record v { ends = ends }) k i i.phase) (sym is)
          (subst (λ (a : Hand). InPhase procs width (K ++ t ∷ []) (record v { ends = ends }) w a a.phase) same (joined_phase q.after.phase q.act))
      | inr ne ↦ in_phase_more K (t ∷ []) procs width v ends q.ends_up u i i.phase (g.hands u i (sym (q.other u ne) ∙ e))
    ];
    apart = apart_moved hand hand' w q.other g.apart
        (alone_less hand w (hand' w) (alone_before hand w g.apart) (λ x m e. own_held x m (was_held x m e)));
    keys = key;
  }
