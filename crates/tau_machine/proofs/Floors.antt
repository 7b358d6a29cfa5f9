-- The floor of an opening stays below all vectors of calls that write.
use Rattle.std.proofs.Common.{ℕ, Bool, true, false, ◌≡◌, ◌⊎◌, inl, inr, Option, Some, None, List, [], ◌∷◌, ◌++◌, refl, sym, ap, subst, ◌∙◌, ◌==◌, if◌then◌else◌}
use Rattle.std.specs.Map.{lookup}
use Rattle.std.proofs.lemmas.Bool.{cases_Bool, eqb-true}
use Rattle.tau_base.specs.declared.value.Key.{Key}
use Rattle.tau_base.specs.declared.value.Value.{Value}
use Rattle.tau_base.specs.declared.value.Mode.{Mode}
use Rattle.tau_base.specs.declared.value.Mode.TheVariants.{Read, Write}
use Rattle.tau_base.specs.Database.{same_key}
use Rattle.tau_base.specs.declared.limits.TheConstants.{MAX_TRIES}
use Rattle.std.proofs.lemmas.List.{append-nil}
use Rattle.tau_base.specs.Vectors.{AtMost, join}
use Rattle.tau_base.proofs.Vectors.{at_most_trans, join_left, join_right}
use Rattle.tau_model.specs.History.{Numbered, Act, Member, updates, updating}
use Rattle.tau_machine.specs.Stage.{Stage}
use Rattle.tau_machine.specs.Hands.{Txn, Hand, Placed, Freeing, act_of, mode_of, lv_of}
use Rattle.tau_shard.specs.Shard.{at, Entry, Shard, entry_or, entry_in, put_entry, held_as, shard_locked, shard_quit, shard_freed, Dropped}
use Rattle.tau_machine.specs.Worker.{Worker, fresh, begun_by, begun, held_writing, unlocked, write_want, lock_of, hand_locked, settled_by, settled, hand_busy, hand_quit, hand_joined, hand_freed}
use Rattle.tau_machine.specs.State.{Setting, Core}
use Rattle.tau_machine.specs.Events.{Event, Lock, Busy, Quit, Commit, Post, Free, FirstFree, Done, DoneReading, Drop, Gather, PlaceAnchor, Persist, Ack, Stop, Resume, Leads, ready, Locks, Refuses, Quits, Commits, Posts, Reads, Frees, Finishes, Gathered, stop, record_first, anchor_first}
use Rattle.tau_machine.specs.Above.{Above, AboveTheorem}

module _ (low : List ℕ) where
  -- floor and entries of a shard
  record ShardAbove (sh : Shard) : Type 0 where
    pub floor : AtMost low sh.floor
    pub entries : (x : Key) (e : Entry) → sh.entries x ≡ Some e → AtMost low e.write_lv × AtMost low e.read_lv

  -- the dep of a call that holds a key and has not committed
  abbrev HandAbove : Option Hand → Type 0
  HandAbove o = (h : Hand) (x : Key) (m : Mode) → o ≡ Some h → act_of h.phase ≡ None → mode_of x h.held ≡ Some m → AtMost low h.dep

  -- the dep of a committed call that writes
  abbrev ActAbove : Act Txn → Type 0
  ActAbove t = updates t.effect ≡ true → AtMost low t.call.place.dep

  -- ---- the parts, after each change

  at_above : {A : Type 0} (P : A → Type 0) (i : ℕ) (a : A) (f : ℕ → A) → P a → ((j : ℕ) → P (f j)) → (j : ℕ) → P (at i a f j)
  at_above {A} P i a f here all j = elim (cases_Bool (j == i)) [
    | inl t ↦ subst (λ (b : Bool). P (if b then a else f j)) (sym t) here
    | inr e ↦ subst (λ (b : Bool). P (if b then a else f j)) (sym e) (all j)
  ]

  some_is : {A : Type 0} (a b : A) → Some a ≡ Some b → a ≡ b
  some_is a b e = cc e

  entry_above : (sh : Shard) → ShardAbove sh → (x : Key) → AtMost low (entry_in sh x).write_lv × AtMost low (entry_in sh x).read_lv
  entry_above sh ok x = by (sh.entries x) refl
    where
      by : (o : Option Entry) → sh.entries x ≡ o → AtMost low (entry_or sh.floor o).write_lv × AtMost low (entry_or sh.floor o).read_lv
      by None e = (ok.floor, ok.floor)
      by (Some en) e = ok.entries x en e

  put_above : (sh : Shard) (x : Key) (e : Entry) → ShardAbove sh → AtMost low e.write_lv × AtMost low e.read_lv → ShardAbove (put_entry sh x e)
  put_above sh x e ok new = record {
    floor = ok.floor;
    entries = λ y o is. elim (cases_Bool (same_key y x)) [
      | inl t ↦
          let same : e ≡ o = some_is e o (subst (λ (b : Bool). (if b then Some e else sh.entries y) ≡ Some o) t is) in
          subst (λ (z : Entry). AtMost low z.write_lv × AtMost low z.read_lv) same new
      | inr f ↦ ok.entries y o (subst (λ (b : Bool). (if b then Some e else sh.entries y) ≡ Some o) f is)
    ];
  }

  locked_above : (sh : Shard) (w : ℕ) (x : Key) (m : Mode) → ShardAbove sh → ShardAbove (shard_locked sh w x m)
  locked_above sh w x m ok = put_above sh x (held_as (entry_in sh x) w (Some m)) ok (entry_above sh ok x)

  quit_above : (sh : Shard) (w : ℕ) (x : Key) → ShardAbove sh → ShardAbove (shard_quit sh w x)
  quit_above sh w x ok = put_above sh x (held_as (entry_in sh x) w None) ok (entry_above sh ok x)

  freed_above : (sh : Shard) (w : ℕ) (x : Key) (lv : List ℕ) (value : Option Value) → ShardAbove sh → ShardAbove (shard_freed sh w x lv value)
  freed_above sh w x lv None ok =
      let e = entry_above sh ok x in
      put_above sh x (let h = held_as (entry_in sh x) w None in record h { read_lv = join h.read_lv lv }) ok (e.0, at_most_trans low (entry_in sh x).read_lv (join (entry_in sh x).read_lv lv) e.1 (join_left (entry_in sh x).read_lv lv))
  freed_above sh w x lv (Some v) ok =
      let e = entry_above sh ok x in
      let p = put_above sh x (let h = held_as (entry_in sh x) w None in record h { write_lv = join h.write_lv lv }) ok (at_most_trans low (entry_in sh x).write_lv (join (entry_in sh x).write_lv lv) e.0 (join_left (entry_in sh x).write_lv lv), e.1) in
      record { floor = p.floor; entries = p.entries }

  dropped_above : (v : List ℕ) (sh new : Shard) → Dropped v sh new → ShardAbove sh → ShardAbove new
  dropped_above v sh new d ok = record {
    floor = at_most_trans low sh.floor new.floor ok.floor d.up;
    entries = λ x e is. elim (d.stays x) [
      | inl same ↦ ok.entries x e (sym same ∙ is)
      | inr gone ↦ absurd (let f = sym gone.0 ∙ is in cc f)
    ];
  }

  none_above : HandAbove None
  none_above h x m e p q = absurd (cc e)

  fresh_above : (width : ℕ) (c : Numbered) (tries : ℕ) → HandAbove (Some (fresh width c tries))
  fresh_above width c tries h x m e p q =
      let same : fresh width c tries ≡ h = some_is (fresh width c tries) h e in
      absurd (let f : mode_of x (fresh width c tries).held ≡ Some m = subst (λ (g : Hand). mode_of x g.held ≡ Some m) (sym same) q in cc f)

  -- a hand whose dep covers it, or that has committed
  low_above : (h : Hand) → AtMost low h.dep → HandAbove (Some h)
  low_above h le g x m e p q = subst (λ (z : Hand). AtMost low z.dep) (some_is h g e) le

  joined_above : (h : Hand) (t : Act Txn) → act_of h.phase ≡ Some t → HandAbove (Some h)
  joined_above h t is g x m e p q = absurd (let f : Some t ≡ None = sym is ∙ subst (λ (z : Hand). act_of z.phase ≡ None) (sym (some_is h g e)) p in cc f)

  begun_above : (width : ℕ) (wk : Worker) → HandAbove wk.hand → HandAbove (begun width wk).hand
  begun_above width wk ok = by wk.hand wk.waiting refl
    where
      by : (o : Option Hand) (cs : List Numbered) → wk.hand ≡ o → HandAbove (begun_by width wk o cs).hand
      by (Some h) cs e = ok
      by None [] e = ok
      by None (c ∷ cs) e = fresh_above width c 0

  -- a call that is to quit
  settled_above : (width : ℕ) (wk : Worker) (h : Hand) → HandAbove (Some h) → HandAbove (settled width wk h).hand
  settled_above width wk h ok = by h.held h.given_up (h.tries == MAX_TRIES)
    where
      by : (held : List (Key × Mode)) (up last : Bool) → HandAbove (settled_by width wk h held up last).hand
      by (k ∷ ks) up last = ok
      by [] true last = none_above
      by [] false true = none_above
      by [] false false = fresh_above width h.call h.tries

  -- the hand is another one with the same keys and the same dep, that has not committed
  same_above : (h g : Hand) → act_of h.phase ≡ None → g.dep ≡ h.dep → g.held ≡ h.held → HandAbove (Some h) → HandAbove (Some g)
  same_above h g phase dep held ok z x m e p q =
      let is : g ≡ z = some_is g z e in
      let key : mode_of x h.held ≡ Some m = subst (λ (l : List (Key × Mode)). mode_of x l ≡ Some m) held (subst (λ (y : Hand). mode_of x y.held ≡ Some m) (sym is) q) in
      subst (λ (y : Hand). AtMost low y.dep) is (subst (AtMost low) (sym dep) (ok h x m refl phase key))

  writing_mode : (o : Option Mode) → held_writing o ≡ true → (m : Mode) × (o ≡ Some m)
  writing_mode None e = absurd (cc e)
  writing_mode (Some Read) e = absurd (cc e)
  writing_mode (Some Write) e = (Write, refl)

  -- a call that writes and wants no lock holds a key
  holds_one : (ws : List (Key × Value)) (held : List (Key × Mode)) → updating ws ≡ true → write_want (unlocked ws held) ≡ None → (x : Key) × (m : Mode) × (mode_of x held ≡ Some m)
  holds_one [] held up none = absurd (cc up)
  holds_one (w ∷ ws) held up none = elim (cases_Bool (held_writing (mode_of w.0 held))) [
    | inl t ↦ let m = writing_mode (mode_of w.0 held) t in (w.0, m.0, m.1)
    | inr f ↦ absurd (let g : write_want (Some w.0) ≡ None = subst (λ (b : Bool). write_want (if b then unlocked ws held else Some w.0) ≡ None) f none in cc g)
  ]

  member_more : (t : Act Txn) (K : List (Act Txn)) (u : Act Txn) → Member t (K ++ u ∷ []) → Member t K ⊎ (u ≡ t)
  member_more t [] u (inl e) = inr e
  member_more t [] u (inr m) = absurd m
  member_more t (k ∷ K) u (inl e) = inl (inl e)
  member_more t (k ∷ K) u (inr m) = elim (member_more t K u m) [ inl p ↦ inl (inr p) | inr e ↦ inr e ]

  more_deps : (K : List (Act Txn)) (u : Act Txn) → ((t : Act Txn) → Member t K → ActAbove t) → ActAbove u → (t : Act Txn) → Member t (K ++ u ∷ []) → ActAbove t
  more_deps K u all here t m = elim (member_more t K u m) [ inl p ↦ all t p | inr e ↦ subst ActAbove e here ]

  module _ (set : Setting) where
    -- what holds of a shard that a key has
    abbrev Here : ℕ → Shard → Type 0
    Here i sh = (x : Key) → set.shard_of x ≡ i → ShardAbove sh

    -- `Above`, part by part
    record PartsAbove (K : List (Act Txn)) (s : Core) : Type 0 where
      pub shards : (i : ℕ) → Here i (s.shards i)
      pub hands : (w : ℕ) → HandAbove (s.workers w).hand
      pub deps : (t : Act Txn) → Member t K → ActAbove t

    to_parts : (K : List (Act Txn)) (s : Core) → Above set low K s → PartsAbove K s
    to_parts K s a = record {
      shards = λ i x own. subst (λ (k : ℕ). ShardAbove (s.shards k)) own (record { floor = a.floors x; entries = a.entries x });
      hands = λ w h x m e p q. a.hands w h x m e p q;
      deps = a.deps;
    }

    from_parts : (K : List (Act Txn)) (s : Core) → PartsAbove K s → Above set low K s
    from_parts K s o = record {
      floors = λ x. (o.shards (set.shard_of x) x refl).floor;
      entries = λ x. (o.shards (set.shard_of x) x refl).entries;
      hands = λ w h x m e p q. o.hands w h x m e p q;
      deps = o.deps;
    }

    shards_above : (i : ℕ) (a : Shard) (f : ℕ → Shard) → Here i a → ((j : ℕ) → Here j (f j)) → (j : ℕ) → Here j (at i a f j)
    shards_above i a f here all j = elim (cases_Bool (j == i)) [
      | inl t ↦ subst (λ (b : Bool). Here j (if b then a else f j)) (sym t) (subst (λ (k : ℕ). Here k a) (sym (eqb-true j i t)) here)
      | inr e ↦ subst (λ (b : Bool). Here j (if b then a else f j)) (sym e) (all j)
    ]

    ready_above : (K : List (Act Txn)) (s : Core) (w : ℕ) → PartsAbove K s → HandAbove (ready set s w).hand
    ready_above K s w o = begun_above set.width (s.workers w) (o.hands w)

    module _ (K : List (Act Txn)) (w : ℕ) (s s' : Core) (o : PartsAbove K s) (l : Locks set w s s') where
      abbrev sh : Shard
      sh = s.shards (set.shard_of l.key)

      abbrev e : Entry
      e = entry_in sh l.key

      here : ShardAbove sh
      here = o.shards (set.shard_of l.key) l.key refl

      taken : (m : Mode) → AtMost low (hand_locked l.hand l.key m (sh.rows l.key) e.write_lv e.read_lv).dep
      taken Read = at_most_trans low e.write_lv (join l.hand.dep e.write_lv) (entry_above sh here l.key).0 (join_right l.hand.dep e.write_lv)
      taken Write = at_most_trans low e.read_lv (join (join l.hand.dep e.write_lv) e.read_lv) (entry_above sh here l.key).1 (join_right (join l.hand.dep e.write_lv) e.read_lv)

      locks : PartsAbove K s'
      locks = subst (PartsAbove K) (sym l.after) (record {
        shards = shards_above (set.shard_of l.key) (shard_locked sh w l.key l.mode) s.shards (λ x own. locked_above sh w l.key l.mode here) o.shards;
        hands = at_above (λ (k : Worker). HandAbove k.hand) w (record (ready set s w) { hand = Some (hand_locked l.hand l.key l.mode (sh.rows l.key) e.write_lv e.read_lv) }) s.workers
            (low_above (hand_locked l.hand l.key l.mode (sh.rows l.key) e.write_lv e.read_lv) (taken l.mode)) o.hands;
        deps = o.deps;
      })

    is_in_hand : (o : Option Hand) (h : Hand) → o ≡ Some h → HandAbove o → HandAbove (Some h)
    is_in_hand o h e ok = subst HandAbove e ok

    refuses : (K : List (Act Txn)) (w : ℕ) (s s' : Core) → PartsAbove K s → Refuses set w s s' → PartsAbove K s'
    refuses K w s s' o r = subst (PartsAbove K) (sym r.after) (record {
      shards = o.shards;
      hands = at_above (λ (k : Worker). HandAbove k.hand) w (settled set.width (ready set s w) (hand_busy r.hand)) s.workers
          (settled_above set.width (ready set s w) (hand_busy r.hand) (same_above r.hand (hand_busy r.hand) (ap act_of r.phase) refl refl (is_in_hand (ready set s w).hand r.hand r.is (ready_above K s w o)))) o.hands;
      deps = o.deps;
    })

    quits : (K : List (Act Txn)) (w : ℕ) (up : Bool) (s s' : Core) → PartsAbove K s → Quits set w up s s' → PartsAbove K s'
    quits K w up s s' o q = subst (PartsAbove K) (sym q.after) (record {
      shards = shards_above (set.shard_of q.key) (shard_quit (s.shards (set.shard_of q.key)) w q.key) s.shards (λ x own. quit_above (s.shards (set.shard_of q.key)) w q.key (o.shards (set.shard_of q.key) q.key refl)) o.shards;
      hands = at_above (λ (k : Worker). HandAbove k.hand) w (settled set.width (s.workers w) (hand_quit q.hand q.key up)) s.workers (settled_above set.width (s.workers w) (hand_quit q.hand q.key up) (low_above (hand_quit q.hand q.key up) covered)) o.hands;
      deps = o.deps;
    })
      where
        not_placed : act_of q.hand.phase ≡ None
        not_placed = elim q.phase [ inl p ↦ ap act_of p | inr p ↦ ap act_of p.0 ]

        covered : AtMost low q.hand.dep
        covered = o.hands w q.hand q.key q.mode q.is not_placed q.held

    commits : (K : List (Act Txn)) (w : ℕ) (s s' : Core) (t : Act Txn) → PartsAbove K s → Commits set w s s' t → PartsAbove (K ++ t ∷ []) s'
    commits K w s s' t o c = subst (PartsAbove (K ++ t ∷ [])) (sym c.after) (record {
      shards = o.shards;
      hands = at_above (λ (k : Worker). HandAbove k.hand) w _ s.workers (joined_above (hand_joined c.hand (Placed t) t.call.place.dep) t refl) o.hands;
      deps = more_deps K t o.deps (λ up. subst (λ (u : Act Txn). AtMost low u.call.place.dep) (sym c.act) (at_most_trans low c.hand.dep (join c.hand.dep c.anchor) covered (join_left c.hand.dep c.anchor)));
    })
      where
        none : write_want (unlocked c.effect.writes c.hand.held) ≡ None
        none = subst (λ (g : Stage). lock_of g c.hand.held ≡ None) c.ended c.locked

        covered : AtMost low c.hand.dep
        covered =
            let one = holds_one c.effect.writes c.hand.held c.updates none in
            ready_above K s w o c.hand one.0 one.1 c.is (ap act_of c.phase) one.2

    posts : (K : List (Act Txn)) (w : ℕ) (s s' : Core) → PartsAbove K s → Posts set w s s' → PartsAbove K s'
    posts K w s s' o p = subst (PartsAbove K) (sym p.after) (record {
      shards = o.shards;
      hands = at_above (λ (k : Worker). HandAbove k.hand) w (record (s.workers w) { hand = Some (record p.hand { phase = Freeing p.act }) }) s.workers (joined_above (record p.hand { phase = Freeing p.act }) p.act refl) o.hands;
      deps = o.deps;
    })

    reads : (K : List (Act Txn)) (w : ℕ) (s s' : Core) (t : Act Txn) → PartsAbove K s → Reads set w s s' t → PartsAbove (K ++ t ∷ []) s'
    reads K w s s' t o r = subst (PartsAbove (K ++ t ∷ [])) (sym r.after) (record {
      shards = o.shards;
      hands = at_above (λ (k : Worker). HandAbove k.hand) w _ s.workers (joined_above (hand_joined r.hand (Freeing t) r.hand.dep) t refl) o.hands;
      deps = more_deps K t o.deps (λ up. absurd (let f : updating r.effect.writes ≡ true = subst (λ (u : Act Txn). updates u.effect ≡ true) r.act up in let g = sym (ap updating r.no_write) ∙ f in cc g));
    })

    frees : (K : List (Act Txn)) (w : ℕ) (s s' : Core) → PartsAbove K s → Frees set w s s' → PartsAbove K s'
    frees K w s s' o f = subst (PartsAbove K) (sym f.after) (record {
      shards = shards_above (set.shard_of f.key) (shard_freed (s.shards (set.shard_of f.key)) w f.key (lv_of f.act) (lookup (same_key f.key) f.act.effect.writes)) s.shards
          (λ x own. freed_above (s.shards (set.shard_of f.key)) w f.key (lv_of f.act) (lookup (same_key f.key) f.act.effect.writes) (o.shards (set.shard_of f.key) f.key refl)) o.shards;
      hands = at_above (λ (k : Worker). HandAbove k.hand) w (record (s.workers w) { hand = Some (hand_freed f.hand f.key) }) s.workers (joined_above (hand_freed f.hand f.key) f.act (ap act_of f.phase)) o.hands;
      deps = o.deps;
    })

    finishes : (K : List (Act Txn)) (w : ℕ) (s s' : Core) → PartsAbove K s → Finishes set w s s' → PartsAbove K s'
    finishes K w s s' o f = subst (PartsAbove K) (sym f.after) (record {
      shards = o.shards;
      hands = at_above (λ (k : Worker). HandAbove k.hand) w (record (s.workers w) { hand = None }) s.workers none_above o.hands;
      deps = o.deps;
    })

    gathers : (K : List (Act Txn)) (j : ℕ) (s s' : Core) → PartsAbove K s → Gathered set j s s' → PartsAbove K s'
    gathers K j s s' o stop = o
    gathers K j s s' o (record_first {m = m} w g rest) = gathers K j m s' (subst (PartsAbove K) (sym g.after) (record { shards = o.shards; hands = o.hands; deps = o.deps })) rest
    gathers K j s s' o (anchor_first {m = m} g rest) = gathers K j m s' (subst (PartsAbove K) (sym g.after) (record { shards = o.shards; hands = o.hands; deps = o.deps })) rest

    same_calls : (K new : List (Act Txn)) (s : Core) → new ≡ [] → PartsAbove K s → PartsAbove (K ++ new) s
    same_calls [] new s e o = subst (λ (l : List (Act Txn)). PartsAbove l s) (sym e) o
    same_calls (k ∷ K) new s e o = subst (λ (l : List (Act Txn)). PartsAbove (k ∷ K ++ l) s) (sym e) (subst (λ (l : List (Act Txn)). PartsAbove l s) (sym (append-nil (k ∷ K))) o)

    leads : (K new : List (Act Txn)) (e : Event) (s s' : Core) → PartsAbove K s → Leads set e s s' new → PartsAbove (K ++ new) s'
    leads K new (Lock w) s s' o l = same_calls K new s' l.1 (locks K w s s' o l.0)
    leads K new (Busy w) s s' o l = same_calls K new s' l.1 (refuses K w s s' o l.0)
    leads K new (Quit w up) s s' o l = same_calls K new s' l.1 (quits K w up s s' o l.0)
    leads K new (Commit w) s s' o l = subst (λ (n : List (Act Txn)). PartsAbove (K ++ n) s') (sym l.2) (commits K w s s' l.0 o l.1)
    leads K new (Post w) s s' o l = same_calls K new s' l.1 (posts K w s s' o l.0)
    leads K new (Free w) s s' o l = same_calls K new s' l.1 (frees K w s s' o l.0)
    leads K new (FirstFree w) s s' o l = subst (λ (n : List (Act Txn)). PartsAbove (K ++ n) s') (sym l.4) (frees (K ++ l.1 ∷ []) w l.0 s' (reads K w s l.0 l.1 o l.2) l.3)
    leads K new (Done w) s s' o l = same_calls K new s' l.1 (finishes K w s s' o l.0)
    leads K new (DoneReading w) s s' o l = subst (λ (n : List (Act Txn)). PartsAbove (K ++ n) s') (sym l.4) (finishes (K ++ l.1 ∷ []) w l.0 s' (reads K w s l.0 l.1 o l.2) l.3)
    leads K new (Drop i v) s s' o l = same_calls K new s' l.1 (subst (PartsAbove K) (sym l.0.after) (record { shards = shards_above i l.0.shard s.shards (λ x own. dropped_above v (s.shards i) l.0.shard l.0.dropped (o.shards i x own)) o.shards; hands = o.hands; deps = o.deps }))
    leads K new (Gather j) s s' o l = same_calls K new s' l.1 (gathers K j s s' o l.0)
    leads K new (PlaceAnchor j v) s s' o l = same_calls K new s' l.1 (subst (PartsAbove K) (sym l.0.after) (record { shards = o.shards; hands = o.hands; deps = o.deps }))
    leads K new (Persist j upto) s s' o l = same_calls K new s' l.1 (subst (PartsAbove K) (sym l.0.after) (record { shards = o.shards; hands = o.hands; deps = o.deps }))
    leads K new (Ack w v) s s' o l = same_calls K new s' l.1 (subst (PartsAbove K) (sym l.0.after) (record { shards = o.shards; hands = o.hands; deps = o.deps }))
    leads K new (Stop j upto) s s' o l = same_calls K new s' l.1 (subst (PartsAbove K) (sym l.0.after) (record { shards = o.shards; hands = o.hands; deps = o.deps }))
    leads K new (Resume w) s s' o l = same_calls K new s' l.1 (subst (PartsAbove K) (sym l.0.after) (record {
      shards = o.shards;
      hands = at_above (λ (k : Worker). HandAbove k.hand) w (record (s.workers w) { waiting = l.0.call ∷ []; left = l.0.front ++ l.0.back }) s.workers (o.hands w) o.hands;
      deps = o.deps;
    }))

pub above_theorem : AboveTheorem
above_theorem set low = (
  λ s opens floors. record {
    floors = floors;
    entries = λ x y e is. absurd (let f = sym (opens.entries (set.shard_of x) y) ∙ is in cc f);
    hands = λ w h x m is. absurd (let f = sym (opens.hands w) ∙ is in cc f);
    deps = λ t m. absurd m;
  },
  λ K new e s s' a l. from_parts low set (K ++ new) s' (leads low set K new e s s' (to_parts low set K s a) l),
)
