-- What a state is made of stays.
use Rattle.std.proofs.Common.{ℕ, ◌≤◌, Bool, true, false, ◌≡◌, inl, inr, List, [], ◌∷◌, ◌++◌, length, refl, sym, ap, subst, ◌∙◌, Option, arith, length-set, zero, suc}
use Rattle.std.specs.Prelude.{Some, None, ◌==◌, replicate, slice_get, slice_index}
use Rattle.std.specs.Map.{lookup}
use Rattle.std.proofs.lemmas.List.{append-nil, length-replicate}
use Rattle.std.proofs.lemmas.Bool.{cases_Bool, cases_eq}
use Rattle.tau_base.specs.declared.limits.TheConstants.{MAX_TRIES}
use Rattle.tau_base.specs.declared.value.Key.{Key}
use Rattle.tau_base.specs.declared.value.Value.{Value}
use Rattle.tau_base.specs.declared.value.Mode.{Mode}
use Rattle.tau_base.specs.declared.value.Mode.TheVariants.{Read, Write}
use Rattle.tau_base.specs.Database.{same_key}
use Rattle.tau_base.specs.Vectors.{join}
use Rattle.tau_base.proofs.Vectors.{join_wider}
use Rattle.tau_model.specs.History.{Numbered, Act, Member, updates}
use Rattle.tau_model.specs.Logged.{Place, lv}
use Rattle.tau_model.proofs.Orders.{member_back, member_put}
use Rattle.tau_machine.specs.Hands.{Txn, lv_of, committed_of, Phase, Placed, Freeing, Hand}
use Rattle.tau_shard.specs.Shard.{at, Entry, Shard, entry_or, entry_in, put_entry, held_as, shard_locked, shard_quit, shard_freed, Dropped}
use Rattle.tau_machine.specs.Worker.{Worker, fresh, begun_by, begun, settled_by, settled, hand_locked, hand_busy, hand_quit, hand_freed}
use Rattle.tau_machine.specs.State.{Setting, Core, Stream, Anchor, sight}
use Rattle.tau_machine.specs.Good.{InPhase}
use Rattle.tau_machine.specs.Invariant.{Agreement, Invariant}
use Rattle.tau_machine.specs.Shapes.{IsCall, IsWhole, WorkerShape, ShardShape, Shapes}
use Rattle.tau_machine.specs.Events as event
use Rattle.tau_machine.specs.Events.{ready, Event, Lock, Busy, Quit, Commit, Post, Free, FirstFree, Done, DoneReading, Drop, Gather, PlaceAnchor, Persist, Ack, Stop, Resume, Leads}
use Rattle.tau_shard.proofs.At.{at_same, at_other}
use Rattle.tau_machine.proofs.Snoc.{member_snoc}
use Rattle.tau_machine.proofs.Leads.{reads_kept, let_go_kept}
use Rattle.tau_machine.proofs.Managed.{leads_kept}

length_replicated : (n : ℕ) → length {A = ℕ} (replicate n 0) ≡ n
length_replicated n = length-replicate {A = ℕ} n 0

module _ (set : Setting) where
  join_narrow : (v w : List ℕ) → length v ≤ set.width → length w ≤ set.width → length (join v w) ≤ set.width
  join_narrow v w a b = let e = (join_wider v w).2 in omega arith

  join_whole : (v w : List ℕ) → length v ≡ set.width → length w ≤ set.width → length (join v w) ≡ set.width
  join_whole v w a b = let l = (join_wider v w).0 in let e = (join_wider v w).2 in omega arith

  -- workers
  fresh_shape : (c : Numbered) (n : ℕ) → IsCall set c → IsWhole set (fresh set.width c n).call (fresh set.width c n).dep
  fresh_shape c n is = (is, length_replicated set.width)

  with_hand : (wk : Worker) (h : Hand) → WorkerShape set wk → IsWhole set h.call h.dep → WorkerShape set (record wk { hand = Some h })
  with_hand wk h p q = record { waiting = p.waiting; left = p.left; hand = λ i e. let same : h ≡ i = cc in subst (λ (k : Hand). IsWhole set k.call k.dep) same q }

  without_hand : (wk : Worker) → WorkerShape set wk → WorkerShape set (record wk { hand = None })
  without_hand wk p = record { waiting = p.waiting; left = p.left; hand = λ i e. cc }

  begun_shape : (wk : Worker) → WorkerShape set wk → WorkerShape set (begun set.width wk)
  begun_shape wk p = by_case wk.hand wk.waiting p.waiting
    where
      by_case : (o : Option Hand) (cs : List Numbered) → ((c : Numbered) → Member c cs → IsCall set c) → WorkerShape set (begun_by set.width wk o cs)
      by_case (Some h) cs calls = p
      by_case None [] calls = p
      by_case None (c ∷ cs) calls = record {
        waiting = λ d m. calls d (inr m);
        left = p.left;
        hand = λ i e. let same : fresh set.width c 0 ≡ i = cc in subst (λ (k : Hand). IsWhole set k.call k.dep) same (fresh_shape c 0 (calls c (inl refl)));
      }

  settled_shape : (wk : Worker) (h : Hand) → WorkerShape set wk → IsWhole set h.call h.dep → WorkerShape set (settled set.width wk h)
  settled_shape wk h p q = by_case h.held h.given_up (h.tries == MAX_TRIES)
    where
      by_case : (l : List (Key × Mode)) (up last : Bool) → WorkerShape set (settled_by set.width wk h l up last)
      by_case (k ∷ ks) up last = with_hand wk h p q
      by_case [] true last = without_hand wk p
      by_case [] false true = record {
        waiting = p.waiting;
        left = λ c m. elim (member_snoc wk.left h.call c m) [ inl old ↦ p.left c old | inr e ↦ subst (λ (d : Numbered). IsCall set d) e q.0 ];
        hand = λ i e. cc;
      }
      by_case [] false false = with_hand wk (fresh set.width h.call h.tries) p (fresh_shape h.call h.tries q.0)

  locked_shape : (h : Hand) (x : Key) (m : Mode) (row : Value) (write_lv read_lv : List ℕ) → IsWhole set h.call h.dep → length write_lv ≤ set.width → length read_lv ≤ set.width →
      IsWhole set (hand_locked h x m row write_lv read_lv).call (hand_locked h x m row write_lv read_lv).dep
  locked_shape h x Read row write_lv read_lv q a b = (q.0, join_whole h.dep write_lv q.1 a)
  locked_shape h x Write row write_lv read_lv q a b = (q.0, join_whole (join h.dep write_lv) read_lv (join_whole h.dep write_lv q.1 a) b)

  -- shards
  entry_shape : (sh : Shard) (x : Key) → ShardShape set sh → (length (entry_in sh x).write_lv ≤ set.width) × (length (entry_in sh x).read_lv ≤ set.width)
  entry_shape sh x p = by_case (sh.entries x) refl
    where
      by_case : (o : Option Entry) → sh.entries x ≡ o → (length (entry_or sh.floor o).write_lv ≤ set.width) × (length (entry_or sh.floor o).read_lv ≤ set.width)
      by_case None e = (p.floor, p.floor)
      by_case (Some i) e = p.entries x i e

  put_shape : (sh : Shard) (x : Key) (e : Entry) → ShardShape set sh → length e.write_lv ≤ set.width → length e.read_lv ≤ set.width → ShardShape set (put_entry sh x e)
  put_shape sh x e p a b = record {
    floor = p.floor;
    entries = λ y i is. elim (cases_Bool (same_key y x)) [
      | inl same ↦ let found : Some e ≡ Some i = rw same at is in let there : e ≡ i = cc in subst (λ (k : Entry). (length k.write_lv ≤ set.width) × (length k.read_lv ≤ set.width)) there (a, b)
      | inr other ↦ p.entries y i (rw other at is)
    ];
  }

  freed_shape : (sh : Shard) (w : ℕ) (x : Key) (v : List ℕ) (o : Option Value) → ShardShape set sh → length v ≤ set.width → ShardShape set (shard_freed sh w x v o)
  freed_shape sh w x v None p low =
      let e = entry_shape sh x p in put_shape sh x (let i = held_as (entry_in sh x) w None in record i { read_lv = join i.read_lv v }) p e.0 (join_narrow (entry_in sh x).read_lv v e.1 low)
  freed_shape sh w x v (Some value) p low =
      let e = entry_shape sh x p in
      let q = put_shape sh x (let i = held_as (entry_in sh x) w None in record i { write_lv = join i.write_lv v }) p (join_narrow (entry_in sh x).write_lv v e.0 low) e.1 in
      record { floor = q.floor; entries = q.entries }

  dropped_shape : (v : List ℕ) (sh new : Shard) → Dropped v sh new → ShardShape set sh → ShardShape set new
  dropped_shape v sh new d p = record {
    floor = d.narrow set.width p.floor p.entries;
    entries = λ x e is. elim (d.stays x) [
      | inl same ↦ p.entries x e (sym same ∙ is)
      | inr gone ↦ absurd (let bad : None ≡ Some e = sym gone.0 ∙ is in cc)
    ];
  }

  lv_width : (b : Bool) (p : Place) → length (lv b p) ≡ length p.dep
  lv_width true p = length-set p.dep p.stream p.past
  lv_width false p = refl

  -- states
  abbrev Shards : (ℕ → Shard) → Type 0
  Shards f = (i : ℕ) → ShardShape set (f i)

  abbrev Workers : (ℕ → Worker) → Type 0
  Workers f = (w : ℕ) → WorkerShape set (f w)

  shards_at : (f : ℕ → Shard) (i : ℕ) (sh : Shard) → Shards f → ShardShape set sh → Shards (at i sh f)
  shards_at f i sh p q j = elim (cases_eq j i) [
    | inl is ↦ subst (λ (k : ℕ). ShardShape set (at i sh f k)) (sym is) (subst (λ (k : Shard). ShardShape set k) (sym (at_same i sh f)) q)
    | inr ne ↦ subst (λ (k : Shard). ShardShape set k) (sym (at_other i sh f j ne)) (p j)
  ]

  workers_at : (f : ℕ → Worker) (w : ℕ) (wk : Worker) → Workers f → WorkerShape set wk → Workers (at w wk f)
  workers_at f w wk p q u = elim (cases_eq u w) [
    | inl is ↦ subst (λ (k : ℕ). WorkerShape set (at w wk f k)) (sym is) (subst (λ (k : Worker). WorkerShape set k) (sym (at_same w wk f)) q)
    | inr ne ↦ subst (λ (k : Worker). WorkerShape set k) (sym (at_other w wk f u ne)) (p u)
  ]

  module _ (K : List (Act Txn)) (s s' : Core) (p : Shapes set K s) where
    -- one worker changes
    worker_moved : (w : ℕ) (wk : Worker) → WorkerShape set wk → s'.workers ≡ at w wk s.workers → s'.shards ≡ s.shards → s'.streams ≡ s.streams → Shapes set K s'
    worker_moved w wk q workers shards streams = record {
      shards = subst (λ (f : ℕ → Shard). Shards f) (sym shards) p.shards;
      workers = subst (λ (f : ℕ → Worker). Workers f) (sym workers) (workers_at s.workers w wk p.workers q);
      committed = p.committed;
      anchors = subst (λ (f : ℕ → Stream). (j : ℕ) (a : List ℕ) → Member a (f j).anchors → length a ≤ set.width) (sym streams) p.anchors;
    }

    -- one worker and one shard
    both_moved : (w i : ℕ) (wk : Worker) (sh : Shard) → WorkerShape set wk → ShardShape set sh → s'.workers ≡ at w wk s.workers → s'.shards ≡ at i sh s.shards → s'.streams ≡ s.streams → Shapes set K s'
    both_moved w i wk sh q r workers shards streams = record {
      shards = subst (λ (f : ℕ → Shard). Shards f) (sym shards) (shards_at s.shards i sh p.shards r);
      workers = subst (λ (f : ℕ → Worker). Workers f) (sym workers) (workers_at s.workers w wk p.workers q);
      committed = p.committed;
      anchors = subst (λ (f : ℕ → Stream). (j : ℕ) (a : List ℕ) → Member a (f j).anchors → length a ≤ set.width) (sym streams) p.anchors;
    }

    -- neither workers nor shards
    streams_moved : s'.workers ≡ s.workers → s'.shards ≡ s.shards → ((j : ℕ) (a : List ℕ) → Member a (s'.streams j).anchors → length a ≤ set.width) → Shapes set K s'
    streams_moved workers shards anchors = record {
      shards = subst (λ (f : ℕ → Shard). Shards f) (sym shards) p.shards;
      workers = subst (λ (f : ℕ → Worker). Workers f) (sym workers) p.workers;
      committed = p.committed;
      anchors = anchors;
    }

    still : s'.workers ≡ s.workers → s'.shards ≡ s.shards → ((j : ℕ) → (s'.streams j).anchors ≡ (s.streams j).anchors) → Shapes set K s'
    still workers shards same = streams_moved workers shards (λ j a m. p.anchors j a (subst (λ (l : List (List ℕ)). Member a l) (same j) m))

  -- a call joins
  joined : (K : List (Act Txn)) (s : Core) (t : Act Txn) → Shapes set K s → IsWhole set t.call.call t.call.place.dep → Shapes set (K ++ t ∷ []) s
  joined K s t p q = record {
    shards = p.shards;
    workers = p.workers;
    committed = λ r m. elim (member_snoc K t r m) [ inl old ↦ p.committed r old | inr e ↦ subst (λ (x : Act Txn). IsWhole set x.call.call x.call.place.dep) e q ];
    anchors = p.anchors;
  }

module _ (set : Setting) (K : List (Act Txn)) (s s' : Core) (p : Shapes set K s) where
  ready_shape : (w : ℕ) → WorkerShape set (ready set s w)
  ready_shape w = begun_shape set (s.workers w) (p.workers w)

  lock_shapes : (w : ℕ) → event.Locks set w s s' → Shapes set K s'
  lock_shapes w q =
      let sh : Shard = s.shards (set.shard_of q.key) in
      let e = entry_shape set sh q.key (p.shards (set.shard_of q.key)) in
      both_moved set K s s' p w (set.shard_of q.key) (record (ready set s w) { hand = Some (hand_locked q.hand q.key q.mode (sh.rows q.key) (entry_in sh q.key).write_lv (entry_in sh q.key).read_lv) }) (shard_locked sh w q.key q.mode)
      (with_hand set (ready set s w) (hand_locked q.hand q.key q.mode (sh.rows q.key) (entry_in sh q.key).write_lv (entry_in sh q.key).read_lv) (ready_shape w)
      (locked_shape set q.hand q.key q.mode (sh.rows q.key) (entry_in sh q.key).write_lv (entry_in sh q.key).read_lv ((ready_shape w).hand q.hand q.is) e.0 e.1))
      (put_shape set sh q.key (held_as (entry_in sh q.key) w (Some q.mode)) (p.shards (set.shard_of q.key)) e.0 e.1)
      (ap (λ (c : Core). c.workers) q.after) (ap (λ (c : Core). c.shards) q.after) (ap (λ (c : Core). c.streams) q.after)

  busy_shapes : (w : ℕ) → event.Refuses set w s s' → Shapes set K s'
  busy_shapes w q = worker_moved set K s s' p w (settled set.width (ready set s w) (hand_busy q.hand))
      (settled_shape set (ready set s w) (hand_busy q.hand) (ready_shape w) ((ready_shape w).hand q.hand q.is))
      (ap (λ (c : Core). c.workers) q.after) (ap (λ (c : Core). c.shards) q.after) (ap (λ (c : Core). c.streams) q.after)

  quit_shapes : (w : ℕ) (up : Bool) → event.Quits set w up s s' → Shapes set K s'
  quit_shapes w up q =
      let sh : Shard = s.shards (set.shard_of q.key) in
      let e = entry_shape set sh q.key (p.shards (set.shard_of q.key)) in
      both_moved set K s s' p w (set.shard_of q.key) (settled set.width (s.workers w) (hand_quit q.hand q.key up)) (shard_quit sh w q.key)
      (settled_shape set (s.workers w) (hand_quit q.hand q.key up) (p.workers w) ((p.workers w).hand q.hand q.is))
      (put_shape set sh q.key (held_as (entry_in sh q.key) w None) (p.shards (set.shard_of q.key)) e.0 e.1)
      (ap (λ (c : Core). c.workers) q.after) (ap (λ (c : Core). c.shards) q.after) (ap (λ (c : Core). c.streams) q.after)

  let_go_shapes : (w : ℕ) → event.LetsGo set w s s' → Shapes set K s'
  let_go_shapes w q = worker_moved set K s s' p w (record (s.workers w) { hand = None }) (without_hand set (s.workers w) (p.workers w))
      (ap (λ (c : Core). c.workers) q.after) (ap (λ (c : Core). c.shards) q.after) (ap (λ (c : Core). c.streams) q.after)

  found : (all : List (List ℕ)) (a : List ℕ) (i : ℕ) → slice_get all i ≡ Some a → Member a all
  found [] a i e = cc
  found (b ∷ all) a zero e = inl (let same : b ≡ a = cc in same)
  found (b ∷ all) a (suc i) e = inr (found all a i e)

  commit_shapes : (w : ℕ) (t : Act Txn) → event.Commits set w s s' t → Shapes set (K ++ t ∷ []) s'
  commit_shapes w t q =
      let h = (ready_shape w).hand q.hand q.is in
      let low : length q.anchor ≤ set.width = elim q.named [
        | inl none ↦ (let e : length q.anchor ≡ 0 = ap length none.1 in omega arith)
        | inr m ↦ p.anchors (set.stream_of w) q.anchor (found (s.streams (set.stream_of w)).anchors q.anchor m.0 m.2)
      ] in
      let whole : IsWhole set t.call.call t.call.place.dep = subst (λ (x : Act Txn). IsWhole set x.call.call x.call.place.dep) (sym q.act) (h.0, join_whole set q.hand.dep q.anchor h.1 low) in
      let call : t.call.call ≡ q.hand.call = ap (λ (x : Act Txn). x.call.call) q.act in
      joined set K s' t (worker_moved set K s s' p w (record (ready set s w) { hand = Some (record q.hand { phase = Placed t; dep = t.call.place.dep }); committed = (s.workers w).committed ++ committed_of t ∷ [] })
      (let k = with_hand set (ready set s w) (record q.hand { phase = Placed t; dep = t.call.place.dep }) (ready_shape w) (h.0, whole.1) in record { waiting = k.waiting; left = k.left; hand = k.hand })
      (ap (λ (c : Core). c.workers) q.after) (ap (λ (c : Core). c.shards) q.after) (ap (λ (c : Core). c.streams) q.after)) whole

  reads_shapes : (w : ℕ) (t : Act Txn) → event.Reads set w s s' t → Shapes set (K ++ t ∷ []) s'
  reads_shapes w t q =
      let h = (ready_shape w).hand q.hand q.is in
      let whole : IsWhole set t.call.call t.call.place.dep = subst (λ (x : Act Txn). IsWhole set x.call.call x.call.place.dep) (sym q.act) h in
      joined set K s' t (worker_moved set K s s' p w (record (ready set s w) { hand = Some (record q.hand { phase = Freeing t }); committed = (s.workers w).committed ++ committed_of t ∷ [] })
      (let k = with_hand set (ready set s w) (record q.hand { phase = Freeing t }) (ready_shape w) h in record { waiting = k.waiting; left = k.left; hand = k.hand })
      (ap (λ (c : Core). c.workers) q.after) (ap (λ (c : Core). c.shards) q.after) (ap (λ (c : Core). c.streams) q.after)) whole

  post_shapes : (w : ℕ) → event.Posts set w s s' → Shapes set K s'
  post_shapes w q = worker_moved set K s s' p w (record (s.workers w) { hand = Some (record q.hand { phase = Freeing q.act }) })
      (with_hand set (s.workers w) (record q.hand { phase = Freeing q.act }) (p.workers w) ((p.workers w).hand q.hand q.is))
      (ap (λ (c : Core). c.workers) q.after) (ap (λ (c : Core). c.shards) q.after) (ap (λ (c : Core). c.streams) q.after)

  free_shapes : (w : ℕ) → (q : event.Frees set w s s') → Member q.act K → Shapes set K s'
  free_shapes w q there =
      let sh : Shard = s.shards (set.shard_of q.key) in
      let written : Option Value = lookup (same_key q.key) q.act.effect.writes in
      let low : length (lv_of q.act) ≤ set.width = (let e = lv_width set (updates q.act.effect) q.act.call.place in let d = (p.committed q.act there).1 in omega arith) in
      both_moved set K s s' p w (set.shard_of q.key) (record (s.workers w) { hand = Some (hand_freed q.hand q.key) }) (shard_freed sh w q.key (lv_of q.act) written)
      (with_hand set (s.workers w) (hand_freed q.hand q.key) (p.workers w) ((p.workers w).hand q.hand q.is))
      (freed_shape set sh w q.key (lv_of q.act) written (p.shards (set.shard_of q.key)) low)
      (ap (λ (c : Core). c.workers) q.after) (ap (λ (c : Core). c.shards) q.after) (ap (λ (c : Core). c.streams) q.after)

  finish_shapes : (w : ℕ) → event.Finishes set w s s' → Shapes set K s'
  finish_shapes w q = worker_moved set K s s' p w (record (s.workers w) { hand = None }) (without_hand set (s.workers w) (p.workers w))
      (ap (λ (c : Core). c.workers) q.after) (ap (λ (c : Core). c.shards) q.after) (ap (λ (c : Core). c.streams) q.after)

  drop_shapes : (i : ℕ) (v : List ℕ) → event.Drops set i v s s' → Shapes set K s'
  drop_shapes i v q = record {
    shards = subst (λ (f : ℕ → Shard). Shards set f) (sym (ap (λ (c : Core). c.shards) q.after))
        (shards_at set s.shards i q.shard p.shards (dropped_shape set v (s.shards i) q.shard q.dropped (p.shards i)));
    workers = subst (λ (f : ℕ → Worker). Workers set f) (sym (ap (λ (c : Core). c.workers) q.after)) p.workers;
    committed = p.committed;
    anchors = subst (λ (f : ℕ → Stream). (j : ℕ) (a : List ℕ) → Member a (f j).anchors → length a ≤ set.width) (sym (ap (λ (c : Core). c.streams) q.after)) p.anchors;
  }

  -- the anchors of one stream change
  anchors_at : (j : ℕ) (o : Stream) → s'.streams ≡ at j o s.streams → ((a : List ℕ) → Member a o.anchors → length a ≤ set.width) →
      (i : ℕ) (a : List ℕ) → Member a (s'.streams i).anchors → length a ≤ set.width
  anchors_at j o streams own i a m =
      let there : Member a (at j o s.streams i).anchors = subst (λ (f : ℕ → Stream). Member a (f i).anchors) streams m in
      elim (cases_eq i j) [
        | inl is ↦ own a (subst (λ (k : Stream). Member a k.anchors) (ap (at j o s.streams) is ∙ at_same j o s.streams) there)
        | inr ne ↦ p.anchors i a (subst (λ (k : Stream). Member a k.anchors) (at_other j o s.streams i ne) there)
      ]

  anchor_shapes : (j : ℕ) (v : List ℕ) → event.Anchors set j v s s' → Shapes set K s'
  anchor_shapes j v q =
      let str : Stream = s.streams j in
      let o : Stream = record str { anchors = str.anchors ++ v ∷ []; posted = str.posted ++ Anchor (slice_index s.ends j) q.past v ∷ [] } in
      streams_moved set K s s' p (ap (λ (c : Core). c.workers) q.after) (ap (λ (c : Core). c.shards) q.after)
      (anchors_at j o (ap (λ (c : Core). c.streams) q.after) (λ a m. elim (member_snoc str.anchors v a m) [
        | inl old ↦ p.anchors j a old
        | inr e ↦ subst (λ (b : List ℕ). length b ≤ set.width) e q.narrow
      ]))

  gather_shapes : (j w : ℕ) → event.GathersRecord set j w s s' → Shapes set K s'
  gather_shapes j w q = streams_moved set K s s' p (ap (λ (c : Core). c.workers) q.after) (ap (λ (c : Core). c.shards) q.after)
      (anchors_at j (record (s.streams j) { moved = (s.streams j).moved ++ q.item ∷ [] }) (ap (λ (c : Core). c.streams) q.after) (p.anchors j))

  gather_anchor_shapes : (j : ℕ) → event.GathersAnchor set j s s' → Shapes set K s'
  gather_anchor_shapes j q = streams_moved set K s s' p (ap (λ (c : Core). c.workers) q.after) (ap (λ (c : Core). c.shards) q.after)
      (anchors_at j (record (s.streams j) { posted = q.others; moved = (s.streams j).moved ++ q.item ∷ [] }) (ap (λ (c : Core). c.streams) q.after) (p.anchors j))

  persist_shapes : (j upto : ℕ) → event.Persists set j upto s s' → Shapes set K s'
  persist_shapes j upto q = still set K s s' p (ap (λ (c : Core). c.workers) q.after) (ap (λ (c : Core). c.shards) q.after) (λ i. ap (λ (c : Core). (c.streams i).anchors) q.after)

  ack_shapes : (w : ℕ) (v : List ℕ) → event.Acks set w v s s' → Shapes set K s'
  ack_shapes w v q = still set K s s' p (ap (λ (c : Core). c.workers) q.after) (ap (λ (c : Core). c.shards) q.after) (λ i. ap (λ (c : Core). (c.streams i).anchors) q.after)

  stop_shapes : (j upto : ℕ) → event.Stops set j upto s s' → Shapes set K s'
  stop_shapes j upto q = streams_moved set K s s' p (ap (λ (c : Core). c.workers) q.after) (ap (λ (c : Core). c.shards) q.after)
      (anchors_at j (record (s.streams j) { stop = Some upto }) (ap (λ (c : Core). c.streams) q.after) (p.anchors j))

  resume_shapes : (w : ℕ) → event.Resumes set w s s' → Shapes set K s'
  resume_shapes w q =
      let old = p.workers w in
      let left : (c : Numbered) → Member c (q.front ++ q.call ∷ q.back) → IsCall set c = subst (λ (l : List Numbered). (c : Numbered) → Member c l → IsCall set c) q.is old.left in
      worker_moved set K s s' p w (record (s.workers w) { waiting = q.call ∷ []; left = q.front ++ q.back })
      (record {
        waiting = λ c m. elim m [ inl e ↦ subst (λ (d : Numbered). IsCall set d) e (left q.call (member_back q.call q.front (q.call ∷ q.back) (inl refl))) | inr none ↦ absurd none ];
        left = λ c m. left c (member_put q.call c q.front q.back m);
        hand = old.hand;
      }) (ap (λ (c : Core). c.workers) q.after) (ap (λ (c : Core). c.shards) q.after) (ap (λ (c : Core). c.streams) q.after)

gathered_shapes : (set : Setting) (K : List (Act Txn)) (j : ℕ) (s s' : Core) → Shapes set K s → event.Gathered set j s s' → Shapes set K s'
gathered_shapes set K j s s' p event.stop = p
gathered_shapes set K j s s' p (event.record_first {m = m} w q r) = gathered_shapes set K j m s' (gather_shapes set K s m p j w q) r
gathered_shapes set K j s s' p (event.anchor_first {m = m} q r) = gathered_shapes set K j m s' (gather_anchor_shapes set K s m p j q) r

-- the call that frees keys has committed
freeing_member : (set : Setting) (K : List (Act Txn)) (s s' : Core) → Agreement set K s → (w : ℕ) (q : event.Frees set w s s') → Member q.act K
freeing_member set K s s' g w q =
    let j = subst (λ (p : Phase). InPhase set.procs set.width K (sight set s) w q.hand p) q.phase (g.good.good.hands w q.hand q.is) in j.there

none : (set : Setting) (K : List (Act Txn)) (s : Core) (new : List (Act Txn)) → new ≡ [] → Shapes set K s → Shapes set (K ++ new) s
none set K s new e g = subst (λ (l : List (Act Txn)). Shapes set l s) (sym (ap (λ (l : List (Act Txn)). K ++ l) e ∙ append-nil K)) g

leads_shapes : (set : Setting) (K : List (Act Txn)) (e : Event) (s s' : Core) (new : List (Act Txn)) → Invariant set K s → Leads set e s s' new → Shapes set (K ++ new) s'
leads_shapes set K (Lock w) s s' new g (q, e) = none set K s' new e (lock_shapes set K s s' g.shapes w q)
leads_shapes set K (Busy w) s s' new g (q, e) = none set K s' new e (busy_shapes set K s s' g.shapes w q)
leads_shapes set K (Quit w up) s s' new g (q, e) = none set K s' new e (quit_shapes set K s s' g.shapes w up q)
leads_shapes set K (Commit w) s s' new g (t, q, e) = subst (λ (l : List (Act Txn)). Shapes set (K ++ l) s') (sym e) (commit_shapes set K s s' g.shapes w t q)
leads_shapes set K (Post w) s s' new g (q, e) = none set K s' new e (post_shapes set K s s' g.shapes w q)
leads_shapes set K (Free w) s s' new g (q, e) = none set K s' new e (free_shapes set K s s' g.shapes w q (freeing_member set K s s' g.agrees w q))
leads_shapes set K (FirstFree w) s s' new g (m, t, r, q, e) =
    subst (λ (l : List (Act Txn)). Shapes set (K ++ l) s') (sym e)
    (free_shapes set (K ++ t ∷ []) m s' (reads_shapes set K s m g.shapes w t r) w q (freeing_member set (K ++ t ∷ []) m s' (reads_kept set K s m g.agrees w t r) w q))
leads_shapes set K (Done w) s s' new g (q, e) = none set K s' new e (finish_shapes set K s s' g.shapes w q)
leads_shapes set K (DoneReading w) s s' new g (m, t, r, q, e) =
    subst (λ (l : List (Act Txn)). Shapes set (K ++ l) s') (sym e) (finish_shapes set (K ++ t ∷ []) m s' (reads_shapes set K s m g.shapes w t r) w q)
leads_shapes set K (Drop i v) s s' new g (q, e) = none set K s' new e (drop_shapes set K s s' g.shapes i v q)
leads_shapes set K (Gather j) s s' new g (q, e) = none set K s' new e (gathered_shapes set K j s s' g.shapes q)
leads_shapes set K (PlaceAnchor j v) s s' new g (q, e) = none set K s' new e (anchor_shapes set K s s' g.shapes j v q)
leads_shapes set K (Persist j upto) s s' new g (q, e) = none set K s' new e (persist_shapes set K s s' g.shapes j upto q)
leads_shapes set K (Ack w v) s s' new g (q, e) = none set K s' new e (ack_shapes set K s s' g.shapes w v q)
leads_shapes set K (Stop j upto) s s' new g (q, e) = none set K s' new e (stop_shapes set K s s' g.shapes j upto q)
leads_shapes set K (Resume w) s s' new g (q, e) = none set K s' new e (resume_shapes set K s s' g.shapes w q)

-- each event keeps the invariant
pub invariant_kept : (set : Setting) (K : List (Act Txn)) (e : Event) (s s' : Core) (new : List (Act Txn)) → Invariant set K s → Leads set e s s' new → Invariant set (K ++ new) s'
invariant_kept set K e s s' new g leads = record { agrees = leads_kept set K e s s' new g.agrees leads; shapes = leads_shapes set K e s s' new g leads }

pub invariant_let_go : (set : Setting) (K : List (Act Txn)) (w : ℕ) (s s' : Core) → Invariant set K s → event.LetsGo set w s s' → Invariant set K s'
invariant_let_go set K w s s' g q = record { agrees = let_go_kept set K s s' g.agrees w q; shapes = let_go_shapes set K s s' g.shapes w q }
