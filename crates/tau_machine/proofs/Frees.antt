-- A key is freed, and entries are dropped.
use Rattle.std.proofs.Common.{ℕ, true, false, ◌≡◌, ◌⊎◌, inl, inr, List, [], ◌∷◌, refl, sym, ap, subst, ◌∙◌, Option}
use Rattle.std.specs.Prelude.{Some, None}
use Rattle.std.specs.Map.{lookup}
use Rattle.std.proofs.Math.Path.{fun_ext}
use Rattle.std.proofs.lemmas.Bool.{cases_Bool, both_ways, cases_eq}
use Rattle.tau_base.specs.declared.value.Key.{Key}
use Rattle.tau_base.specs.declared.value.Value.{Value}
use Rattle.tau_base.specs.declared.value.Mode.{Mode}
use Rattle.tau_base.specs.Database.{Db, same_key, written}
use Rattle.tau_proc.specs.Effect.{has_key}
use Rattle.tau_model.specs.History.{Act}
use Rattle.tau_base.specs.Vectors.{AtMost, join}
use Rattle.tau_base.proofs.Keys.{same_key_itself}
use Rattle.tau_machine.specs.Hands.{Txn, lv_of, Freeing, Hand, mode_of, held_in, act_of}
use Rattle.tau_machine.specs.Good.{Good}
use Rattle.tau_shard.specs.Shard.{at, Entry, Shard, entry_or, entry_in, held_as, shard_freed, Dropped}
use Rattle.tau_machine.specs.Worker.{Worker, hand_freed}
use Rattle.tau_machine.specs.State.{Setting, Core, shard_at, sight, hand_of}
use Rattle.tau_machine.specs.Invariant.{CoreGood}
use Rattle.tau_machine.specs.Events.{with_worker, with_shard}
use Rattle.tau_base.proofs.Vectors.{at_most_trans, at_most_itself}
use Rattle.tau_machine.proofs.Stages.{has_lookup}
use Rattle.tau_shard.proofs.At.{at_same, at_other, shown_kept, shown_new, entry_same, entry_other}
use Rattle.tau_machine.proofs.Modes.{without_same, without_other}
use Rattle.tau_machine.proofs.Free.{Frees, free_good}
use Rattle.tau_machine.proofs.Marks.{Raises, raise_good}
use Rattle.tau_machine.proofs.States.{hands_at, hand_at, Holders, locks_moved, members_at, floors_at}

lookup_written : (ws : List (Key × Value)) (db : Db) (x : Key) (v : Value) → lookup (same_key x) ws ≡ Some v → written ws db x ≡ v
lookup_written [] db x v e = cc
lookup_written (w ∷ ws) db x v e = elim (cases_Bool (same_key x w.0)) [
  | inl is ↦ let found : Some w.1 ≡ Some v = rw is at e in rw is cc
  | inr no' ↦ rw no' (lookup_written ws db x v (rw no' at e))
]

lookup_unwritten : (ws : List (Key × Value)) (x : Key) → lookup (same_key x) ws ≡ None → has_key x ws ≡ false
lookup_unwritten [] x e = refl
lookup_unwritten (w ∷ ws) x e = elim (cases_Bool (same_key x w.0)) [
  | inl is ↦ let bad : Some w.1 ≡ None = rw is at e in cc
  | inr no' ↦ rw no' (lookup_unwritten ws x (rw no' at e))
]

module _ (set : Setting) (K : List (Act Txn)) (s : Core) (g : CoreGood set K s) where
  module _ (w : ℕ) (h : Hand) (t : Act Txn) (x : Key) (m : Mode) (is : hand_of s w ≡ Some h) (phase : h.phase ≡ Freeing t) (held : mode_of x h.held ≡ Some m) where
    abbrev freed_worker : Worker
    freed_worker = record (s.workers w) { hand = Some (hand_freed h x) }

    abbrev old_shard : Shard
    old_shard = shard_at set s x

    abbrev freed_entry : Option Value → Entry
    freed_entry None = let e = held_as (entry_in old_shard x) w None in record e { read_lv = join e.read_lv (lv_of t) }
    freed_entry (Some value) = let e = held_as (entry_in old_shard x) w None in record e { write_lv = join e.write_lv (lv_of t) }

    abbrev freed_shard : Option Value → Shard
    freed_shard o = shard_freed old_shard w x (lv_of t) o

    entry_new : (o : Option Value) → entry_in (freed_shard o) x ≡ freed_entry o
    entry_new None = entry_same old_shard x (freed_entry None)
    entry_new (Some value) = entry_same old_shard x (freed_entry (Some value))

    entry_old : (o : Option Value) (y : Key) → same_key y x ≡ false → entry_in (freed_shard o) y ≡ entry_in old_shard y
    entry_old None y ne = entry_other old_shard x y (freed_entry None) ne
    entry_old (Some value) y ne = entry_other old_shard x y (freed_entry (Some value)) ne

    row_old : (o : Option Value) (y : Key) → same_key y x ≡ false → (freed_shard o).rows y ≡ old_shard.rows y
    row_old None y ne = refl
    row_old (Some value) y ne = rw ne refl

    holders_new : (o : Option Value) → (freed_entry o).holders ≡ at w None (entry_in old_shard x).holders
    holders_new None = refl
    holders_new (Some value) = refl

    floor_kept : (o : Option Value) → (freed_shard o).floor ≡ old_shard.floor
    floor_kept None = refl
    floor_kept (Some value) = refl

    holders : (o : Option Value) → Holders set s w x None freed_worker.hand (freed_shard o)
    holders o = record {
      entry = ap (λ (e : Entry). e.holders) (entry_new o) ∙ holders_new o;
      others = λ y ne. ap (λ (e : Entry). e.holders) (entry_old o y ne);
      hand = without_same x h.held;
      rest = λ y ne. without_other y x h.held ne ∙ sym (ap (λ (i : Option Hand). held_in i y) is);
    }

    -- what the new state shows
    abbrev new_row : Option Value → Key → Value
    new_row o y = (at (set.shard_of x) (freed_shard o) s.shards (set.shard_of y)).rows y

    abbrev new_write_lv : Option Value → Key → List ℕ
    new_write_lv o y = (entry_in (at (set.shard_of x) (freed_shard o) s.shards (set.shard_of y)) y).write_lv

    abbrev new_read_lv : Option Value → Key → List ℕ
    new_read_lv o y = (entry_in (at (set.shard_of x) (freed_shard o) s.shards (set.shard_of y)) y).read_lv

    row_at : (o : Option Value) → new_row o x ≡ (freed_shard o).rows x
    row_at o = shown_new (λ (k : Shard) (z : Key). k.rows z) s.shards (set.shard_of x) (freed_shard o) x

    entry_at : (o : Option Value) → entry_in (at (set.shard_of x) (freed_shard o) s.shards (set.shard_of x)) x ≡ freed_entry o
    entry_at o = shown_new (λ (k : Shard) (z : Key). entry_in k z) s.shards (set.shard_of x) (freed_shard o) x ∙ entry_new o

    frees : (o : Option Value) → lookup (same_key x) t.effect.writes ≡ o →
        Frees (sight set s) (hand_of s) (λ u. (at w freed_worker s.workers u).hand) w h t x (new_row o) (new_write_lv o) (new_read_lv o)
    frees o e = record {
      is = is;
      act = ap act_of phase;
      mode = m;
      held = held;
      after = hand_freed h x;
      now = hand_at s.workers w freed_worker;
      act' = ap act_of phase;
      held' = refl;
      call' = refl;
      other = λ u ne. hands_at s.workers w freed_worker u ne;
      written_row = λ y. row_at o ∙ wrote o e y;
      written_write_lv = λ y. ap (λ (i : Entry). i.write_lv) (entry_at o) ∙ wrote_write_lv o e y;
      written_read_lv = λ y. ap (λ (i : Entry). i.read_lv) (entry_at o) ∙ wrote_read_lv o e y;
      read_row = λ n. row_at o ∙ read' o e n;
      read_write_lv = λ n. ap (λ (i : Entry). i.write_lv) (entry_at o) ∙ read_write_lv o e n;
      read_read_lv = λ n. ap (λ (i : Entry). i.read_lv) (entry_at o) ∙ read_read_lv o e n;
      same_row = λ y ne. shown_kept (λ (k : Shard) (z : Key). k.rows z) s.shards (set.shard_of x) (set.shard_of y) (freed_shard o) y (row_old o y ne);
      same_write_lv = λ y ne. shown_kept (λ (k : Shard) (z : Key). (entry_in k z).write_lv) s.shards (set.shard_of x) (set.shard_of y) (freed_shard o) y (ap (λ (i : Entry). i.write_lv) (entry_old o y ne));
      same_read_lv = λ y ne. shown_kept (λ (k : Shard) (z : Key). (entry_in k z).read_lv) s.shards (set.shard_of x) (set.shard_of y) (freed_shard o) y (ap (λ (i : Entry). i.read_lv) (entry_old o y ne));
    }
      where
        unwritten : lookup (same_key x) t.effect.writes ≡ None → has_key x t.effect.writes ≡ true → ⊥
        unwritten e y = both_ways (has_key x t.effect.writes) (lookup_unwritten t.effect.writes x e) y

        is_written : (v : Value) → lookup (same_key x) t.effect.writes ≡ Some v → has_key x t.effect.writes ≡ false → ⊥
        is_written v e n = both_ways (has_key x t.effect.writes) n (has_lookup t.effect.writes x v e)

        wrote : (o : Option Value) → lookup (same_key x) t.effect.writes ≡ o → has_key x t.effect.writes ≡ true → (freed_shard o).rows x ≡ written t.effect.writes (sight set s).row x
        wrote None e y = absurd (unwritten e y)
        wrote (Some v) e y = rw (same_key_itself x) (sym (lookup_written t.effect.writes (sight set s).row x v e))

        wrote_write_lv : (o : Option Value) → lookup (same_key x) t.effect.writes ≡ o → has_key x t.effect.writes ≡ true → (freed_entry o).write_lv ≡ join (entry_in old_shard x).write_lv (lv_of t)
        wrote_write_lv None e y = absurd (unwritten e y)
        wrote_write_lv (Some v) e y = refl

        wrote_read_lv : (o : Option Value) → lookup (same_key x) t.effect.writes ≡ o → has_key x t.effect.writes ≡ true → (freed_entry o).read_lv ≡ (entry_in old_shard x).read_lv
        wrote_read_lv None e y = absurd (unwritten e y)
        wrote_read_lv (Some v) e y = refl

        read' : (o : Option Value) → lookup (same_key x) t.effect.writes ≡ o → has_key x t.effect.writes ≡ false → (freed_shard o).rows x ≡ old_shard.rows x
        read' None e n = refl
        read' (Some v) e n = absurd (is_written v e n)

        read_write_lv : (o : Option Value) → lookup (same_key x) t.effect.writes ≡ o → has_key x t.effect.writes ≡ false → (freed_entry o).write_lv ≡ (entry_in old_shard x).write_lv
        read_write_lv None e n = refl
        read_write_lv (Some v) e n = absurd (is_written v e n)

        read_read_lv : (o : Option Value) → lookup (same_key x) t.effect.writes ≡ o → has_key x t.effect.writes ≡ false → (freed_entry o).read_lv ≡ join (entry_in old_shard x).read_lv (lv_of t)
        read_read_lv None e n = refl
        read_read_lv (Some v) e n = absurd (is_written v e n)

    pub freed_good : CoreGood set K (with_shard (with_worker s w freed_worker) (set.shard_of x) (freed_shard (lookup (same_key x) t.effect.writes)))
    freed_good =
        let o : Option Value = lookup (same_key x) t.effect.writes in
        record {
          good = free_good set.procs set.width set.base K (sight set s) (hand_of s) (λ u. (at w freed_worker s.workers u).hand) g.good w h t x (new_row o) (new_write_lv o) (new_read_lv o) (frees o refl);
          locks = locks_moved set s w x None freed_worker (freed_shard o) (holders o) g.locks;
          small = g.small;
          floors = floors_at set K s g (set.shard_of x) (freed_shard o) (subst (λ (f : List ℕ). AtMost f s.plv) (sym (floor_kept o)) (g.floors (set.shard_of x)));
          persisted = g.persisted;
          gathered = g.gathered;
          count_gathered = g.count_gathered;
          count_plv = g.count_plv;
          members = members_at set K s g w freed_worker refl;
          streams = g.streams;
          unplaced = g.unplaced;
          anchors = g.anchors;
          pending = g.pending;
          acked = g.acked;
        }

-- what becomes of one entry where a shard's entries are dropped
abbrev Stays : List ℕ → List ℕ → Option Entry → Option Entry → Type 0
Stays v new a b = (b ≡ a) ⊎
    ((b ≡ None) × ((e : Entry) → a ≡ Some e → ((w : ℕ) → e.holders w ≡ None) × AtMost e.write_lv v × AtMost e.read_lv v × AtMost e.write_lv new × AtMost e.read_lv new))

write_lv_rises : (v old new : List ℕ) (a b : Option Entry) → Stays v new a b → AtMost old new → AtMost (entry_or old a).write_lv (entry_or new b).write_lv
write_lv_rises v old new None None q h = h
write_lv_rises v old new None (Some d) (inl p) h = cc
write_lv_rises v old new None (Some d) (inr p) h = let bad = p.0 in cc
write_lv_rises v old new (Some e) None (inl p) h = cc
write_lv_rises v old new (Some e) None (inr p) h = (p.1 e refl).3
write_lv_rises v old new (Some e) (Some d) (inl p) h = let same : d ≡ e = cc in subst (λ (k : Entry). AtMost e.write_lv k.write_lv) (sym same) (at_most_itself e.write_lv)
write_lv_rises v old new (Some e) (Some d) (inr p) h = let bad = p.0 in cc

read_lv_rises : (v old new : List ℕ) (a b : Option Entry) → Stays v new a b → AtMost old new → AtMost (entry_or old a).read_lv (entry_or new b).read_lv
read_lv_rises v old new None None q h = h
read_lv_rises v old new None (Some d) (inl p) h = cc
read_lv_rises v old new None (Some d) (inr p) h = let bad = p.0 in cc
read_lv_rises v old new (Some e) None (inl p) h = cc
read_lv_rises v old new (Some e) None (inr p) h = (p.1 e refl).4
read_lv_rises v old new (Some e) (Some d) (inl p) h = let same : d ≡ e = cc in subst (λ (k : Entry). AtMost e.read_lv k.read_lv) (sym same) (at_most_itself e.read_lv)
read_lv_rises v old new (Some e) (Some d) (inr p) h = let bad = p.0 in cc

-- the entry is the same one, or shows the new floor
entry_low : (v old new : List ℕ) (a b : Option Entry) → Stays v new a b →
    (entry_or new b ≡ entry_or old a) ⊎ (((entry_or new b).write_lv ≡ new) × ((entry_or new b).read_lv ≡ new) × ((w : ℕ) → (entry_or old a).holders w ≡ None) × ((w : ℕ) → (entry_or new b).holders w ≡ None))
entry_low v old new None None q = inr (refl, refl, λ w. refl, λ w. refl)
entry_low v old new None (Some d) (inl p) = cc
entry_low v old new None (Some d) (inr p) = let bad = p.0 in cc
entry_low v old new (Some e) None (inl p) = cc
entry_low v old new (Some e) None (inr p) = inr (refl, refl, (p.1 e refl).0, λ w. refl)
entry_low v old new (Some e) (Some d) (inl p) = let same : d ≡ e = cc in inl same
entry_low v old new (Some e) (Some d) (inr p) = let bad = p.0 in cc

module _ (set : Setting) (K : List (Act Txn)) (s : Core) (g : CoreGood set K s) (i : ℕ) (v : List ℕ) (covered : AtMost v s.plv) (sh : Shard) (d : Dropped v (s.shards i) sh) where
  floor_low : AtMost sh.floor s.plv
  floor_low = d.least s.plv (g.floors i) (λ x e is gone. elim (d.stays x) [
    | inl same ↦ let bad : Some e ≡ None = sym is ∙ sym same ∙ gone in cc
    | inr p ↦ let q = p.1 e is in (at_most_trans e.write_lv v s.plv q.1 covered, at_most_trans e.read_lv v s.plv q.2 covered)
  ])

  -- a key of this shard, or of another
  pick : (y : Key) (P : Shard → Type 0) → (set.shard_of y ≡ i → P sh) → P (shard_at set s y) → P (at i sh s.shards (set.shard_of y))
  pick y P here there = elim (cases_eq (set.shard_of y) i) [
    | inl is ↦ subst (λ (k : ℕ). P (at i sh s.shards k)) (sym is) (subst P (sym (at_same i sh s.shards)) (here is))
    | inr ne ↦ subst P (sym (at_other i sh s.shards (set.shard_of y) ne)) there
  ]

  here_low : (y : Key) → set.shard_of y ≡ i → (entry_in sh y ≡ entry_in (shard_at set s y) y) ⊎
      (((entry_in sh y).write_lv ≡ sh.floor) × ((entry_in sh y).read_lv ≡ sh.floor) × ((w : ℕ) → (entry_in (shard_at set s y) y).holders w ≡ None) × ((w : ℕ) → (entry_in sh y).holders w ≡ None))
  here_low y is = subst (λ (k : ℕ). (entry_in sh y ≡ entry_in (s.shards k) y) ⊎
      (((entry_in sh y).write_lv ≡ sh.floor) × ((entry_in sh y).read_lv ≡ sh.floor) × ((w : ℕ) → (entry_in (s.shards k) y).holders w ≡ None) × ((w : ℕ) → (entry_in sh y).holders w ≡ None))) (sym is)
      (entry_low v (s.shards i).floor sh.floor ((s.shards i).entries y) (sh.entries y) (d.stays y))

  -- who holds a key still has its entry
  kept : (y : Key) (u : ℕ) (m : Mode) → held_in (hand_of s u) y ≡ Some m → entry_in (at i sh s.shards (set.shard_of y)) y ≡ entry_in (shard_at set s y) y
  kept y u m e = pick y (λ k. entry_in k y ≡ entry_in (shard_at set s y) y)
      (λ is. elim (here_low y is) [
        | inl same ↦ same
        | inr p ↦ let bad : None ≡ Some m = sym (p.2 u) ∙ (g.locks u y ∙ e) in cc
      ]) refl

  raises : Raises (sight set s) (hand_of s) (sight set (with_shard s i sh)).write_lv (sight set (with_shard s i sh)).read_lv
  raises = record {
    write_lv_up = λ y. pick y (λ k. AtMost (entry_in (shard_at set s y) y).write_lv (entry_in k y).write_lv)
        (λ is. subst (λ (k : ℕ). AtMost (entry_in (s.shards k) y).write_lv (entry_in sh y).write_lv) (sym is) (write_lv_rises v (s.shards i).floor sh.floor ((s.shards i).entries y) (sh.entries y) (d.stays y) d.up))
        (at_most_itself (entry_in (shard_at set s y) y).write_lv);
    read_lv_up = λ y. pick y (λ k. AtMost (entry_in (shard_at set s y) y).read_lv (entry_in k y).read_lv)
        (λ is. subst (λ (k : ℕ). AtMost (entry_in (s.shards k) y).read_lv (entry_in sh y).read_lv) (sym is) (read_lv_rises v (s.shards i).floor sh.floor ((s.shards i).entries y) (sh.entries y) (d.stays y) d.up))
        (at_most_itself (entry_in (shard_at set s y) y).read_lv);
    write_lv_low = λ y. pick y (λ k. ((entry_in k y).write_lv ≡ (entry_in (shard_at set s y) y).write_lv) ⊎ AtMost (entry_in k y).write_lv s.plv)
        (λ is. elim (here_low y is) [
          | inl same ↦ inl (ap (λ (e : Entry). e.write_lv) same)
          | inr p ↦ inr (subst (λ (f : List ℕ). AtMost f s.plv) (sym p.0) floor_low)
        ]) (inl refl);
    read_lv_low = λ y. pick y (λ k. ((entry_in k y).read_lv ≡ (entry_in (shard_at set s y) y).read_lv) ⊎ AtMost (entry_in k y).read_lv s.plv)
        (λ is. elim (here_low y is) [
          | inl same ↦ inl (ap (λ (e : Entry). e.read_lv) same)
          | inr p ↦ inr (subst (λ (f : List ℕ). AtMost f s.plv) (sym p.1) floor_low)
        ]) (inl refl);
    write_lv_held = λ u y m e. ap (λ (k : Entry). k.write_lv) (kept y u m e);
    read_lv_held = λ u y m e. ap (λ (k : Entry). k.read_lv) (kept y u m e);
  }

  same_rows : (sight set (with_shard s i sh)).row ≡ (sight set s).row
  same_rows = fun_ext (λ y. pick y (λ k. k.rows y ≡ (shard_at set s y).rows y) (λ is. ap (λ (f : Db). f y) d.rows ∙ ap (λ (k : ℕ). (s.shards k).rows y) (sym is)) refl)

  pub dropped_good : CoreGood set K (with_shard s i sh)
  dropped_good = record {
    good = subst (λ (r : Db). Good set.procs set.width set.base K (hand_of s) (record (sight set (with_shard s i sh)) { row = r })) (sym same_rows)
        (raise_good set.procs set.width set.base K (sight set s) (hand_of s) g.good (sight set (with_shard s i sh)).write_lv (sight set (with_shard s i sh)).read_lv raises);
    locks = λ u y. pick y (λ k. (entry_in k y).holders u ≡ held_in (hand_of s u) y)
        (λ is. elim (here_low y is) [
          | inl same ↦ ap (λ (e : Entry). e.holders u) same ∙ g.locks u y
          | inr p ↦ p.3 u ∙ sym (p.2 u) ∙ g.locks u y
        ]) (g.locks u y);
    small = g.small;
    floors = floors_at set K s g i sh floor_low;
    persisted = g.persisted;
    gathered = g.gathered;
    count_gathered = g.count_gathered;
    count_plv = g.count_plv;
    members = g.members;
    streams = g.streams;
    unplaced = g.unplaced;
    anchors = g.anchors;
    pending = g.pending;
    acked = g.acked;
  }
