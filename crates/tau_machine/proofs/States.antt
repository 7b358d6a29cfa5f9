-- States that differ in one worker and one shard.
use Rattle.std.proofs.Common.{ℕ, false, ◌≡◌, inl, inr, List, map, sym, ap, subst, ◌∙◌, Option}
use Rattle.std.specs.Prelude.{◌==◌}
use Rattle.std.specs.List.{filter}
use Rattle.std.proofs.Math.Path.{fun_ext}
use Rattle.std.proofs.lemmas.Bool.{cases_eq}
use Rattle.tau_base.specs.declared.value.Key.{Key}
use Rattle.tau_base.specs.declared.value.Mode.{Mode}
use Rattle.tau_base.specs.Database.{same_key}
use Rattle.tau_model.specs.History.{Act, Member}
use Rattle.tau_base.specs.Vectors.{AtMost}
use Rattle.tau_machine.specs.Hands.{Txn, committed_of, Hand, held_in}
use Rattle.tau_machine.specs.Sight.{Sight}
use Rattle.tau_machine.specs.Good.{Good}
use Rattle.tau_shard.specs.Shard.{at, Shard, entry_in}
use Rattle.tau_machine.specs.Worker.{Worker}
use Rattle.tau_machine.specs.State.{Setting, Ticket, Outbox, Core, ticket, shard_at, sight, hand_of}
use Rattle.tau_machine.specs.Invariant.{CoreGood}
use Rattle.tau_machine.specs.Events.{with_worker, with_shard, with_outbox}
use Rattle.tau_shard.proofs.At.{at_same, at_other, at_at, shown_kept, shown_new, cases_key}

-- the same hands, but for one worker's
pub hands_at : (workers : ℕ → Worker) (w : ℕ) (wk : Worker) (u : ℕ) → (u ≡ w → ⊥) → (at w wk workers u).hand ≡ (workers u).hand
hands_at workers w wk u ne = ap (λ (k : Worker). k.hand) (at_other w wk workers u ne)

pub hand_at : (workers : ℕ → Worker) (w : ℕ) (wk : Worker) → (at w wk workers w).hand ≡ wk.hand
hand_at workers w wk = ap (λ (k : Worker). k.hand) (at_same w wk workers)

pub again : (s : Core) (w : ℕ) (a b : Worker) → with_worker (with_worker s w b) w a ≡ with_worker s w a
again s w a b = λ i. record s { workers = at_at w a b s.workers i }

-- a shard that shows of each key what it showed
pub record Shows (sh new : Shard) : Type 0 where
  pub row : (y : Key) → new.rows y ≡ sh.rows y
  pub write_lv : (y : Key) → (entry_in new y).write_lv ≡ (entry_in sh y).write_lv
  pub read_lv : (y : Key) → (entry_in new y).read_lv ≡ (entry_in sh y).read_lv

pub sight_kept : (set : Setting) (s : Core) (i : ℕ) (sh : Shard) → Shows (s.shards i) sh → sight set (with_shard s i sh) ≡ sight set s
sight_kept set s i sh q =
    let row : (λ (y : Key). (at i sh s.shards (set.shard_of y)).rows y) ≡ (λ (y : Key). (shard_at set s y).rows y) =
    fun_ext (λ y. shown_kept (λ (k : Shard) (z : Key). k.rows z) s.shards i (set.shard_of y) sh y (q.row y)) in
    let write_lv : (λ (y : Key). (entry_in (at i sh s.shards (set.shard_of y)) y).write_lv) ≡ (λ (y : Key). (entry_in (shard_at set s y) y).write_lv) =
    fun_ext (λ y. shown_kept (λ (k : Shard) (z : Key). (entry_in k z).write_lv) s.shards i (set.shard_of y) sh y (q.write_lv y)) in
    let read_lv : (λ (y : Key). (entry_in (at i sh s.shards (set.shard_of y)) y).read_lv) ≡ (λ (y : Key). (entry_in (shard_at set s y) y).read_lv) =
    fun_ext (λ y. shown_kept (λ (k : Shard) (z : Key). (entry_in k z).read_lv) s.shards i (set.shard_of y) sh y (q.read_lv y)) in
    λ k. record { row = row k; write_lv = write_lv k; read_lv = read_lv k; ends = s.ends; plv = s.plv }

-- the holders of one key changed as the hand of one worker did
pub record Holders (set : Setting) (s : Core) (w : ℕ) (x : Key) (m : Option Mode) (o : Option Hand) (sh : Shard) : Type 0 where
  pub entry : (entry_in sh x).holders ≡ at w m (entry_in (shard_at set s x) x).holders
  pub others : (y : Key) → same_key y x ≡ false → (entry_in sh y).holders ≡ (entry_in (shard_at set s x) y).holders
  pub hand : held_in o x ≡ m
  pub rest : (y : Key) → same_key y x ≡ false → held_in o y ≡ held_in (hand_of s w) y

pub locks_moved : (set : Setting) (s : Core) (w : ℕ) (x : Key) (m : Option Mode) (wk : Worker) (sh : Shard) → Holders set s w x m wk.hand sh →
    ((u : ℕ) (y : Key) → (entry_in (shard_at set s y) y).holders u ≡ held_in (hand_of s u) y) →
    (u : ℕ) (y : Key) → (entry_in (at (set.shard_of x) sh s.shards (set.shard_of y)) y).holders u ≡ held_in (at w wk s.workers u).hand y
locks_moved set s w x m wk sh q old u y = elim (cases_key y x) [
  | inr ne ↦
      let entry : (entry_in (at (set.shard_of x) sh s.shards (set.shard_of y)) y).holders ≡ (entry_in (shard_at set s y) y).holders =
      shown_kept (λ (k : Shard) (z : Key). (entry_in k z).holders) s.shards (set.shard_of x) (set.shard_of y) sh y (q.others y ne) in
      elim (cases_eq u w) [
        | inl is ↦ ap (λ (f : ℕ → Option Mode). f u) entry ∙ old u y ∙ ap (λ (k : ℕ). held_in (hand_of s k) y) is ∙ sym (q.rest y ne)
            ∙ sym (ap (λ (o : Option Hand). held_in o y) (ap (λ (k : ℕ). (at w wk s.workers k).hand) is ∙ hand_at s.workers w wk))
        | inr nu ↦ ap (λ (f : ℕ → Option Mode). f u) entry ∙ old u y ∙ sym (ap (λ (o : Option Hand). held_in o y) (hands_at s.workers w wk u nu))
      ]
  | inl is ↦
      let here : (entry_in (at (set.shard_of x) sh s.shards (set.shard_of x)) x).holders ≡ at w m (entry_in (shard_at set s x) x).holders =
      shown_new (λ (k : Shard) (z : Key). (entry_in k z).holders) s.shards (set.shard_of x) sh x ∙ q.entry in
      subst (λ (z : Key). (entry_in (at (set.shard_of x) sh s.shards (set.shard_of z)) z).holders u ≡ held_in (at w wk s.workers u).hand z) (sym is)
      (elim (cases_eq u w) [
        | inl same ↦ subst (λ (k : ℕ). (entry_in (at (set.shard_of x) sh s.shards (set.shard_of x)) x).holders k ≡ held_in (at w wk s.workers k).hand x) (sym same)
            (ap (λ (f : ℕ → Option Mode). f w) here ∙ at_same w m (entry_in (shard_at set s x) x).holders ∙ sym q.hand
            ∙ sym (ap (λ (o : Option Hand). held_in o x) (hand_at s.workers w wk)))
        | inr nu ↦ ap (λ (f : ℕ → Option Mode). f u) here ∙ at_other w m (entry_in (shard_at set s x) x).holders u nu ∙ old u x
            ∙ sym (ap (λ (o : Option Hand). held_in o x) (hands_at s.workers w wk u nu))
      ])
]

module _ (set : Setting) (K : List (Act Txn)) (s : Core) (g : CoreGood set K s) where
  pub members_at : (w : ℕ) (wk : Worker) → wk.committed ≡ (s.workers w).committed → (u : ℕ) → (at w wk s.workers u).committed ≡ map committed_of (filter (λ (t : Act Txn). t.call.worker == u) K)
  members_at w wk e u = elim (cases_eq u w) [
    | inl is ↦ ap (λ (k : ℕ). (at w wk s.workers k).committed) is ∙ ap (λ (k : Worker). k.committed) (at_same w wk s.workers) ∙ e ∙ ap (λ (k : ℕ). (s.workers k).committed) (sym is) ∙ g.members u
    | inr ne ↦ ap (λ (k : Worker). k.committed) (at_other w wk s.workers u ne) ∙ g.members u
  ]

  pub floors_at : (i : ℕ) (sh : Shard) → AtMost sh.floor s.plv → (j : ℕ) → AtMost (at i sh s.shards j).floor s.plv
  floors_at i sh low j = elim (cases_eq j i) [
    | inl is ↦ subst (λ (k : ℕ). AtMost (at i sh s.shards k).floor s.plv) (sym is) (subst (λ (k : Shard). AtMost k.floor s.plv) (sym (at_same i sh s.shards)) low)
    | inr ne ↦ subst (λ (k : Shard). AtMost k.floor s.plv) (sym (at_other i sh s.shards j ne)) (g.floors j)
  ]

  -- one worker changes
  pub worker_moved : (w : ℕ) (wk : Worker) → wk.committed ≡ (s.workers w).committed → ((y : Key) → held_in wk.hand y ≡ held_in (hand_of s w) y) →
      Good set.procs set.width set.base K (λ u. (at w wk s.workers u).hand) (sight set s) → CoreGood set K (with_worker s w wk)
  worker_moved w wk e held good = record {
    good = good;
    locks = λ u y. elim (cases_eq u w) [
      | inl is ↦ g.locks u y ∙ ap (λ (k : ℕ). held_in (hand_of s k) y) is ∙ sym (held y)
          ∙ sym (ap (λ (o : Option Hand). held_in o y) (ap (λ (k : ℕ). (at w wk s.workers k).hand) is ∙ hand_at s.workers w wk))
      | inr ne ↦ g.locks u y ∙ sym (ap (λ (o : Option Hand). held_in o y) (hands_at s.workers w wk u ne))
    ];
    small = g.small;
    floors = g.floors;
    persisted = g.persisted;
    gathered = g.gathered;
    count_gathered = g.count_gathered;
    count_plv = g.count_plv;
    members = members_at w wk e;
    streams = g.streams;
    unplaced = g.unplaced;
    anchors = g.anchors;
    pending = g.pending;
    acked = g.acked;
  }

  -- one worker and the holders of one key change
  pub lock_moved : (w : ℕ) (x : Key) (m : Option Mode) (wk : Worker) (sh : Shard) → wk.committed ≡ (s.workers w).committed →
      Shows (shard_at set s x) sh → sh.floor ≡ (shard_at set s x).floor → Holders set s w x m wk.hand sh →
      Good set.procs set.width set.base K (λ u. (at w wk s.workers u).hand) (sight set s) →
      CoreGood set K (with_shard (with_worker s w wk) (set.shard_of x) sh)
  lock_moved w x m wk sh e shows floor holders good = record {
    good = subst (λ (v : Sight). Good set.procs set.width set.base K (λ u. (at w wk s.workers u).hand) v) (sym (sight_kept set s (set.shard_of x) sh shows)) good;
    locks = locks_moved set s w x m wk sh holders g.locks;
    small = g.small;
    floors = floors_at (set.shard_of x) sh (subst (λ (f : List ℕ). AtMost f s.plv) (sym floor) (g.floors (set.shard_of x)));
    persisted = g.persisted;
    gathered = g.gathered;
    count_gathered = g.count_gathered;
    count_plv = g.count_plv;
    members = members_at w wk e;
    streams = g.streams;
    unplaced = g.unplaced;
    anchors = g.anchors;
    pending = g.pending;
    acked = g.acked;
  }

  -- an outbox changes
  pub outbox_moved : (w : ℕ) (o : Outbox) → ((k : Ticket) → Member k o.pending → (t : Act Txn) × Member t K × (ticket t ≡ k)) → CoreGood set K (with_outbox s w o)
  outbox_moved w o fine = record {
    good = g.good;
    locks = g.locks;
    small = g.small;
    floors = g.floors;
    persisted = g.persisted;
    gathered = g.gathered;
    count_gathered = g.count_gathered;
    count_plv = g.count_plv;
    members = g.members;
    streams = g.streams;
    unplaced = g.unplaced;
    anchors = g.anchors;
    pending = λ u k m. elim (cases_eq u w) [
      | inl is ↦ fine k (subst (λ (b : Outbox). Member k b.pending) (ap (at w o s.outboxes) is ∙ at_same w o s.outboxes) m)
      | inr ne ↦ g.pending u k (subst (λ (b : Outbox). Member k b.pending) (at_other w o s.outboxes u ne) m)
    ];
    acked = g.acked;
  }
