-- A worker locks a key, or meets Busy.
use Rattle.std.proofs.Common.{◌≡◌, ◌≤◌, ℕ, true, false, inl, inr, List, [], Option, length, refl, sym, ap, ◌∙◌, subst}
use Rattle.std.specs.Prelude.{Some, None}
use Rattle.std.proofs.lemmas.Bool.{cases_eq, ne_eqb, eq-eqb}
use Rattle.tau_base.specs.declared.value.Key.{Key}
use Rattle.tau_base.specs.declared.value.Value.{Value}
use Rattle.tau_base.specs.declared.value.Mode.{Mode}
use Rattle.tau_base.specs.Shards.{shard_number}
use Rattle.tau_proc.specs.declared.proc.Proc.{Proc}
use Rattle.tau_machine.specs.Hands.{Hand}
use Rattle.tau_shard.specs.Shard.{Shard, Entry, entry_in, entry_or, shard_locked}
use Rattle.tau_machine.specs.Shapes.{ShardShape}
use Rattle.tau_machine.specs.State.{Setting}
use Rattle.tau_machine.specs.Worker.{Worker, begun, settled, hand_busy, hand_locked}
use Rattle.tau_machine.specs.Events.{Lock, Busy, Conflicts}
use Rattle.tau_shard.specs.Blocks.{RefusedBy, blocks, dep_locked}
use Rattle.tau_shard.specs.declared.entry.ShardRefusal.{ShardRefusal}
use Rattle.tau_shard.specs.declared.entry.ShardRefusal.TheVariants as refusal
use Rattle.tau_txn.specs.declared.standing.Standing.{Standing}
use Rattle.tau_txn.specs.declared.standing.Standing.TheVariants as standing
use Rattle.tau_txn.specs.Hand.{PlainHand}
use Rattle.tau_txn.specs.Steps.{locked_with, worker_by}
use Rattle.tau_txn.specs.Next as txn
use Rattle.tau_txn.specs.Txn.{PlainTxn, hand_in, shown, shown_of, worker_of, worker_in, dep_in, RunsBy}
use Rattle.tau_core.specs.State.{Plain}
use Rattle.tau_core.specs.View.{setting_of}
use Rattle.tau_occ.specs.declared.style.Style.{Style}
use Rattle.tau_rule.specs.Knows.{Knows}
use Rattle.tau_rule.specs.Steps.{Sat, Agrees, IsReady, StepsShard, next_worker, told, working, shard_in}
use Rattle.tau_rule.proofs.Placing.{IsAfter}
use Rattle.tau_rule.specs.declared.part.Part.{Part}
use Rattle.tau_rule.proofs.Gives.{told_is}
use Rattle.tau_rule.proofs.Turns.{part_shard, reached_invariant}
use Rattle.tau_rule.proofs.Workers.{locks, refuses, worker_shown}
use Rattle.tau_txn.specs.declared.action.Action.{Action}
use Rattle.tau_txn.specs.declared.action.Action.TheVariants as action
use Rattle.tau_txn.specs.declared.action.ActionKind.TheVariants as kind
use Rattle.tau_txn.specs.Narrow.{lock_at}
use Rattle.tau_txn.specs.Next.{kind_of}
use Rattle.tau_core.proofs.Hands.{shown_dep, locked_alike, locked_wide}
use Rattle.tau_machine.proofs.Conflicts.{no_conflict}
use Rattle.tau_shard.proofs.Bridge.{against_to}

-- the holder that stands against a lock is a conflict
a_conflict : (set : Setting) (sh : Shard) (w : ℕ) (x : Key) (m : Mode) (u : ℕ) → blocks (entry_in sh x) w m u ≡ true → Conflicts set sh w x m
a_conflict set sh w x m u h = elim (cases_eq u w) [
  | inl is ↦ absurd (let bad : false ≡ true = rw (eq-eqb u w is) at h in cc)
  | inr ne ↦
      let a = against_to m ((entry_in sh x).holders u) (rw (ne_eqb u w ne) at h) in
      (u, a.0, ne, a.1, a.2)
]

-- an action that asks for no such thing is not a lock
pub no_lock : (a : Action) (o : Option (Key × Mode)) → o ≡ lock_at a → ((l : (Key × Mode)) → o ≡ Some l → ⊥) → kind_of a ≡ kind.Lock → ⊥
no_lock (action.Lock x m) o asked none e = none (x, m) asked
no_lock (action.Quit x) o asked none e = cc
no_lock (action.Commit size) o asked none e = cc
no_lock action.Post o asked none e = cc
no_lock (action.Free x write) o asked none e = cc
no_lock (action.Done reply lv) o asked none e = cc
no_lock action.LeftOver o asked none e = cc
no_lock action.Nothing o asked none e = cc

pub granted_steps : (origin : Plain) {style : Style} (w k : ℕ) (wk : Worker) (sh sh' : Shard) (t t' : PlainTxn) (key : Key) (mode : Mode) (row : Value) (dep dep' : List ℕ) (m : txn.Locks origin.load.procs t key mode) → (begun origin.load.streams wk).hand ≡ hand_in origin.load.procs t → k ≡ shard_number key →
    dep ≡ dep_in t → dep' ≡ dep_locked mode dep (entry_in sh key) → row ≡ sh.rows key → ((u : ℕ) → blocks (entry_in sh key) w mode u ≡ false) → sh' ≡ shard_locked sh w key mode →
    hand_in origin.load.procs t' ≡ Some (locked_with m.hand key mode row dep') → StepsShard origin style (Lock w) w wk (next_worker origin.load wk t') k sh sh'
granted_steps origin w k wk sh sh' t t' key mode row dep dep' m agrees number dep_is joined row_is free locked shown =
    locks origin w k wk sh m.hand key mode (agrees ∙ m.is) number m.phase m.next (next_worker origin.load wk t') sh' (no_conflict (setting_of origin.load) sh w key mode free)
    (worker_shown origin.load.procs (begun origin.load.streams wk) t' (locked_with m.hand key mode row dep') shown
    ∙ ap (λ (h : Hand). record (begun origin.load.streams wk) { hand = Some h }) (locked_alike m.hand key mode row dep' (entry_in sh key) (joined ∙ ap (λ (d : List ℕ). dep_locked mode d (entry_in sh key)) (dep_is ∙ shown_dep origin.load.procs t m.hand m.is)))
    ∙ ap (λ (r : Value). record (begun origin.load.streams wk) { hand = Some (hand_locked m.hand key mode r (entry_in sh key).write_lv (entry_in sh key).read_lv) }) row_is)
    locked

-- a shard that refuses a lock so has its key held by another worker
pub refused_held : (origin : Plain) (sh : Shard) (w : ℕ) (key : Key) (mode : Mode) (e : ShardRefusal) (holder : ℕ) → e ≡ refusal.Busy holder → RefusedBy (entry_in sh key) w mode e → Conflicts (setting_of origin.load) sh w key mode
refused_held origin sh w key mode e holder is refused =
    let lowest : RefusedBy (entry_in sh key) w mode (refusal.Busy holder) = subst (λ (r : ShardRefusal). RefusedBy (entry_in sh key) w mode r) is refused in
    a_conflict (setting_of origin.load) sh w key mode holder lowest.0

pub busy_steps : (origin : Plain) {style : Style} (w k : ℕ) (wk : Worker) (sh sh' : Shard) (t t' : PlainTxn) (key : Key) (mode : Mode) (m : txn.Locks origin.load.procs t key mode) → Conflicts (setting_of origin.load) sh w key mode → (begun origin.load.streams wk).hand ≡ hand_in origin.load.procs t → k ≡ shard_number key → sh' ≡ sh → t.width ≡ origin.load.streams →
    ((x : Worker) (h : Hand) → hand_in origin.load.procs t ≡ Some h → worker_of origin.load.procs x t' ≡ settled t.width x (hand_busy h)) → StepsShard origin style (Busy w) w wk (next_worker origin.load wk t') k sh sh'
busy_steps origin {style} w k wk sh sh' t t' key mode m held agrees number same width busy =
    subst (λ (x : Shard). StepsShard origin style (Busy w) w wk (next_worker origin.load wk t') k sh x) (sym same)
    (refuses origin w k wk sh m.hand key mode (agrees ∙ m.is) number m.phase m.next (next_worker origin.load wk t') held (busy (begun origin.load.streams wk) m.hand m.is ∙ ap (λ (n : ℕ). settled n (begun origin.load.streams wk) (hand_busy m.hand)) width))

pub worker_hand : (procs : List Proc) (wk : Worker) (t : PlainTxn) → (worker_of procs wk t).hand ≡ hand_in procs t
worker_hand procs wk t = by_case t.hand
  where
    at : (st : Standing) (x : PlainHand) → (worker_by procs t.worker wk st x).hand ≡ shown procs t.worker st x
    at standing.Running x = refl
    at standing.Quitting x = refl
    at standing.Placed x = refl
    at standing.Freeing x = refl
    at standing.LeftOver x = refl

    by_case : (o : Option PlainHand) → (worker_in procs t.worker wk o).hand ≡ shown_of procs t.worker o
    by_case None = refl
    by_case (Some x) = at x.standing x

pub after : (origin : Plain) (w : ℕ) (m : Sat) (t t' : PlainTxn) → IsReady origin w m t → t'.worker ≡ t.worker → t'.width ≡ t.width → RunsBy origin.load.procs t' → IsAfter origin w (told origin.load m.0 t', []) t'
after origin w m t t' r number width runs =
    subst (λ (v : Knows). IsAfter origin w (v, []) t') (sym (told_is origin m.0 t' w r.role r.worker r.seat.roles r.share)) (record {
      role = working r.role (next_worker origin.load r.worker t');
      worker = next_worker origin.load r.worker t';
      seat = record { opened = r.seat.opened; roles = refl; idle = refl; none = refl };
      share = refl;
      there = r.there;
      number = number ∙ r.number;
      width = width ∙ r.width;
      runs = runs;
      agrees = worker_hand origin.load.procs (begun origin.load.streams r.worker) t';
    })

entry_narrow : (origin : Plain) (sh : Shard) (x : Key) → ShardShape (setting_of origin.load) sh → (length (entry_in sh x).write_lv ≤ origin.load.streams) × (length (entry_in sh x).read_lv ≤ origin.load.streams)
entry_narrow origin sh x q = by_case (sh.entries x) refl
  where
    by_case : (e : Option Entry) → sh.entries x ≡ e → (length (entry_or sh.floor e).write_lv ≤ origin.load.streams) × (length (entry_or sh.floor e).read_lv ≤ origin.load.streams)
    by_case None is = (q.floor, q.floor)
    by_case (Some e) is = q.entries x e is

-- a shard that was taken has no vector with more positions than there are streams
pub taken_wide : (origin : Plain) (v : Knows) (k : ℕ) (p : Part) (sh : Shard) (x : Key) (m : Mode) (dep : List ℕ) → Agrees origin v k p → shard_in p ≡ Some sh → length dep ≡ origin.load.streams → length (dep_locked m dep (entry_in sh x)) ≡ origin.load.streams
taken_wide origin v k p sh x m dep a is wide =
    let inv = reached_invariant origin a.state.core a.meets.reached in
    let narrow = entry_narrow origin sh x (subst (λ (z : Shard). ShardShape (setting_of origin.load) z) (part_shard origin a.state k p sh is a.part).1 (inv.shapes.shards k)) in
    locked_wide m origin.load.streams dep (entry_in sh x) wide narrow.0 narrow.1
