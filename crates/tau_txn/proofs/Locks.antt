-- A lock on a shard, which raises the call's vector in place.
use Rattle.std.proofs.Common.{ℕ, ◌≡◌, Bool, true, false, List, refl, sym, ap, subst, ◌∙◌}
use Rattle.std.specs.Prelude.{Some, Result, Ok, Err, OnOk, OnErr}
use Rattle.tau_base.specs.declared.value.Key.{Key}
use Rattle.tau_base.specs.declared.value.Mode.{Mode}
use Rattle.tau_base.specs.declared.value.Mode.TheVariants as mode
use Rattle.tau_proc.specs.declared.proc.Proc.{Proc}
use Rattle.tau_proc.specs.declared.reply.Want.{Want}
use Rattle.tau_proc.specs.declared.reply.Want.TheVariants.{Read, Write, Finished}
use Rattle.tau_base.specs.declared.value.LogMode.{LogMode}
use Rattle.tau_machine.specs.Hands.{Hand, hold}
use Rattle.tau_shard.specs.Shard.{Shard, entry_in}
use Rattle.tau_shard.specs.Blocks.{dep_locked}
use Rattle.tau_shard.specs.declared.entry.ShardRefusal.{ShardRefusal}
use Rattle.tau_txn.specs.declared.action.Action.TheVariants as action
use Rattle.tau_txn.specs.declared.standing.Standing.{Standing}
use Rattle.tau_txn.specs.declared.standing.Standing.TheVariants.{Running}
use Rattle.tau_txn.specs.Hand.{PlainHand}
use Rattle.tau_txn.specs.Kept.{KeepsHand, kept}
use Rattle.tau_txn.specs.Locked.{HandLocked, RunsOn, TxnLocked}
use Rattle.tau_txn.specs.Next.{next_of}
use Rattle.tau_txn.specs.Progress.{IsRunBy}
use Rattle.tau_txn.specs.Steps.{lock_by, locked_with}
use Rattle.tau_txn.specs.Txn.{PlainTxn, shown}
use Rattle.tau_txn.proofs.Asked.{LockAsked, asked_at}
use Rattle.tau_txn.proofs.Keeping.{locked_keeps}
use Rattle.tau_txn.proofs.Txns.{shows}

pub wants_read : (w : Want) (x : Key) → lock_by w ≡ Some (x, mode.Read) → w ≡ Read x
wants_read (Read y) x e =
    let same : ◌≡◌ {A = Key × Mode} (y, mode.Read) (x, mode.Read) = cc in
    ap (λ (p : Key × Mode). Read p.0) same
wants_read (Write y) x e =
    let same : ◌≡◌ {A = Key × Mode} (y, mode.Write) (x, mode.Read) = cc in
    let bad : mode.Write ≡ mode.Read = ap (λ (p : Key × Mode). p.1) same in
    cc
wants_read (Finished reply) x e = cc

pub wants_write : (w : Want) (x : Key) → lock_by w ≡ Some (x, mode.Write) → w ≡ Write x
wants_write (Read y) x e =
    let same : ◌≡◌ {A = Key × Mode} (y, mode.Read) (x, mode.Write) = cc in
    let bad : mode.Read ≡ mode.Write = ap (λ (p : Key × Mode). p.1) same in
    cc
wants_write (Write y) x e =
    let same : ◌≡◌ {A = Key × Mode} (y, mode.Write) (x, mode.Write) = cc in
    ap (λ (p : Key × Mode). Write p.0) same
wants_write (Finished reply) x e = cc

-- a call that has changed in nothing runs on
pub runs_same : (dep : List ℕ) (h h' : PlainHand) → h.standing ≡ Running → h' ≡ h → RunsOn dep h h'
runs_same dep h h' running e =
    record {
      standing = ap (λ (x : PlainHand). x.standing) e ∙ running;
      runs = λ procs is. subst (IsRunBy procs) (sym e) is;
      keeps = λ width wide keeps. subst (KeepsHand width) (sym e) keeps;
      leaves = ap (λ (x : PlainHand). x.leaves) e;
      bytes = ap (λ (x : PlainHand). x.bytes) e;
    }

-- so does one that has got a lock
pub runs_locked : (dep : List ℕ) (h h' : PlainHand) (x : Key) (m : Mode) → h' ≡ record h { machine = h'.machine; held = hold x m h.held; seen = h'.seen; dep = dep } → h.standing ≡ Running →
    ((procs : List Proc) → IsRunBy procs h → IsRunBy procs h') → RunsOn dep h h'
runs_locked dep h h' x m e running runs =
    record {
      standing = ap (λ (y : PlainHand). y.standing) e ∙ running;
      runs = runs;
      keeps = λ width wide keeps. locked_keeps width h x m h'.machine h'.seen dep h' e keeps running wide (record { procs = keeps.run.procs; is = runs keeps.run.procs keeps.run.is });
      leaves = ap (λ (y : PlainHand). y.leaves) e;
      bytes = ap (λ (y : PlainHand). y.bytes) e;
    }

-- where a lock comes next, the call is in hand and runs
pub asks_lock : (b : Bool) (h : PlainHand) (x : Key) (m : Mode) → next_of (kept b h) ≡ action.Lock x m → (b ≡ true) × LockAsked h x m
asks_lock true h x m e = (refl, asked_at h (action.Lock x m) e)
asks_lock false h x m e = cc

module _ (n width : ℕ) (logs : LogMode) where
  abbrev pub txn_with : Bool → PlainHand → PlainTxn
  txn_with b h = record { worker = n; width = width; mode = logs; hand = kept b h }

  -- the worker with the call in its hand
  pub txn_locked : (r : Result (Unit {0}) ShardRefusal) (w : ℕ) (x : Key) (m : Mode) (s s' : Shard) (b : Bool) (h h' : PlainHand) → b ≡ true → h'.standing ≡ Running →
      OnOk r (HandLocked w x m s s' h h') → OnOk r (TxnLocked w x m s s' (txn_with b h) (txn_with b h'))
  txn_locked (Err e) w x m s s' b h h' in_hand running l = tt
  txn_locked (Ok u) w x m s s' false h h' in_hand running l = cc
  txn_locked (Ok u) w x m s s' true h h' in_hand running l =
      record {
        locked = l.locked;
        free = l.free;
        is = λ procs hand run is.
            ap (λ (st : Standing). shown procs n st h') running
            ∙ ap (λ (a : Hand). Some a) (l.is procs n)
            ∙ ap (λ (a : Hand). Some (locked_with a x m (s.rows x) (dep_locked m h.dep (entry_in s x)))) (shows procs n h hand is).is;
      }

  pub txn_same : (r : Result (Unit {0}) ShardRefusal) (b : Bool) (h h' : PlainHand) → OnErr r (h' ≡ h) → OnErr r (txn_with b h' ≡ txn_with b h)
  txn_same (Ok u) b h h' e = tt
  txn_same (Err x) b h h' e = ap (txn_with b) e
