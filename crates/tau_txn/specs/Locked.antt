-- What a lock on a shard leaves of the call that takes it.
use Rattle.std.specs.Prelude.{ℕ, ◌≡◌, false, List, Some, length}
use Rattle.tau_base.specs.declared.value.Key.{Key}
use Rattle.tau_base.specs.declared.value.Mode.{Mode}
use Rattle.tau_proc.specs.declared.proc.Proc.{Proc}
use Rattle.tau_machine.specs.Hands as theory
use Rattle.tau_shard.specs.Shard.{Shard, entry_in, shard_locked}
use Rattle.tau_shard.specs.Blocks.{blocks, dep_locked}
use Rattle.tau_txn.specs.declared.standing.Standing.TheVariants.{Running}
use Rattle.tau_txn.specs.Hand.{PlainHand}
use Rattle.tau_txn.specs.Kept.{KeepsHand}
use Rattle.tau_txn.specs.Progress.{IsRunBy}
use Rattle.tau_txn.specs.Read.{hand_of}
use Rattle.tau_txn.specs.Steps.{locked_with}
use Rattle.tau_txn.specs.Txn.{PlainTxn, RunsBy, dep_in, hand_in}

-- the worker has locked the key, by which the shard s is s' and the call h is h'
pub record HandLocked (w : ℕ) (key : Key) (mode : Mode) (s s' : Shard) (h h' : PlainHand) : Type 0 where
  pub locked : s' ≡ shard_locked s w key mode
  pub free : (u : ℕ) → blocks (entry_in s key) w mode u ≡ false
  pub is : (procs : List Proc) (n : ℕ) → hand_of procs n h' ≡ locked_with (hand_of procs n h) key mode (s.rows key) (dep_locked mode h.dep (entry_in s key))

-- a call with this vector runs on, whether it has got a lock or not
pub record RunsOn (dep : List ℕ) (h h' : PlainHand) : Type 0 where
  pub standing : h'.standing ≡ Running
  pub runs : (procs : List Proc) → IsRunBy procs h → IsRunBy procs h'
  pub keeps : (width : ℕ) → length dep ≡ width → KeepsHand width h → KeepsHand width h'
  pub leaves : h'.leaves ≡ h.leaves
  pub bytes : h'.bytes ≡ h.bytes

-- the same of the worker t with the call in its hand, which is t' then
pub record TxnLocked (w : ℕ) (key : Key) (mode : Mode) (s s' : Shard) (t t' : PlainTxn) : Type 0 where
  pub locked : s' ≡ shard_locked s w key mode
  pub free : (u : ℕ) → blocks (entry_in s key) w mode u ≡ false
  pub is : (procs : List Proc) (hand : theory.Hand) → RunsBy procs t → hand_in procs t ≡ Some hand →
      hand_in procs t' ≡ Some (locked_with hand key mode (s.rows key) (dep_locked mode (dep_in t) (entry_in s key)))
