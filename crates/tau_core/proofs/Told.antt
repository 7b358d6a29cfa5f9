-- The lock that is told with the value of its row.
use Rattle.std.proofs.Common.{ℕ, ◌≡◌, List, refl, sym, ap, ◌∙◌, Option}
use Rattle.std.specs.Prelude.{Some, None}
use Rattle.tau_base.specs.declared.value.Key.{Key}
use Rattle.tau_base.specs.declared.value.Mode.{Mode}
use Rattle.tau_base.specs.declared.value.Value.{Value}
use Rattle.tau_base.specs.Shards.{shard_number}
use Rattle.tau_proc.specs.declared.proc.Proc.{Proc}
use Rattle.tau_model.specs.History.{Act}
use Rattle.tau_machine.specs.Hands.{Txn, Hand}
use Rattle.tau_machine.specs.Stage.{stage}
use Rattle.tau_machine.specs.Worker.{lock_of}
use Rattle.tau_core.specs.declared.event.Acted.{Acted}
use Rattle.tau_core.specs.declared.event.Acted.TheVariants as acted
use Rattle.tau_core.specs.State.{Plain}
use Rattle.tau_core.specs.View.{Hidden, core_of}
use Rattle.tau_core.specs.Steps.{LockSteps}
use Rattle.tau_core.specs.declared.event.Phase.TheVariants.{Locking}
use Rattle.tau_core.specs.Phases.{hand_phase, phase_by, running_phase}
use Rattle.tau_core.specs.NextLock.{IsAt, TellsLock}
use Rattle.tau_core.specs.Answered.{granted_by}

abbrev hand_or : Hand → Option Hand → Hand
hand_or h None = h
hand_or h (Some x) = x

abbrev key_or : Key → Option (Key × Mode) → Key
key_or k None = k
key_or k (Some l) = l.0

-- there is one lock that the worker is at
pub same_key : (procs : List Proc) (o : Option Hand) (r r' : ℕ × Key × Mode) → IsAt procs o r → IsAt procs o r' → r.1 ≡ r'.1
same_key procs o r r' t u =
    let same : t.hand ≡ u.hand = ap (hand_or t.hand) (sym t.is ∙ u.is) in
    ap (key_or r.1) (sym t.next ∙ ap (λ (x : Hand). lock_of (stage procs x.call.call x.seen) x.held) same ∙ u.next)

pub at_locking : (procs : List Proc) (o : Option Hand) (r : ℕ × Key × Mode) → IsAt procs o r → hand_phase procs o ≡ Locking
at_locking procs o r t =
    ap (hand_phase procs) t.is ∙ ap (phase_by procs t.hand) t.phase
    ∙ ap (λ (l : Option (Key × Mode)). running_phase l (stage procs t.hand.call.call t.hand.seen) t.hand.held) t.next

module _ (p p' : Plain) (K : List (Act Txn)) (h : Hidden) (w : ℕ) (some value : Value) where
  pub lock_told : (a : Acted) → ((r : ℕ × Key × Mode) → TellsLock p h w (Some r) → value ≡ ((core_of p h).shards (shard_number r.1)).rows r.1) → LockSteps p p' K h w (granted_by some a) → LockSteps p p' K h w (granted_by value a)
  lock_told acted.Went is q =
      let l = q.0.leads.0 in (
        q.0,
        (l.key, l.mode, record { hand = l.hand; is = l.is; next = l.next }, is (l.hand.call.number, l.key, l.mode) (record { hand = l.hand; is = l.is; phase = l.phase; number = refl; next = l.next })),
      )
  lock_told (acted.Busy holder) is q = q
  lock_told (acted.Other kind) is q = q
  lock_told acted.NoMemory is q = q
