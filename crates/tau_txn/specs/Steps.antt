-- The next lock of a call in hand, what it is after a lock, and its record.
use Rattle.std.specs.Prelude.{ℕ, Option, Some, None, List, [], ◌∷◌, ◌++◌, if◌then◌else◌}
use Rattle.tau_base.specs.declared.value.Key.{Key}
use Rattle.tau_base.specs.declared.value.Value.{Value}
use Rattle.tau_base.specs.declared.value.Mode.{Mode}
use Rattle.tau_base.specs.declared.value.Mode.TheVariants.{Read, Write}
use Rattle.tau_base.specs.declared.value.LogMode.{LogMode}
use Rattle.tau_base.specs.Modes.{is_command}
use Rattle.tau_record.specs.declared.entry.Entry.{Entry}
use Rattle.tau_record.specs.declared.entry.Entry.TheVariants.{Written, Command}
use Rattle.tau_proc.specs.declared.proc.Proc.{Proc}
use Rattle.tau_proc.specs.declared.reply.Want.{Want}
use Rattle.tau_proc.specs.declared.reply.Want.TheVariants as want
use Rattle.tau_proc.specs.Progress.{buffered, next_want}
use Rattle.tau_machine.specs.Hands as theory
use Rattle.tau_machine.specs.Hands.{hold, without, lv_of}
use Rattle.tau_machine.specs.Worker.{Worker}
use Rattle.tau_txn.specs.declared.standing.Standing.{Standing}
use Rattle.tau_txn.specs.declared.standing.Standing.TheVariants.{LeftOver}
use Rattle.tau_txn.specs.Hand.{PlainHand}
use Rattle.tau_txn.specs.Read.{hand_of}

-- the lock that the call's machine wants
abbrev pub lock_by : Want → Option (Key × Mode)
lock_by (want.Read x) = Some (x, Read)
lock_by (want.Write x) = Some (x, Write)
lock_by (want.Finished reply) = None

abbrev pub lock_in : PlainHand → Option (Key × Mode)
lock_in h = lock_by (next_want h.machine)

-- the hand after a lock that gave this row and raised its vector to dep
abbrev pub locked_with : theory.Hand → Key → Mode → Value → List ℕ → theory.Hand
locked_with h x Read row dep = record h { dep = dep; held = hold x Read h.held; seen = h.seen ++ (x, row) ∷ [] }
locked_with h x Write row dep = record h { dep = dep; held = hold x Write h.held }

-- the worker with this call in hand, or after it where it is left over
abbrev pub worker_by : List Proc → ℕ → Worker → Standing → PlainHand → Worker
worker_by procs w wk LeftOver h = record wk { hand = None; left = wk.left ++ (record { number = h.number; call = h.call }) ∷ [] }
worker_by procs w wk _ h = record wk { hand = Some (hand_of procs w h) }

abbrev pub worker_with : List Proc → ℕ → Worker → PlainHand → Worker
worker_with procs w wk h = worker_by procs w wk h.standing h

-- the lowest key that is held
abbrev pub first_key : List (Key × Mode) → Option Key
first_key [] = None
first_key (e ∷ es) = Some e.0

abbrev pub without_first : List (Key × Mode) → List (Key × Mode)
without_first [] = []
without_first (e ∷ es) = without e.0 (e ∷ es)

-- the record of a call that has ended: what it wrote, or the call itself
abbrev pub record_of : LogMode → PlainHand → Entry
record_of mode h = if is_command mode then Command h.number h.anchor h.dep h.call else Written h.number h.anchor h.dep (buffered h.machine)
