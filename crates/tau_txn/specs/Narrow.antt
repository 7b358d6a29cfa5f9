-- What is asked of the next action, one thing at a time.
use Rattle.std.specs.Prelude.{◌==◌, Bool, true, false, if◌then◌else◌, Option, Some, None, List, [], ◌∷◌, length}
use Rattle.std.specs.Map.{lookup}
use Rattle.tau_base.specs.declared.value.Key.{Key}
use Rattle.tau_base.specs.declared.value.Value.{Value}
use Rattle.tau_base.specs.declared.value.Mode.{Mode}
use Rattle.tau_base.specs.Database.{same_key}
use Rattle.tau_proc.specs.declared.reply.Want.{Want}
use Rattle.tau_proc.specs.declared.reply.Want.TheVariants as want
use Rattle.tau_proc.specs.Progress.{buffered, next_want}
use Rattle.tau_model.specs.declared.committed.Committed.{Committed}
use Rattle.tau_txn.specs.declared.standing.Standing.{Standing}
use Rattle.tau_txn.specs.declared.standing.Standing.TheVariants.{Running, Quitting, Freeing, LeftOver}
use Rattle.tau_txn.specs.declared.action.Action.{Action}
use Rattle.tau_txn.specs.declared.action.Action.TheVariants as action
use Rattle.tau_txn.specs.Hand.{PlainHand}
use Rattle.tau_txn.specs.Steps.{lock_by, first_key}
use Rattle.tau_txn.specs.Txn.{PlainTxn}

-- the lock that an action is
abbrev pub lock_at : Action → Option (Key × Mode)
lock_at (action.Lock x m) = Some (x, m)
lock_at _ = None

-- the key that an action gives back
abbrev pub quit_at : Action → Option Key
quit_at (action.Quit x) = Some x
quit_at _ = None

-- the key that an action frees
abbrev pub free_at : Action → Option Key
free_at (action.Free x write) = Some x
free_at _ = None

abbrev pub left_over_at : Action → Bool
left_over_at action.LeftOver = true
left_over_at _ = false

-- what the call in hand wrote at a key so far
abbrev pub written_of : Option PlainHand → Key → Option Value
written_of None x = None
written_of (Some h) x = lookup (same_key x) (buffered h.machine)

abbrev pub written_in : PlainTxn → Key → Option Value
written_in t x = written_of t.hand x

-- one call, or none
abbrev pub listed : Option Committed → List Committed
listed None = []
listed (Some c) = c ∷ []

-- the same by how far the call has come, and by what its machine wants

abbrev pub lock_asked : Standing → PlainHand → Option (Key × Mode)
lock_asked Running h = if h.leaves then None else lock_by (next_want h.machine)
lock_asked _ h = None

abbrev pub quit_asked : Standing → PlainHand → Option Key
quit_asked Running h = if h.leaves then first_key h.held else None
quit_asked Quitting h = first_key h.held
quit_asked _ h = None

abbrev pub free_wanted : Bool → Want → List (Key × Mode) → Option Key
free_wanted false want held = None
free_wanted true (want.Finished reply) held = first_key held
free_wanted true _ held = None

abbrev pub free_asked : Standing → PlainHand → Option Key
free_asked Running h = if h.leaves then None else free_wanted (length (buffered h.machine) == 0) (next_want h.machine) h.held
free_asked Freeing h = free_wanted true (next_want h.machine) h.held
free_asked _ h = None

abbrev pub is_left_over : Standing → Bool
is_left_over LeftOver = true
is_left_over _ = false
