-- A call that runs on peeked values.
use Rattle.std.specs.Prelude.{◌≤◌, ◌≡◌, Option, Some, None, List, [], length}
use Rattle.std.specs.Map.{lookup}
use Rattle.tau_base.specs.declared.limits.TheConstants.{MAX_STEPS}
use Rattle.tau_base.specs.declared.value.Call.{Call}
use Rattle.tau_base.specs.declared.value.Key.{Key}
use Rattle.tau_base.specs.declared.value.Value.{Value}
use Rattle.tau_base.specs.Database.{same_key}
use Rattle.tau_proc.specs.declared.proc.Proc.{Proc}
use Rattle.tau_proc.specs.Limits.{KeepsLimits}
use Rattle.tau_proc.specs.Progress.{Progress, ahead, blank}
use Rattle.tau_proc.specs.Stage as given
use Rattle.tau_machine.specs.Stage.{Stage, Wants, Ends}
use Rattle.tau_txn.specs.Progress.{Follows}

pub record PlainPeeker : Type 0 where
  pub machine : Progress
  -- the values seen, each key once
  pub seen : List (Key × Value)
  -- the key that was asked for and has no value yet
  pub asked : Option Key

abbrev pub blank_peeker : PlainPeeker
blank_peeker = record { machine = blank; seen = []; asked = None }

-- the machine stands at the key that was asked for
abbrev pub IsAsked : Progress → Option Key → Type 0
IsAsked m None = Unit {0}
IsAsked m (Some key) = ahead m [] ≡ given.Wants key

-- and that key has no value
abbrev pub IsUnseen : List (Key × Value) → Option Key → Type 0
IsUnseen seen None = Unit {0}
IsUnseen seen (Some key) = lookup (same_key key) seen ≡ None

-- the call of these procedures runs on the values seen
pub record IsPeeking (procs : List Proc) (c : Call) (p : PlainPeeker) : Type 0 where
  pub limits : KeepsLimits procs
  pub follows : Follows procs c p.seen p.machine
  pub unseen : IsUnseen p.seen p.asked
  pub few : length p.seen ≤ MAX_STEPS

-- the key that a call wants, and none once it has ended
abbrev pub wanted_of : Stage → Option Key
wanted_of (Wants reads key) = Some key
wanted_of (Ends effect) = None

abbrev pub HasEnded : given.Stage → Type 0
HasEnded (given.Wants key) = ⊥
HasEnded (given.Ends writes reply) = Unit {0}
