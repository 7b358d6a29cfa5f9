-- A call in hand, as plain data.
use Rattle.std.specs.Prelude.{ℕ, Bool, List}
use Rattle.tau_base.specs.declared.value.Key.{Key}
use Rattle.tau_base.specs.declared.value.Value.{Value}
use Rattle.tau_base.specs.declared.value.Mode.{Mode}
use Rattle.tau_base.specs.declared.value.Call.{Call}
use Rattle.tau_proc.specs.Progress.{Progress}
use Rattle.tau_txn.specs.declared.standing.Standing.{Standing}

pub record PlainHand : Type 0 where
  pub number : ℕ
  pub call : Call
  pub machine : Progress
  pub tries : ℕ
  -- whether it is to be given up, and whether it has given a key back since then
  pub leaves : Bool
  pub given_up : Bool
  pub standing : Standing
  pub dep : List ℕ
  pub held : List (Key × Mode)
  pub seen : List (Key × Value)
  pub anchor : ℕ
  pub stream : ℕ
  pub start : ℕ
  pub past : ℕ
  pub lv : List ℕ
  pub bytes : List ℕ
