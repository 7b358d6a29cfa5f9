-- What a list of procedures keeps.
use Rattle.std.specs.Prelude.{◌≡◌, ℕ, suc, zero, ◌+◌, ◌≤◌, Bool, true, ◌&&◌, nat_lt, nat_le, Option, Some, None, List, [], ◌∷◌, length, All, IsTrue}
use Rattle.std.specs.List.{list_all}
use Rattle.tau_base.specs.declared.limits.TheConstants.{MAX_PROCS, MAX_STEPS, MAX_ARGS, REGISTERS}
use Rattle.tau_proc.specs.declared.proc.Proc.{Proc}
use Rattle.tau_proc.specs.declared.step.Operand.{Operand}
use Rattle.tau_proc.specs.declared.step.Operand.TheVariants as operand
use Rattle.tau_proc.specs.declared.step.Step.{Step}
use Rattle.tau_proc.specs.declared.step.Step.TheVariants as step

abbrev pub is_register : ℕ → Bool
is_register i = nat_lt i REGISTERS

-- an operand of a procedure that has so many arguments names a register, or one of these arguments
abbrev pub operand_fits : ℕ → Operand → Bool
operand_fits args (operand.Register i) = is_register i
operand_fits args (operand.Argument i) = nat_le 1 i && nat_le i args
operand_fits args (operand.Int n) = true
operand_fits args (operand.Text t) = true
operand_fits args operand.Absent = true

-- a step that puts a value of two operands into a register
abbrev pub target_fits : ℕ → ℕ → Operand → Operand → Bool
target_fits args into left right = is_register into && operand_fits args left && operand_fits args right

abbrev pub step_fits : ℕ → Step → Bool
step_fits args (step.Get into table row) = is_register into && operand_fits args row
step_fits args (step.Put table row value) = operand_fits args row && operand_fits args value
step_fits args (step.Del table row) = operand_fits args row
step_fits args (step.Add into left right) = target_fits args into left right
step_fits args (step.Sub into left right) = target_fits args into left right
step_fits args (step.Mul into left right) = target_fits args into left right
step_fits args (step.Min into left right) = target_fits args into left right
step_fits args (step.Max into left right) = target_fits args into left right
step_fits args (step.Cat into left right) = target_fits args into left right
step_fits args (step.Need left how right) = operand_fits args left && operand_fits args right
step_fits args (step.When left how right) = operand_fits args left && operand_fits args right
step_fits args step.Done = true
step_fits args (step.Reply value) = operand_fits args value

-- a `done` closes one `when`, where one is open
abbrev pub closed_one : ℕ → Option ℕ
closed_one zero = None
closed_one (suc n) = Some n

-- how many `when` are open after a step, where n were before it; None at a `done` without a `when`
abbrev pub open_after : Step → ℕ → Option ℕ
open_after (step.When left how right) n = Some (n + 1)
open_after step.Done n = closed_one n
open_after _ n = Some n

-- likewise after all these steps
abbrev pub open_whens : Option ℕ → List Step → Option ℕ
open_whens None steps = None
open_whens (Some n) [] = Some n
open_whens (Some n) (s ∷ ss) = open_whens (open_after s n) ss

-- a procedure within the limits, whose steps name its own arguments and the registers, and whose every `when` has its `done` and every `done` its `when`
pub record IsWellFormed (p : Proc) : Type 0 where
  pub steps : length p.steps ≤ MAX_STEPS
  pub args : p.args ≤ MAX_ARGS
  pub names : IsTrue (list_all (step_fits p.args) p.steps)
  pub closed : open_whens (Some 0) p.steps ≡ Some 0

-- at most 256 procedures, each of them well formed
pub record KeepsLimits (procs : List Proc) : Type 0 where
  pub count : length procs ≤ MAX_PROCS
  pub each : All IsWellFormed procs
