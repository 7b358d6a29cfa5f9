-- What a machine keeps in its places from one call to the next.
use Rattle.std.specs.Prelude.{◌≡◌, Bool, true, false, List, [], replicate}
use Rattle.tau_base.specs.declared.limits.TheConstants.{REGISTERS}
use Rattle.tau_base.specs.declared.value.Value.{Value}
use Rattle.tau_base.specs.declared.value.Value.TheVariants.{Absent}
use Rattle.tau_proc.specs.declared.step.Step.{Step}

-- registers that no call has touched are absent
abbrev pub AbsentUnless : Bool → List Value → Type 0
AbsentUnless true registers = Unit {0}
AbsentUnless false registers = registers ≡ replicate REGISTERS Absent

-- a call that uses no steps has none, whichever are kept
abbrev pub steps_in_use : Bool → List Step → List Step
steps_in_use true steps = steps
steps_in_use false steps = []
