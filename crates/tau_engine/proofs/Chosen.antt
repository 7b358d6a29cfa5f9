-- A run by turns is as its workload has it.
use Rattle.std.proofs.Common.{ℕ, Bool, List, Option}
use Rattle.std.specs.Prelude.{Some, None}
use Rattle.tau_text.specs.declared.load.Turn.{Turn}
use Rattle.tau_text.specs.declared.load.Workload.{Workload}
use Rattle.tau_machine.specs.State.{Core}
use Rattle.tau_core.specs.declared.state.Load.{Load}
use Rattle.tau_occ.specs.declared.style.Style.TheVariants.{Locking}
use Rattle.tau_run.specs.RunFacts.{IsByTurns, chosen_by}
use Rattle.tau_run.specs.Turns.{Progress}

pub chosen : (turns : Option (List Turn)) (whole : Bool) (n m : ℕ) (load : Workload) (l : Load) (opening : Core) (p : Progress) → IsByTurns Locking whole n m load l opening p → chosen_by turns Locking n m load whole l opening p
chosen None whole n m load l opening p h = tt
chosen (Some turns) whole n m load l opening p h = h
