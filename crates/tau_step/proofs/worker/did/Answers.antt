use Rattle.std.proofs.Common.{true, false, refl, sym, subst}
use Rattle.std.specs.Prelude.{Ok, Err}
use Rattle.tau_core.specs.declared.event.Acted.{Acted}
use Rattle.tau_core.specs.Answered.{outcome_by}
use Rattle.tau_step.specs.Acting.{Tells}
use Rattle.tau_step.proofs.worker.did.Goals as goal

pub returns-in-Went : goal.returns-in-Went
returns-in-Went c = λ so tells. subst (λ (a : Acted). Tells (outcome_by so a) (Ok true)) (sym c.in-Went.is) tells

pub returns-in-Busy : goal.returns-in-Busy
returns-in-Busy c = λ so tells. subst (λ (a : Acted). Tells (outcome_by so a) (Ok true)) (sym c.in-Busy.is) refl

pub returns-in-Other : goal.returns-in-Other
returns-in-Other c = λ so tells. subst (λ (a : Acted). Tells (outcome_by so a) (Ok false)) (sym c.in-Other.is) refl

pub returns-in-NoMemory : goal.returns-in-NoMemory
returns-in-NoMemory c = λ so tells. subst (λ (a : Acted). Tells (outcome_by so a) (Err record {})) (sym c.in-NoMemory.is) tt
