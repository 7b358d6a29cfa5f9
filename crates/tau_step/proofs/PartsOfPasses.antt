-- Parts of passes: of the clerk, over one worker, and of a removal.
use Rattle.std.specs.Prelude.{ℕ, Bool, true}
use Rattle.tau_core.specs.declared.state.Load.{Load}
use Rattle.tau_core.specs.View.{setting_of}
use Rattle.tau_run.specs.Run.{below}
use Rattle.tau_run.specs.Turns.{Progress}
use Rattle.tau_step.specs.TurnParts.{Cleared, OneByOne, DropOf}
use Rattle.tau_step.specs.Progressed.{clears}

-- after what happened the pass over the worker goes on
abbrev pub clears_on : ℕ → Load → Progress → Progress → Type 0
clears_on w l P P' = (whole : Bool) (Q : Progress) → clears w whole l P' Q → clears w whole l P Q

-- the first of the workers, so many, are done
abbrev pub clerks_below : ℕ → Load → Progress → Progress → Type 0
clerks_below i l P P' = OneByOne (setting_of l) l.workers l.streams (λ b w. Cleared (setting_of l) l.workers l.streams w b) true (below i) P P'

abbrev pub drops_below : ℕ → Load → Progress → Progress → Type 0
drops_below i l P P' = OneByOne (setting_of l) l.workers l.streams (DropOf (setting_of l) l.workers l.streams) true (below i) P P'
