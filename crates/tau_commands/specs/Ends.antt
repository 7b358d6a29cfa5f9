-- How a command ended: well, by one line, and without a fault.
use Rattle.std.specs.Prelude.{ℕ, ◌<◌, List, [], ◌∷◌}
use Rattle.tau_disk.specs.declared.disk.Disk.{Ghosts}
use Rattle.tau_disk.specs.Disk.{Rose}
use Rattle.tau_disk.specs.Used.{RoseAt}
use Rattle.tau_model.specs.History.{Member}
use Rattle.tau_run.specs.RunFacts.{WroteFront}
use Rattle.tau_commands.specs.declared.status.Status.{Status}
use Rattle.tau_commands.specs.declared.status.Status.TheVariants as status
use Rattle.tau_commands.specs.Fault.{fault_text}
use Rattle.tau_commands.specs.Outside.{Output, Wrote}

-- the work was done, unless memory ran out
abbrev pub EndsWell : Status → Type 0
EndsWell answer = Member answer (status.Ok ∷ status.NoMemory ∷ [])

module _ (o : Output) (answer : Status) where
  abbrev pub wrote : List ℕ → Type 0
  wrote = Wrote o.hears o.held o.held'

  abbrev pub OneLine : Type 0
  OneLine = WroteFront wrote (Rose o.faults o.faults') (fault_text answer)

module _ {D : Type 0} (G : Ghosts D) (o : Output) (old new : List D) (answer : Status) where
  -- no count of the sink or of the first disks rose
  pub record NoneRose (n : ℕ) : Type 0 where
    pub sink : Rose o.faults o.faults' → ⊥
    pub disks : (j : ℕ) → j < n → RoseAt G.faults old new j → ⊥
