-- What recovery with a checkpoint tells of sound contents.
use Rattle.std.specs.Prelude.{ℕ, ◌≡◌, ◌++◌, List}
use Rattle.tau_base.specs.declared.format.Format.{Format}
use Rattle.tau_base.specs.Database.{Db}
use Rattle.tau_scan.specs.declared.log.Log.{Log}
use Rattle.tau_scan.specs.Sound.{IsOrderOver, IsSound}
use Rattle.tau_scan.specs.Taken.{Kept}
use Rattle.tau_ckpt.specs.declared.slots.Slots.{Slots}
use Rattle.tau_ckpt.specs.Chosen.{chosen, left_to_redo}
use Rattle.tau_ckpt_laws.specs.Laws.{IsTrueIfTaken}
use Rattle.tau_commands.specs.Checkpoints.{IsRestorationOf, base_line}
use Rattle.tau_commands.specs.Recovery.{IsRecoveryOf}

-- it is what recovery tells, after the line of the checkpoint, if that is true for the contents
abbrev pub RestoresAsRecovery : Type 0
RestoresAsRecovery = (f : Format) (contents : List (List ℕ)) (log : Log) (base : Db) → IsSound f contents log base → (slots : Slots) → IsTrueIfTaken f contents log slots →
    (text told : List ℕ) → IsRestorationOf log slots text → IsRecoveryOf log told → text ≡ base_line (chosen log slots) ++ told

-- what it redoes has an orderly order, whatever the slots hold
abbrev pub RestoredOfAny : Type 0
RestoredOfAny = (f : Format) (contents : List (List ℕ)) (log : Log) (base : Db) → IsSound f contents log base → (slots : Slots) →
    (order : List Kept) × IsOrderOver (left_to_redo log (chosen log slots)) order
