-- Recovery with a true checkpoint tells what recovery tells.
use Rattle.std.proofs.Common.{ℕ, List, ◌≡◌, ◌++◌, sym, ap, ◌∙◌}
use Rattle.tau_base.specs.declared.value.Key.{Key}
use Rattle.tau_base.specs.declared.value.Value.{Value}
use Rattle.tau_report.specs.Recovery.{recover_text}
use Rattle.tau_ckpt.specs.Chosen.{chosen}
use Rattle.tau_ckpt_laws.proofs.Restored.{not_tangled, restored_is_recovered}
use Rattle.tau_commands.specs.Checkpoints.{base_line}
use Rattle.tau_commands.specs.Restoring.{RestoredOfAny, RestoresAsRecovery}

pub restores_as_recovery : RestoresAsRecovery
restores_as_recovery f contents log base sound slots true_if text told r plain =
    let rows : r.rows ≡ plain.rows = (restored_is_recovered f contents log base sound slots true_if r.rows r.redone).1 plain.rows plain.redone in
    r.text_is ∙ ap (λ (rs : List (Key × Value)). base_line (chosen log slots) ++ recover_text log rs) rows ∙ ap (λ (t : List ℕ). base_line (chosen log slots) ++ t) (sym plain.text_is)

pub restored_of_any : RestoredOfAny
restored_of_any f contents log base sound slots = not_tangled log sound.redone.ordered.0 sound.redone.ordered.1 slots
