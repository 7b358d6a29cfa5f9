-- A workload that was read is sound.
use Rattle.std.proofs.Common.{ℕ, ◌≡◌, List, true, Ok, subst}
use Rattle.std.proofs.lemmas.Option.{get_or_from_slice_get, slice_get_within}
use Rattle.tau_base.specs.declared.value.Call.{Call}
use Rattle.tau_proc.specs.Takes.{takes}
use Rattle.tau_text.specs.declared.load.Workload.{Workload}
use Rattle.tau_text.specs.Kept.{IsRunnable}
use Rattle.tau_text.specs.Text.{workload_of}
use Rattle.tau_run.specs.CoreRun.{IsSoundLoad}
use Rattle.tau_run.proofs.Sources.{sound_load}

pub sound_of : (text : List ℕ) (load : Workload) → workload_of text ≡ Ok load → IsRunnable load → IsSoundLoad load
sound_of text load e is = sound_load text load e (λ k c got.
    let all = is.calls.taken k c (slice_get_within load.calls k c got) in
    subst (λ (d : Call). takes load.declarations.procs d ≡ true) (get_or_from_slice_get load.calls k c c got) all)
