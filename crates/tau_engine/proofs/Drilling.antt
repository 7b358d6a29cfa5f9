-- How a drill may end.
use Rattle.std.proofs.Common.{◌≡◌, sym, subst}
use Rattle.tau_text.specs.declared.load.Workload.{Workload}
use Rattle.tau_run.specs.CoreRun.{IsSoundLoad}
use Rattle.tau_engine.specs.Drill.{with_turns}

-- turns are no part of what makes a workload sound
pub sound_turns : (load other : Workload) → other ≡ with_turns load → IsSoundLoad load → IsSoundLoad other
sound_turns load other is s = subst (λ (l : Workload). IsSoundLoad l) (sym is) (record { short = s.short; bytes = s.bytes; read = s.read; taken = s.taken; named = s.named; steps = s.steps })
