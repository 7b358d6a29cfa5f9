use Rattle.std.proofs.Common.{◌≡◌, ◌++◌, take}
use Rattle.std.specs.List.{flat_map}
use Rattle.tau_text.specs.Canonical.{proc_text}
use Rattle.tau_text.proofs.print.put_procs.Given as goal

abbrev pub invariant-loop-proc : goal.invariant-loop-proc
invariant-loop-proc l = l.out.items ≡ l.initial.out.items ++ flat_map (proc_text l.tables) (take l.proc-index l.procs)
