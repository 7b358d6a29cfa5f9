-- A list of procedures keeps its limits as one is put at its end.
use Rattle.std.proofs.Common.{◌<◌, List, [], ◌∷◌, ◌++◌, length, arith, length-append, All}
use Rattle.std.proofs.lemmas.List.Elements.{All-append, All-cons, All-nil}
use Rattle.tau_base.specs.declared.limits.TheConstants.{MAX_PROCS}
use Rattle.tau_proc.specs.declared.proc.Proc.{Proc}
use Rattle.tau_proc.specs.Limits.{IsWellFormed, KeepsLimits}

one : (p : Proc) → IsWellFormed p → All IsWellFormed (p ∷ [])
one p well = All-cons IsWellFormed p [] well (All-nil IsWellFormed)

pub keeps_push : (procs : List Proc) (p : Proc) → KeepsLimits procs → length procs < MAX_PROCS → IsWellFormed p → KeepsLimits (procs ++ p ∷ [])
keeps_push procs p keeps room well = record {
  count = omega (arith, length-append procs (p ∷ []), room);
  each = All-append IsWellFormed procs (p ∷ []) keeps.each (one p well);
}
