-- A call as a list keeps it.
use Rattle.std.specs.Prelude.{map}
use Rattle.tau_base.specs.declared.calls.Kept.{Kept}
use Rattle.tau_base.specs.declared.calls.Kept.TheVariants.{Short, Whole}
use Rattle.tau_base.specs.declared.value.Call.{Call}
use Rattle.tau_base.specs.declared.value.Value.TheVariants.{Int}

-- the call that is kept so
abbrev pub call_of : Kept → Call
call_of (Short proc args) = record { proc = proc; args = record { items = map Int args.items } }
call_of (Whole call) = call.value
