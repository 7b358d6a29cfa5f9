-- The values looked at so far are those of the database.
use Rattle.std.proofs.Common.{take}
use Rattle.tau_proc.specs.Effect.{Agrees}
use Rattle.tau_model.specs.Store.{database}
use Rattle.tau_replay.proofs.outcome.has_values.Given as goal

abbrev pub invariant-loop-key : goal.invariant-loop-key
invariant-loop-key l = Agrees (take l.key-index l.reads) (database l.store)
