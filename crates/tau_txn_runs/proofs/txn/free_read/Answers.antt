use Rattle.std.proofs.Common.{sym, subst}
use Rattle.std.specs.Prelude.{IsSome}
use Rattle.tau_shard.specs.Shard.{Shard, entry_in}
use Rattle.tau_shard.specs.Read.{shard_of}
use Rattle.tau_txn.proofs.Blocked.{holds_some}
use Rattle.tau_txn_runs.proofs.txn.free_read.Goals as goal

pub free-requires-clause-held : goal.free-requires-clause-held
free-requires-clause-held g c =
    subst (λ (t : Shard). IsSome ((entry_in t c.args.key).holders c.in-Err-Busy.holder)) (sym c.in-Err-Busy.ensures.unchanged)
    (holds_some (entry_in (shard_of c.args.shard.now) c.args.key) 31 c.in-Err-Busy.holder c.in-Err-Busy.field-0 c.in-Err-Busy.field-0-is c.in-Err-Busy.ensures.refused)
