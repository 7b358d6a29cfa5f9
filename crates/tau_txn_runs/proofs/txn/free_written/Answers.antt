use Rattle.std.proofs.Common.{◌≡◌, refl, sym, subst}
use Rattle.std.specs.Prelude.{Some, IsSome}
use Rattle.tau_base.specs.declared.value.Mode.TheVariants.{Write}
use Rattle.tau_shard.specs.Shard.{Shard, entry_in}
use Rattle.tau_shard.specs.Read.{shard_of}
use Rattle.tau_txn.proofs.Blocked.{holds_written}
use Rattle.tau_txn_runs.proofs.txn.free_written.Goals as goal

pub free-requires-clause-held : goal.free-requires-clause-held
free-requires-clause-held g c =
    subst (λ (t : Shard). IsSome ((entry_in t c.args.key).holders c.in-Err-Busy.holder)) (sym c.in-Err-Busy.ensures.unchanged)
    (rw (holds_written (entry_in (shard_of c.args.shard.now) c.args.key) 31 c.in-Err-Busy.holder c.in-Err-Busy.field-0 c.in-Err-Busy.field-0-is c.in-Err-Busy.ensures.refused) refl)

pub free-requires-clause-writes : goal.free-requires-clause-writes
free-requires-clause-writes g c = λ _.
    subst (λ (t : Shard). (entry_in t c.args.key).holders c.in-Err-Busy.holder ≡ Some Write) (sym c.in-Err-Busy.ensures.unchanged)
    (holds_written (entry_in (shard_of c.args.shard.now) c.args.key) 31 c.in-Err-Busy.holder c.in-Err-Busy.field-0 c.in-Err-Busy.field-0-is c.in-Err-Busy.ensures.refused)
