use Rattle.std.specs.Prelude.{Result, Ok, Err, OnOk}
use Rattle.tau_disk.proofs.Left.{write_stopped, write_synced}
use Rattle.tau_disk.proofs.durable.write_durably.Goals as goal

told : {T E : Type 0} (P A : Type 0) (r : Result T E) → P → OnOk r (P → A) → OnOk r A
told P A (Ok v) t is = is t
told P A (Err e) t is = tt

pub returns-in-Ok-clause-left : goal.returns-in-Ok-clause-left
returns-in-Ok-clause-left g c tells =
    write_synced _ _ c.args.at c.args.bytes.now _ _ _ _ _ _ _ _ _ _ _ _ _ _ _ _ _ _ _ c.in-Ok.field-0 c.sync.result (c.in-Ok.ensures.left tells) (c.in-Ok.ensures.plan tells).ok.0 (c.sync.ensures.left tells) (told _ _ c.sync.result tells c.sync.ensures.seen) (c.sync.ensures.plan tells)

pub returns-in-Err-clause-left : goal.returns-in-Err-clause-left
returns-in-Err-clause-left g c tells = write_stopped _ _ c.args.at c.args.bytes.now _ _ _ _ _ _ _ _ _ _ _ _ _ _ c.in-Err.field-0 _ (c.in-Err.ensures.left tells) (c.in-Err.ensures.plan tells)
