use Rattle.tau_ckpt_runs.proofs.Disks.{quiet_of}
use Rattle.tau_ckpt_runs.proofs.stops.rewritten.Goals as goal

pub write_checkpoint-requires-clause-quiet : goal.write_checkpoint-requires-clause-quiet
write_checkpoint-requires-clause-quiet c = λ tells. quiet_of c.args.image.now _ _ c.in_ok-disk.ensures.holds c.in_ok-disk.ensures.synced
