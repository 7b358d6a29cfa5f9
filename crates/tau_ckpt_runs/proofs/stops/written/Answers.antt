use Rattle.std.proofs.Common.{[]}
use Rattle.tau_ckpt_runs.proofs.Disks.{quiet_again, quiet_of}
use Rattle.tau_ckpt_runs.proofs.stops.written.Goals as goal

pub write_checkpoint-requires-clause-quiet : goal.write_checkpoint-requires-clause-quiet
write_checkpoint-requires-clause-quiet c = λ tells. quiet_of [] _ _ c.in_ok-disk.ensures.empty c.in_ok-disk.ensures.synced

pub write_checkpoint-done-requires-clause-quiet : goal.write_checkpoint-done-requires-clause-quiet
write_checkpoint-done-requires-clause-quiet c = λ tells. quiet_again _ _ 0 _ (c.in-Ok.ensures.durable tells) (c.in-Ok.ensures.done tells)
