-- One more bucket.
use Rattle.std.proofs.Common.{arith}
use Rattle.std.proofs.lemmas.Grind.{common_steps}
use Rattle.tau_model.proofs.Ascending.{each_push}
use Rattle.tau_model.proofs.report.empty_buckets.Goals as goal

pub loop-preserved : goal.loop-preserved
loop-preserved c = grind (arith, common_steps, each_push)
