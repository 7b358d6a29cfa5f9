-- One more stream.
use Rattle.std.proofs.Common.{arith}
use Rattle.std.proofs.lemmas.Grind.{common_steps}
use Rattle.tau_model.proofs.Ascending.{each_push}
use Rattle.tau_model.proofs.report.streams_of.Goals as goal

pub loop-j-preserved : goal.loop-j-preserved
loop-j-preserved c = grind (arith, common_steps, each_push)
