use Rattle.tau_gen.proofs.BenchSums.{any_order}
use Rattle.tau_gen.proofs.laws.any_order.Goals as goal

pub returns : goal.returns
returns c = any_order
