use Rattle.tau_ckpt_runs.proofs.Disks.{one_row}
use Rattle.tau_ckpt_runs.proofs.stops.one_row.Goals as goal

pub returns : goal.returns
returns c = one_row c.of.result c.new-rows.result.items c.push.new.self.items _ _ c.of.ensures c.in_ok-push.ensures.items c.new-rows.ensures.items
