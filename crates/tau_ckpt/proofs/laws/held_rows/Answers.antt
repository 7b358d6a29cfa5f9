use Rattle.tau_ckpt.proofs.Rows.{held_tables}
use Rattle.tau_ckpt.proofs.laws.held_rows.Goals as goal

pub returns : goal.returns
returns c = held_tables
