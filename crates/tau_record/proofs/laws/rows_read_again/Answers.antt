use Rattle.std.proofs.Common.{refl}
use Rattle.tau_record.proofs.laws.rows_read_again.Goals as goal

pub returns : goal.returns
returns c rows rest are = record { count_is = refl; are_rows = are; parts = refl }
