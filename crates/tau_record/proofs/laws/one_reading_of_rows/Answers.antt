use Rattle.tau_record.proofs.RowLaws.{rows_once}
use Rattle.tau_record.proofs.laws.one_reading_of_rows.Goals as goal

pub returns : goal.returns
returns c = rows_once
