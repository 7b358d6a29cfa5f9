use Rattle.std.proofs.Common.{arith}
use Rattle.tau_record.proofs.RowLaws.{not_read, rows_taken}
use Rattle.tau_record.proofs.rows.read_writes.Goals as goal

pub returns-in-Ok-clause-rows : goal.returns-in-Ok-clause-rows
returns-in-Ok-clause-rows c = rows_taken c.args.count c.args.bytes.now (c.writes_of.new.writes.items, c.in-Ok.rest.now) (λ i. omega (arith, c.type_inv.bytes i)) c.in-Ok.ensures

pub returns-in-Err-Bad-clause-none : goal.returns-in-Err-Bad-clause-none
returns-in-Err-Bad-clause-none c rows rest h = not_read c.args.count c.args.bytes.now rows rest c.in-Err-Bad.field-0 c.in-Err-Bad.field-0-0 h c.in-Err-Bad.field-0-is c.in-Err-Bad.ensures
