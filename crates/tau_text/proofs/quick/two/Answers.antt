-- A declared name, and a number.
use Rattle.std.proofs.Common.{arith}
use Rattle.tau_text.proofs.OnePass.{two_read, two_taken}
use Rattle.tau_text.proofs.quick.two.Goals as goal

pub returns-clause-read : goal.returns-clause-read
returns-clause-read c = two_read c.args.tables.now c.args.text.now c.in_ok-table.rest.now c.in_ok-row.rest.now c.in_ok-table.table c.in_ok-row.row c.set_two.new.args.items c.in_ok-table.ensures c.in_ok-row.ensures c.set_two.ensures

pub returns-clause-taken : goal.returns-clause-taken
returns-clause-taken c = two_taken c.in_ok-table.table c.in_ok-row.row c.set_two.new.args.items (omega (arith, c.in_ok-table.ensures.within, c.requires.few)) c.set_two.ensures

pub set_two-requires-clause-row : goal.set_two-requires-clause-row
set_two-requires-clause-row c = omega (arith, c.in_ok-row.ensures.few)
