-- A declared name, and two numbers.
use Rattle.std.proofs.Common.{arith}
use Rattle.tau_text.proofs.OnePass.{three_put, three_add, three_taken}
use Rattle.tau_text.proofs.quick.three.Goals as goal

pub returns-clause-put : goal.returns-clause-put
returns-clause-put c = three_put c.args.tables.now c.args.text.now c.in_ok-table.rest.now c.in_ok-row.rest.now c.in_ok-number.rest.now c.in_ok-table.table c.in_ok-row.row c.in_ok-number.number c.set_three.new.args.items c.in_ok-table.ensures c.in_ok-row.ensures c.in_ok-number.ensures c.set_three.ensures

pub returns-clause-add : goal.returns-clause-add
returns-clause-add c = three_add c.args.tables.now c.args.text.now c.in_ok-table.rest.now c.in_ok-row.rest.now c.in_ok-number.rest.now c.in_ok-table.table c.in_ok-row.row c.in_ok-number.number c.set_three.new.args.items c.in_ok-table.ensures c.in_ok-row.ensures c.in_ok-number.ensures c.set_three.ensures

pub returns-clause-taken : goal.returns-clause-taken
returns-clause-taken c = three_taken c.in_ok-table.table c.in_ok-row.row c.in_ok-number.number c.set_three.new.args.items (omega (arith, c.in_ok-table.ensures.within, c.requires.few)) c.set_three.ensures

pub set_three-requires-clause-row : goal.set_three-requires-clause-row
set_three-requires-clause-row c = omega (arith, c.in_ok-row.ensures.few)

pub set_three-requires-clause-number : goal.set_three-requires-clause-number
set_three-requires-clause-number c = omega (arith, c.in_ok-number.ensures.few)
