-- A declared name, and its arguments.
use Rattle.std.proofs.Common.{sym}
use Rattle.tau_text.proofs.OnePass.{declared_called}
use Rattle.tau_text.proofs.quick.quick_declared.Goals as goal

pub returns-clause-read : goal.returns-clause-read
returns-clause-read c = λ tables. declared_called tables c.args.procs.now c.args.text.now c.in_ok-place.rest.now c.numbers.new.args.items c.in_ok-rest.rest.now c.in_ok-place.place c.args_of.result (sym c.args_of.ensures.value) c.in_ok-place.ensures.read c.in_ok-rest.ensures.read
