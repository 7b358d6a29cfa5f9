-- What is read of the words after the first.
use Rattle.tau_text.proofs.OnePass.{add_called}
use Rattle.tau_text.proofs.quick.quick_add.Goals as goal

pub returns-clause-read : goal.returns-clause-read
returns-clause-read c = λ procs. add_called c.args.tables.now procs c.args.text.now c.three.new.args.items c.in_ok-rest.rest.now c.in_ok-rest.ensures.add
