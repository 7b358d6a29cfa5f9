-- What is read of the words after the first.
use Rattle.tau_text.proofs.OnePass.{get_called}
use Rattle.tau_text.proofs.quick.quick_get.Goals as goal

pub returns-clause-read : goal.returns-clause-read
returns-clause-read c = λ procs. get_called c.args.tables.now procs c.args.text.now c.two.new.args.items c.in_ok-rest.rest.now c.in_ok-rest.ensures.read
