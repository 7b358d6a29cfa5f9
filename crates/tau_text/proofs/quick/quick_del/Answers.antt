-- What is read of the words after the first.
use Rattle.tau_text.proofs.OnePass.{del_called}
use Rattle.tau_text.proofs.quick.quick_del.Goals as goal

pub returns-clause-read : goal.returns-clause-read
returns-clause-read c = λ procs. del_called c.args.tables.now procs c.args.text.now c.two.new.args.items c.in_ok-rest.rest.now c.in_ok-rest.ensures.read
