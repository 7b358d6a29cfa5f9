use Rattle.std.specs.Prelude.{Ok, Err}
use Rattle.std.proofs.lemmas.Result.{err_from_is_err_and}
use Rattle.tau_step.proofs.ManagerRuns.{no_manager, word_manages}
use Rattle.tau_step.proofs.run.Run.manager_word.Goals as goal

pub returns-then-stream-self : goal.returns-then-stream-self
returns-then-stream-self g c = record { manages = no_manager g.met.D.Disk.seen_now c.args.writers.now.items c.args.stream c.args.self.now c.requires.on c.if-stream-self.true }

pub returns-in_err-manage : goal.returns-in_err-manage
returns-in_err-manage g c = record { manages = rw (err_from_is_err_and c.from_residual.result c.from_residual.ensures.1).1 (word_manages g.met.D.Disk.seen_now c.args.writers.now.items c.manage.new.writers.items c.args.stream c.args.self.now c.manage.new.self (Err _) c.in_err-manage.ensures.manages) }

pub returns : goal.returns
returns g c = record { manages = word_manages g.met.D.Disk.seen_now c.args.writers.now.items c.manage.new.writers.items c.args.stream c.args.self.now c.manage.new.self (Ok _) c.in_ok-manage.ensures.manages }
