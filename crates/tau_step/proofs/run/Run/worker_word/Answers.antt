use Rattle.std.proofs.Common.{arith}
use Rattle.std.specs.Prelude.{Ok, Err}
use Rattle.std.proofs.lemmas.Result.{err_from_is_err_and}
use Rattle.tau_step.specs.Optimists.{peeks_of}
use Rattle.tau_step.proofs.Running.{no_worker, word_works}
use Rattle.tau_step.proofs.run.Run.worker_word.Goals as goal

pub returns-then-worker-self : goal.returns-then-worker-self
returns-then-worker-self c = record { works = no_worker c.args.style (peeks_of c.args.peekers.now.items) c.args.worker c.args.self.now c.requires.stood (omega (arith, c.if-worker-self.true, c.requires.workers)); fit = c.requires.fit }

pub work-requires-clause-stood : goal.work-requires-clause-stood
work-requires-clause-stood c = c.requires.stood

pub work-requires-clause-there : goal.work-requires-clause-there
work-requires-clause-there c = omega (arith, c.if-worker-self.false, c.requires.workers)

pub work-requires-clause-lowest : goal.work-requires-clause-lowest
work-requires-clause-lowest c = c.requires.lowest

pub work-requires-clause-fit : goal.work-requires-clause-fit
work-requires-clause-fit c = c.requires.fit

pub returns-in_err-work : goal.returns-in_err-work
returns-in_err-work c = record {
  works = rw (err_from_is_err_and c.from_residual.result c.from_residual.ensures.1).1 (word_works c.args.style (peeks_of c.args.peekers.now.items) (peeks_of c.work.new.peekers.items) c.args.worker c.args.self.now c.work.new.self (Err _) c.in_err-work.ensures.works);
  fit = rw (err_from_is_err_and c.from_residual.result c.from_residual.ensures.1).1 tt;
}

pub returns : goal.returns
returns c = record { works = word_works c.args.style (peeks_of c.args.peekers.now.items) (peeks_of c.work.new.peekers.items) c.args.worker c.args.self.now c.work.new.self (Ok _) c.in_ok-work.ensures.works; fit = c.in_ok-work.ensures.fit }
