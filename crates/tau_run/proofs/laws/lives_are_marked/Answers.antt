use Rattle.tau_run.proofs.Lives.{lives_marked}
use Rattle.tau_run.proofs.Marked.{fresh_marked}
use Rattle.tau_run.proofs.laws.lives_are_marked.Goals as goal

pub returns-clause-kept : goal.returns-clause-kept
returns-clause-kept c = lives_marked

pub returns-clause-fresh : goal.returns-clause-fresh
returns-clause-fresh c = fresh_marked
