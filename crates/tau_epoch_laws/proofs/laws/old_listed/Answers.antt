-- The laws are lemmas.
use Rattle.tau_epoch_laws.proofs.Listed.{old_listed, news_listed}
use Rattle.tau_epoch_laws.proofs.laws.old_listed.Goals as goal

pub returns-clause-old : goal.returns-clause-old
returns-clause-old c = old_listed

pub returns-clause-news : goal.returns-clause-news
returns-clause-news c = news_listed
