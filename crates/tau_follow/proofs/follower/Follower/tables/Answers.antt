-- The rows are those of the applied records.
use Rattle.tau_follow.proofs.Listed.{applied_tables}
use Rattle.tau_follow.proofs.follower.Follower.tables.Goals as goal

pub returns-clause-fed : goal.returns-clause-fed
returns-clause-fed c = λ f n fed s h. (let a = h.state in let r = a.redone in applied_tables s a.catalogue _ a.one r.tables)
