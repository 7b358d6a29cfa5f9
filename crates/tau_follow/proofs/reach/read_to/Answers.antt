-- The last record tells where the stream is read to.
use Rattle.tau_follow.proofs.Reaching.{read_last}
use Rattle.tau_follow.proofs.reach.read_to.Goals as goal

pub returns : goal.returns
returns c = read_last c.args.records.now c.index-records-records.result c.if-records-lt2.false
