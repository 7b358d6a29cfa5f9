-- All calls are passed.
use Rattle.tau_inspect.proofs.walk.run_along.Goals as goal

pub returns : goal.returns
returns c = c.in_ok-pass_all.ensures c.if-not-branch.false
