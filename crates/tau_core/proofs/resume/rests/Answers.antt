use Rattle.std.proofs.Common.{sym, ◌∙◌}
use Rattle.tau_core.proofs.Firsts.{none_some, some_none}
use Rattle.tau_core.proofs.resume.rests.Goals as goal

pub returns-then-in_hand-clause-other : goal.returns-then-in_hand-clause-other
returns-then-in_hand-clause-other c = λ e s is r. some_none s.txn.hand (sym (c.in_hand.ensures s is) ∙ c.if-in_hand.true) r.0

pub returns-in-None-clause-rest : goal.returns-in-None-clause-rest
returns-in-None-clause-rest c = λ e s is. (none_some s.txn.hand (sym (c.in_hand.ensures s is) ∙ c.if-in_hand.false), sym (c.next_number.ensures s is) ∙ c.in-None.is)
