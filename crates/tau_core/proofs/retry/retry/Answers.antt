use Rattle.std.proofs.Common.{refl, sym, ◌∙◌}
use Rattle.tau_core.specs.Firsts.{goes, begins, rests}
use Rattle.tau_core.proofs.Firsts.{none_some, some_none}
use Rattle.tau_core.proofs.retry.retry.Goals as goal

pub returns-then-in_hand : goal.returns-then-in_hand
returns-then-in_hand c = goes (λ s e none. some_none s.txn.hand (sym (c.in_hand.ensures s e) ∙ c.if-in_hand.true) none) c.retry_next.ensures

pub first_retry-requires-clause-rests : goal.first_retry-requires-clause-rests
first_retry-requires-clause-rests c = λ s e. none_some s.txn.hand (sym (c.in_hand.ensures s e) ∙ c.if-in_hand.false)

pub returns-in-None : goal.returns-in-None
returns-in-None c = rests refl refl (λ s e. none_some s.txn.hand (sym (c.in_hand.ensures s e) ∙ c.if-in_hand.false)) (λ s e. sym (c.next_number.ensures s e) ∙ c.in-None.is)

pub returns-in-Some : goal.returns-in-Some
returns-in-Some c = begins c.in-Some.number (λ s e. none_some s.txn.hand (sym (c.in_hand.ensures s e) ∙ c.if-in_hand.false)) (λ s e. sym (c.next_number.ensures s e) ∙ c.in-Some.is) c.first_retry.ensures
