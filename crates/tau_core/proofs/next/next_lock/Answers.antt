use Rattle.std.proofs.Common.{inl, inr, refl, sym, ◌∙◌, arith}
use Rattle.tau_core.proofs.Firsts.{none_some, some_none}
use Rattle.tau_core.proofs.Numbers.{next_is_that}
use Rattle.tau_core.proofs.next.next_lock.Goals as goal
use Rattle.tau_base.proofs.Lists.{some_at}

pub returns-then-in_hand : goal.returns-then-in_hand
returns-then-in_hand c = λ s e. inl (λ none. some_none s.txn.hand (sym (c.in_hand.ensures s e) ∙ c.if-in_hand.true) none, c.lock_in_hand.ensures s e)

pub first_lock-requires-clause-call : goal.first_lock-requires-clause-call
first_lock-requires-clause-call c =
    let found = some_at c.args.state.now.seats.items c.args.worker (let n = c.requires.sound.seats in let t = c.requires.there in omega arith) in
    let number = next_is_that c.args.state.now.load c.args.worker found.0 c.in-Some.number (c.requires.sound.seat c.args.worker found.0 found.1) (sym (c.next_number.ensures found.0 found.1) ∙ c.in-Some.is) in
    (number.call, number.is)

pub returns-in-None : goal.returns-in-None
returns-in-None c = λ s e. inr (none_some s.txn.hand (sym (c.in_hand.ensures s e) ∙ c.if-in_hand.false), inr (sym (c.next_number.ensures s e) ∙ c.in-None.is, refl))

pub returns-in-Some : goal.returns-in-Some
returns-in-Some c = λ s e. inr (none_some s.txn.hand (sym (c.in_hand.ensures s e) ∙ c.if-in_hand.false), inl (c.in-Some.number, sym (c.next_number.ensures s e) ∙ c.in-Some.is, c.first_lock.ensures))
